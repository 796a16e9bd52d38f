-- Texts that are said one behind another.
use Rattle.std.proofs.Common.{◌≡◌, List, ℕ, [], ◌++◌, sym, ap, ◌∙◌, append_assoc, append-nil}
use Rattle.std.specs.declared.option.Option.{Option}
use Rattle.std.specs.Io.KnownBytes.{Appends}
use Rattle.cube_io.specs.Content.{AppendsPrefix}
use Rattle.cube_io.proofs.Told.{appends_then, appends_none, appends_same}
use Rattle.cube_talk.specs.Talk.{Spoke}

pub spoke_none : (p : List ℕ) (w : Option (List ℕ)) → Spoke [] p p w w
spoke_none p w = record { front = []; whole = append-nil p; put = appends_none w }

-- all of it waits
pub spoke_kept : (a p q : List ℕ) (w : Option (List ℕ)) → q ≡ p ++ a → Spoke a p q w w
spoke_kept a p q w e = record { front = []; whole = sym e; put = appends_none w }

-- what waited was written, and then this
pub spoke_put : (a p q : List ℕ) (w x y : Option (List ℕ)) → q ≡ [] → Appends w x p → Appends x y a → Spoke a p q w y
spoke_put a p q w x y none first then_ = record {
  front = p ++ a;
  whole = rw none (sym (append-nil (p ++ a)));
  put = appends_then w x y p a first then_;
}

pub spoke_then : (a b p q r : List ℕ) (w x y : Option (List ℕ)) → Spoke a p q w x → Spoke b q r x y → Spoke (a ++ b) p r w y
spoke_then a b p q r w x y s t = record {
  front = s.front ++ t.front;
  whole = sym (append_assoc p a b) ∙ ap (λ (l : List ℕ). l ++ b) s.whole ∙ append_assoc s.front q b ∙ ap (λ (l : List ℕ). s.front ++ l) t.whole ∙ sym (append_assoc s.front t.front r);
  put = appends_then w x y s.front t.front s.put t.put;
}

-- a put failed before what comes behind
pub broken_before : (a b : List ℕ) (w x : Option (List ℕ)) → AppendsPrefix w x a → AppendsPrefix w x (a ++ b)
broken_before a b w x k = record {
  said = k.said;
  unsaid = k.unsaid ++ b;
  whole = ap (λ (l : List ℕ). l ++ b) k.whole ∙ append_assoc k.said k.unsaid b;
  grows = k.grows;
}

pub broken_early : (a b p : List ℕ) (w x : Option (List ℕ)) → AppendsPrefix w x (p ++ a) → AppendsPrefix w x (p ++ (a ++ b))
broken_early a b p w x k = rw (sym (append_assoc p a b)) (broken_before (p ++ a) b w x k)

pub broken_behind : (a b : List ℕ) (w x y : Option (List ℕ)) → Appends w x a → AppendsPrefix x y b → AppendsPrefix w y (a ++ b)
broken_behind a b w x y h k = record {
  said = a ++ k.said;
  unsaid = k.unsaid;
  whole = ap (λ (l : List ℕ). a ++ l) k.whole ∙ sym (append_assoc a k.said k.unsaid);
  grows = appends_then w x y a k.said h k.grows;
}

-- a put failed behind what was said
pub spoke_broken : (a b p q : List ℕ) (w x y : Option (List ℕ)) → Spoke a p q w x → AppendsPrefix x y (q ++ b) → AppendsPrefix w y (p ++ (a ++ b))
spoke_broken a b p q w x y s k =
    let whole : p ++ (a ++ b) ≡ s.front ++ (q ++ b) = sym (append_assoc p a b) ∙ ap (λ (l : List ℕ). l ++ b) s.whole ∙ append_assoc s.front q b in
    rw whole (broken_behind s.front (q ++ b) w x y s.put k)

-- what waited was written too
pub spoke_flushed : (a p q : List ℕ) (w x y : Option (List ℕ)) → Spoke a p q w x → Appends x y q → Appends w y (p ++ a)
spoke_flushed a p q w x y s h = appends_same w y (s.front ++ q) (p ++ a) (sym s.whole) (appends_then w x y s.front q s.put h)

pub spoke_half : (a p q : List ℕ) (w x y : Option (List ℕ)) → Spoke a p q w x → AppendsPrefix x y q → AppendsPrefix w y (p ++ a)
spoke_half a p q w x y s k = rw s.whole (broken_behind s.front q w x y s.put k)
