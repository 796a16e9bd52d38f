-- What is told of one call behind another: bytes that are taken and written, work on a store, calls on a wire.
use Rattle.std.proofs.Common.{◌≡◌, ◌<◌, ℕ, List, [], ◌++◌, length, take, drop, ◌+◌, ◌≤◌, None, Some, refl, sym, subst, ap, ◌∙◌, append_assoc, append-nil, length-append, take-append-drop, arith}
use Rattle.std.specs.Prelude.{IfSome, IsTrue}
use Rattle.std.specs.declared.option.Option.{Option}
use Rattle.std.specs.Io.KnownBytes.{Appends, Consumes, Keeps}
use Rattle.cube_io.specs.Content.{AppendsPrefix}
use Rattle.cube_io.specs.Seen.{StoreState, WireState}
use Rattle.cube_io.specs.Told.{Works, SameLogs, OthersStay, PlaysOn}

pub consumes_then : (l m n : Option (List ℕ)) (a b : List ℕ) → Consumes l m a → Consumes m n b → Consumes l n (a ++ b)
consumes_then None m n a b h k = tt
consumes_then (Some xs) None n a b h k = absurd h
consumes_then (Some xs) (Some ys) None a b h k = absurd k
consumes_then (Some xs) (Some ys) (Some zs) a b h k = h ∙ ap (λ (l : List ℕ). a ++ l) k ∙ sym (append_assoc a b zs)

pub appends_then : (l m n : Option (List ℕ)) (a b : List ℕ) → Appends l m a → Appends m n b → Appends l n (a ++ b)
appends_then None m n a b h k = tt
appends_then (Some xs) None n a b h k = absurd h
appends_then (Some xs) (Some ys) None a b h k = absurd k
appends_then (Some xs) (Some ys) (Some zs) a b h k = k ∙ ap (λ (l : List ℕ). l ++ b) h ∙ append_assoc xs a b

pub consumes_none : (l : Option (List ℕ)) → Consumes l l []
consumes_none None = tt
consumes_none (Some xs) = refl

pub appends_none : (l : Option (List ℕ)) → Appends l l []
appends_none None = tt
appends_none (Some xs) = sym (append-nil xs)

pub appends_same : (l m : Option (List ℕ)) (a b : List ℕ) → a ≡ b → Appends l m a → Appends l m b
appends_same l m a b e h = rw e at h

-- a prefix behind what was written, with more behind it
pub prefix_within : (l m n : Option (List ℕ)) (a b c whole : List ℕ) → Appends l m a → AppendsPrefix m n b → whole ≡ a ++ b ++ c → AppendsPrefix l n whole
prefix_within l m n a b c whole h k is = record {
  said = a ++ k.said;
  unsaid = k.unsaid ++ c;
  whole = is ∙ ap (λ (x : List ℕ). (a ++ x) ++ c) k.whole ∙ regroup a k.said k.unsaid c;
  grows = appends_then l m n a k.said h k.grows;
}
  where
    regroup : (p q r s : List ℕ) → (p ++ (q ++ r)) ++ s ≡ (p ++ q) ++ (r ++ s)
    regroup p q r s = simp append_assoc

-- ---- a piece that is written front by front

-- all of the piece but the rest was written
pub record Written (old new : Option (List ℕ)) (piece rest : List ℕ) : Type 0 where
  pub said : List ℕ
  pub whole : piece ≡ said ++ rest
  pub grows : Appends old new said

pub written_none : (l : Option (List ℕ)) (piece : List ℕ) → Written l l piece piece
written_none l piece = record { said = []; whole = refl; grows = appends_none l }

pub written_more : (l m n : Option (List ℕ)) (piece rest : List ℕ) (count : ℕ) → Written l m piece rest → Appends m n (take count rest) → Written l n piece (drop count rest)
written_more l m n piece rest count w more = record {
  said = w.said ++ take count rest;
  whole = w.whole ∙ ap (λ (x : List ℕ). w.said ++ x) (sym (take-append-drop count rest)) ∙ sym (append_assoc w.said (take count rest) (drop count rest));
  grows = appends_then l m n w.said (take count rest) w.grows more;
}

pub written_front : (l m : Option (List ℕ)) (piece rest : List ℕ) → Written l m piece rest → AppendsPrefix l m piece
written_front l m piece rest w = record { said = w.said; unsaid = rest; whole = w.whole; grows = w.grows }

pub written_all : (l m : Option (List ℕ)) (piece rest : List ℕ) → Written l m piece rest → rest ≡ [] → Appends l m piece
written_all l m piece rest w none = appends_same l m w.said piece (sym (w.whole ∙ ap (λ (x : List ℕ). w.said ++ x) none ∙ append-nil w.said)) w.grows

keeps_none : (l m : Option (List ℕ)) → Keeps l m → Appends l m []
keeps_none None m k = tt
keeps_none (Some xs) None k = absurd k
keeps_none (Some xs) (Some ys) k = k ∙ sym (append-nil xs)

pub written_keeps : (l m n : Option (List ℕ)) (piece rest : List ℕ) → Written l m piece rest → Keeps m n → Written l n piece rest
written_keeps l m n piece rest w k = record {
  said = w.said;
  whole = w.whole;
  grows = appends_same l n (w.said ++ []) w.said (append-nil w.said) (appends_then l m n w.said [] w.grows (keeps_none m n k));
}

-- ---- a file that is read piece by piece

-- where more was taken than a file may have, more was there
pub longer_there : (l m : Option (List ℕ)) (said : List ℕ) (most : ℕ) → Consumes l m said → most < length said → IfSome l (λ bytes. most < length bytes)
longer_there None m said most h long = tt
longer_there (Some xs) None said most h long = absurd h
longer_there (Some xs) (Some ys) said most h long = rw (h, length-append) (omega (arith, long))

-- ---- one call behind another

pub works_none : (s : StoreState) → IsTrue s.attached → Works s s 0
works_none s is = record { told = refl; attached = is; names = λ told. refl; calls = λ told. omega arith }

pub works_then : (a b c : StoreState) (m n most : ℕ) → Works a b m → Works b c n → m + n ≤ most → Works a c most
works_then a b c m n most f g few = record {
  told = g.told ∙ f.told;
  attached = g.attached;
  names = λ told. g.names (subst IsTrue (sym f.told) told) ∙ f.names told;
  calls = λ told. omega (arith, g.calls (subst IsTrue (sym f.told) told), f.calls told, few);
}

pub works_few : (a b : StoreState) (m most : ℕ) → Works a b m → m ≤ most → Works a b most
works_few a b m most f few = record { told = f.told; attached = f.attached; names = f.names; calls = λ told. omega (arith, f.calls told, few) }

pub others_same : (log : ℕ) (a b : StoreState) → SameLogs a b → OthersStay log a b
others_same log a b same = λ told k other. same told k

pub others_then : (log : ℕ) (a b c : StoreState) (m : ℕ) → Works a b m → OthersStay log a b → OthersStay log b c → OthersStay log a c
others_then log a b c m f first second = λ told k other. second (subst IsTrue (sym f.told) told) k other ∙ first told k other

pub plays_none : (s : WireState) → PlaysOn s s
plays_none s = record { told = refl; plan = refl; heard = λ told. refl }

pub plays_then : (a b c : WireState) → PlaysOn a b → PlaysOn b c → PlaysOn a c
plays_then a b c f g = record { told = g.told ∙ f.told; plan = g.plan ∙ f.plan; heard = λ told. g.heard (subst IsTrue (sym f.told) told) ∙ f.heard told }
