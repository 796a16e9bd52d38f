-- What may be put while lines are answered one after another.
use Rattle.std.proofs.Common.{◌≡◌, ◌≢◌, ◌⊎◌, inl, inr, ◌≤◌, ℕ, Bool, IsTrue, List, [], ◌∷◌, ◌++◌, length, refl, sym, ap, ◌∙◌, append_assoc, append-nil, arith, Some, subst}
use Rattle.std.specs.declared.option.Option.{Option}
use Rattle.std.specs.Io.KnownBytes.{Appends}
use Rattle.cube_io.specs.Seen.{StoreState}
use Rattle.cube_io.proofs.Told.{appends_then, appends_none, appends_same}
use Rattle.cube_talk.specs.Putting.{IsNext, says_over, Permits, MayPut, MayAnswer, InSight}
use Rattle.cube_talk.specs.Piece.{PieceSays, HeardLine}
use Rattle.cube_talk.specs.Talk.{Spoke}
use Rattle.cube_talk.specs.declared.talk.Heard.{Heard}
use Rattle.cube_talk.specs.declared.talk.Heard.TheVariants as heard
use Rattle.cube_talk.proofs.Speech.{Speech}

-- ---- texts

-- a part of what may be put, behind the part before it
pub may_more : (allows : StoreState → List ℕ → List ℕ → Type 0) (s : StoreState) (w x : Option (List ℕ)) (text a b c : List ℕ) → MayPut allows s w text → text ≡ a ++ (b ++ c) → Appends w x a → MayPut allows s x b
may_more allows s w x text a b c may is put = λ told bytes said piece rest grows split.
    may told bytes (a ++ said) piece (rest ++ c) (appends_then w x (Some bytes) a said put grows) (is ∙ ap (λ (l : List ℕ). a ++ (l ++ c)) split ∙ regroup a said piece rest c)
  where
    regroup : (p q r s t : List ℕ) → p ++ ((q ++ (r ++ s)) ++ t) ≡ (p ++ q) ++ (r ++ (s ++ t))
    regroup p q r s t = simp append_assoc

pub may_front : (allows : StoreState → List ℕ → List ℕ → Type 0) (s : StoreState) (w : Option (List ℕ)) (a b : List ℕ) → MayPut allows s w (a ++ b) → MayPut allows s w a
may_front allows s w a b may = may_more allows s w w (a ++ b) [] a b may refl (appends_none w)

pub may_behind : (allows : StoreState → List ℕ → List ℕ → Type 0) (s : StoreState) (w x : Option (List ℕ)) (a b : List ℕ) → MayPut allows s w (a ++ b) → Appends w x a → MayPut allows s x b
may_behind allows s w x a b may put = may_more allows s w x (a ++ b) a b [] may (ap (λ (l : List ℕ). a ++ l) (sym (append-nil b))) put

-- what is left to say behind what was said
pub may_spoke : (allows : StoreState → List ℕ → List ℕ → Type 0) (s : StoreState) (w x : Option (List ℕ)) (a b p q : List ℕ) → MayPut allows s w (p ++ (a ++ b)) → Spoke a p q w x → MayPut allows s x (q ++ b)
may_spoke allows s w x a b p q may k =
    may_behind allows s w x k.front (q ++ b) (subst (λ (l : List ℕ). MayPut allows s w l) (sym (append_assoc p a b) ∙ ap (λ (l : List ℕ). l ++ b) k.whole ∙ append_assoc k.front q b) may) k.put

-- what waits behind what was said
pub may_wait : (allows : StoreState → List ℕ → List ℕ → Type 0) (s : StoreState) (w x : Option (List ℕ)) (a p q : List ℕ) → MayPut allows s w (p ++ a) → Spoke a p q w x → MayPut allows s x q
may_wait allows s w x a p q may k = may_behind allows s w x k.front q (subst (λ (l : List ℕ). MayPut allows s w l) k.whole may) k.put

-- all of it at once
pub may_whole : (allows : StoreState → List ℕ → List ℕ → Type 0) (s : StoreState) (w : Option (List ℕ)) (text : List ℕ) → MayPut allows s w text → IsTrue s.told → (bytes : List ℕ) → w ≡ Some bytes → allows s bytes text
may_whole allows s w text may told bytes is =
    may told bytes [] text [] (subst (λ (o : Option (List ℕ)). Appends w o []) is (appends_none w)) (sym (append-nil text))

-- what was said, and then all that waited was written
pub spoke_written : (a p q r : List ℕ) (w x y : Option (List ℕ)) → Spoke a p q w x → Appends x y q → r ≡ [] → Spoke a p r w y
spoke_written a p q r w x y k put none = record {
  front = k.front ++ q;
  whole = k.whole ∙ rw none (sym (append-nil (k.front ++ q)));
  put = appends_then w x y k.front q k.put put;
}

said_on : (text part waiting more front rest : List ℕ) → text ≡ part ++ waiting → waiting ++ more ≡ front ++ rest → text ++ more ≡ (part ++ front) ++ rest
said_on text part waiting more front rest is split = ap (λ (l : List ℕ). l ++ more) is ∙ append_assoc part waiting more ∙ ap (λ (l : List ℕ). part ++ l) split ∙ sym (append_assoc part front rest)

-- ---- lines

-- Lines were answered, and what waits is the rest of what is said to them. The answers to the first stand written, and of the others
-- nothing was kept.
pub record Behind {A B : Type 0} (says : A → B → List (List ℕ) → A → B → List ℕ → Type 0) (kept : A → ℕ) (a : A) (b : B) (start : Option (List ℕ)) (a' : A) (b' : B) (now : Option (List ℕ)) (waiting : List ℕ) : Type 0 where
  pub first : List (List ℕ)
  pub after_first : A
  pub store_after_first : B
  pub written : List ℕ
  pub answered : says a b first after_first store_after_first written
  pub idle : List (List ℕ)
  pub text : List ℕ
  pub kept_none : says after_first store_after_first idle a' b' text
  pub same : kept a' ≡ kept after_first
  pub part : List ℕ
  pub stands : Appends start now (written ++ part)
  pub whole : text ≡ part ++ waiting

pub behind_start : {A B : Type 0} (sp : Speech A B) (kept : A → ℕ) (a : A) (b : B) (w : Option (List ℕ)) (waiting : List ℕ) → waiting ≡ [] → Behind sp.says kept a b w a b w waiting
behind_start sp kept a b w waiting none = record {
  first = [];
  after_first = a;
  store_after_first = b;
  written = [];
  answered = sp.silent a b;
  idle = [];
  text = [];
  kept_none = sp.silent a b;
  same = refl;
  part = [];
  stands = appends_none w;
  whole = sym none;
}

-- what comes next of the answers to them and to one more line at most
behind_next : {A B : Type 0} (sp : Speech A B) (kept : A → ℕ) (a a' a'' : A) (b b' b'' : B) (start now : Option (List ℕ)) (waiting : List ℕ) (last : List (List ℕ)) (reply bytes said piece rest : List ℕ)
    → Behind sp.says kept a b start a' b' now waiting → sp.says a' b' last a'' b'' reply → length last ≤ 1 → Appends now (Some bytes) said → waiting ++ reply ≡ said ++ (piece ++ rest)
    → IsNext {X = A × B} (says_over sp.says) (λ x. kept x.0) (a, b) start (a'', b'') (Some bytes) piece
behind_next sp kept a a' a'' b b' b'' start now waiting last reply bytes said piece rest k answer one put split = record {
  first = k.first;
  after_first = (k.after_first, k.store_after_first);
  written = k.written;
  answered = k.answered;
  idle = k.idle;
  after_idle = (a', b');
  text = k.text;
  kept_none = k.kept_none;
  same = k.same;
  last = last;
  reply = reply;
  answered_last = answer;
  one = one;
  part = k.part ++ said;
  stands = appends_same start (Some bytes) ((k.written ++ k.part) ++ said) (k.written ++ (k.part ++ said)) (append_assoc k.written k.part said) (appends_then start now (Some bytes) (k.written ++ k.part) said k.stands put);
  rest = rest;
  whole = ap (λ (l : List ℕ). l ++ reply) k.whole ∙ append_assoc k.part waiting reply ∙ ap (λ (l : List ℕ). k.part ++ l) split ∙ sym (append_assoc k.part said (piece ++ rest));
}

-- so what is answered to a line may be put
pub behind_answer : {A B : Type 0} (sp : Speech A B) (kept : A → ℕ) (state : B → StoreState) (allows : StoreState → List ℕ → List ℕ → Type 0) (a a' : A) (b b' : B) (start now : Option (List ℕ)) (waiting line : List ℕ)
    → Permits sp.says kept state allows a b start → Behind sp.says kept a b start a' b' now waiting → MayAnswer sp.says state allows a' b' (line ∷ []) now waiting
behind_answer sp kept state allows a a' b b' start now waiting line permits k = λ a'' b'' text answer told bytes said piece rest put split.
    permits a'' b'' bytes piece told (behind_next sp kept a a' a'' b b' b'' start now waiting (line ∷ []) text bytes said piece rest k answer (omega arith) put split)

-- and so may what waits
pub behind_may : {A B : Type 0} (sp : Speech A B) (kept : A → ℕ) (state : B → StoreState) (allows : StoreState → List ℕ → List ℕ → Type 0) (a a' : A) (b b' : B) (start now : Option (List ℕ)) (waiting : List ℕ)
    → Permits sp.says kept state allows a b start → Behind sp.says kept a b start a' b' now waiting → MayPut allows (state b') now waiting
behind_may sp kept state allows a a' b b' start now waiting permits k = λ told bytes said piece rest put split.
    permits a' b' bytes piece told (behind_next sp kept a a' a' b b' b' start now waiting [] [] bytes said piece rest k (sp.silent a' b') (omega arith) put (append-nil waiting ∙ split))

-- one more line, of which nothing was kept, or whose answer is written
behind_more : {A B : Type 0} (sp : Speech A B) (kept : A → ℕ) (a a' a'' : A) (b b' b'' : B) (start now then_ : Option (List ℕ)) (waiting waiting' line text : List ℕ)
    → Behind sp.says kept a b start a' b' now waiting → sp.says a' b' (line ∷ []) a'' b'' text → Spoke text waiting waiting' now then_ → (kept a'' ≡ kept a') ⊎ (waiting' ≡ [])
    → Behind sp.says kept a b start a'' b'' then_ waiting'
behind_more sp kept a a' a'' b b' b'' start now then_ waiting waiting' line text k answer spoke (inl same) = record {
  first = k.first;
  after_first = k.after_first;
  store_after_first = k.store_after_first;
  written = k.written;
  answered = k.answered;
  idle = k.idle ++ line ∷ [];
  text = k.text ++ text;
  kept_none = sp.onward k.after_first a' a'' k.store_after_first b' b'' k.idle (line ∷ []) k.text text k.kept_none answer;
  same = same ∙ k.same;
  part = k.part ++ spoke.front;
  stands = appends_same start then_ ((k.written ++ k.part) ++ spoke.front) (k.written ++ (k.part ++ spoke.front)) (append_assoc k.written k.part spoke.front) (appends_then start now then_ (k.written ++ k.part) spoke.front k.stands spoke.put);
  whole = said_on k.text k.part waiting text spoke.front waiting' k.whole spoke.whole;
}
behind_more sp kept a a' a'' b b' b'' start now then_ waiting waiting' line text k answer spoke (inr none) = record {
  first = k.first ++ (k.idle ++ line ∷ []);
  after_first = a'';
  store_after_first = b'';
  written = k.written ++ (k.text ++ text);
  answered = sp.onward a k.after_first a'' b k.store_after_first b'' k.first (k.idle ++ line ∷ []) k.written (k.text ++ text) k.answered (sp.onward k.after_first a' a'' k.store_after_first b' b'' k.idle (line ∷ []) k.text text k.kept_none answer);
  idle = [];
  text = [];
  kept_none = sp.silent a'' b'';
  same = refl;
  part = [];
  stands = appends_same start then_ ((k.written ++ k.part) ++ spoke.front) ((k.written ++ (k.text ++ text)) ++ []) all (appends_then start now then_ (k.written ++ k.part) spoke.front k.stands spoke.put);
  whole = sym none;
}
  where
    all : (k.written ++ k.part) ++ spoke.front ≡ (k.written ++ (k.text ++ text)) ++ []
    all = append_assoc k.written k.part spoke.front
        ∙ ap (λ (l : List ℕ). k.written ++ l) (sym (append-nil (k.part ++ spoke.front)) ∙ ap (λ (l : List ℕ). (k.part ++ spoke.front) ++ l) (sym none) ∙ sym (said_on k.text k.part waiting text spoke.front waiting' k.whole spoke.whole))
        ∙ sym (append-nil (k.written ++ (k.text ++ text)))

-- however a line was answered that broke no put
pub behind_heard : {A B : Type 0} (sp : Speech A B) (kept : A → ℕ) (h : Heard) (a a' a'' : A) (b b' b'' : B) (start now then_ : Option (List ℕ)) (waiting waiting' line : List ℕ)
    → h ≢ heard.OutputFailed → Behind sp.says kept a b start a' b' now waiting
    → (h ≢ heard.NoMemory → HeardLine sp.says (PieceSays h waiting waiting' now then_) a' a'' b' b'' line)
    → (h ≡ heard.NoMemory → (a'' ≡ a') × (b'' ≡ b') × (waiting' ≡ waiting) × (then_ ≡ now))
    → (kept a'' ≡ kept a') ⊎ (waiting' ≡ []) → Behind sp.says kept a b start a'' b'' then_ waiting'
behind_heard sp kept heard.All a a' a'' b b' b'' start now then_ waiting waiting' line whole k said none settled =
    let l = said (λ e. cc) in behind_more sp kept a a' a'' b b' b'' start now then_ waiting waiting' line l.text k l.answered l.went settled
behind_heard sp kept heard.Spent a a' a'' b b' b'' start now then_ waiting waiting' line whole k said none settled =
    let l = said (λ e. cc) in behind_more sp kept a a' a'' b b' b'' start now then_ waiting waiting' line l.text k l.answered l.went settled
behind_heard sp kept heard.NoMemory a a' a'' b b' b'' start now then_ waiting waiting' line whole k said none settled =
    let (ea, eb, ew, eo) = none refl in rw (ea, eb, ew, eo) k
behind_heard sp kept heard.OutputFailed a a' a'' b b' b'' start now then_ waiting waiting' line whole k said none settled = absurd (whole refl)

-- ---- a talk

-- behind lines whose answers stand written, what may be put next may be put next of all the lines
pub permits_on : {A B : Type 0} (sp : Speech A B) (kept : A → ℕ) (state : B → StoreState) (allows : StoreState → List ℕ → List ℕ → Type 0) (a a' : A) (b b' : B) (start now : Option (List ℕ)) (ls : List (List ℕ)) (text : List ℕ)
    → Permits sp.says kept state allows a b start → sp.says a b ls a' b' text → Appends start now text → Permits sp.says kept state allows a' b' now
permits_on sp kept state allows a a' b b' start now ls text permits answered put = λ a'' b'' bytes piece told n. permits a'' b'' bytes piece told (record {
  first = ls ++ n.first;
  after_first = n.after_first;
  written = text ++ n.written;
  answered = sp.onward a a' n.after_first.0 b b' n.after_first.1 ls n.first text n.written answered n.answered;
  idle = n.idle;
  after_idle = n.after_idle;
  text = n.text;
  kept_none = n.kept_none;
  same = n.same;
  last = n.last;
  reply = n.reply;
  answered_last = n.answered_last;
  one = n.one;
  part = n.part;
  stands = appends_same start (Some bytes) (text ++ (n.written ++ n.part)) ((text ++ n.written) ++ n.part) (sym (append_assoc text n.written n.part)) (appends_then start now (Some bytes) text (n.written ++ n.part) put n.stands);
  rest = n.rest;
  whole = n.whole;
})

-- ---- stores in sight

pub sight_none : (s : StoreState) (loose : ℕ) → InSight s s loose loose
sight_none s loose = record { told_stays = refl; sight = λ told. refl }

pub sight_then : (s t u : StoreState) (k m n : ℕ) → InSight s t k m → InSight t u m n → InSight s u k n
sight_then s t u k m n h j = record { told_stays = j.told_stays ∙ h.told_stays; sight = λ told. j.sight (subst (λ (b : Bool). IsTrue b) (sym h.told_stays) told) ∙ h.sight told }

-- a store stays, and pieces are put over it
pub sight_over : (s t : StoreState) (k m n : ℕ) → InSight s t k m → (IsTrue t.told → n ≡ m) → InSight s t k n
sight_over s t k m n h over = record { told_stays = h.told_stays; sight = λ told. over (subst (λ (b : Bool). IsTrue b) (sym h.told_stays) told) ∙ h.sight told }

-- ---- who answers as another does

pub permits_by : {X A B : Type 0} (f : X → A) (says : A → B → List (List ℕ) → A → B → List ℕ → Type 0) (kept : A → ℕ) (state : B → StoreState) (allows : StoreState → List ℕ → List ℕ → Type 0) (x : X) (b : B) (start : Option (List ℕ))
    → Permits says kept state allows (f x) b start → Permits (λ (x : X) (s : B) (ls : List (List ℕ)) (y : X) (t : B) (text : List ℕ). says (f x) s ls (f y) t text) (λ (x : X). kept (f x)) state allows x b start
permits_by f says kept state allows x b start permits = λ x' b' bytes piece told n. permits (f x') b' bytes piece told (record {
  first = n.first;
  after_first = (f n.after_first.0, n.after_first.1);
  written = n.written;
  answered = n.answered;
  idle = n.idle;
  after_idle = (f n.after_idle.0, n.after_idle.1);
  text = n.text;
  kept_none = n.kept_none;
  same = n.same;
  last = n.last;
  reply = n.reply;
  answered_last = n.answered_last;
  one = n.one;
  part = n.part;
  stands = n.stands;
  rest = n.rest;
  whole = n.whole;
})

-- the store stays
pub permits_over : {A B : Type 0} (says : A → B → List (List ℕ) → A → B → List ℕ → Type 0) (kept : A → ℕ) (state : B → StoreState) (allows : StoreState → List ℕ → List ℕ → Type 0) (a : A) (b : B) (start : Option (List ℕ))
    → (IsTrue (state b).told → (bytes piece : List ℕ) → allows (state b) bytes piece) → Permits (λ (x : A) (s : B) (ls : List (List ℕ)) (y : A) (t : B) (text : List ℕ). says x s ls y t text × (t ≡ s)) kept state allows a b start
permits_over {A} {B} says kept state allows a b start permits = λ a' b' bytes piece told n.
    let same : b' ≡ b = n.answered_last.1 ∙ n.kept_none.1 ∙ n.answered.1 in
    subst (λ (t : B). allows (state t) bytes piece) (sym same) (permits (subst (λ (t : B). IsTrue (state t).told) same told) bytes piece)
