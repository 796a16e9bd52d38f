-- The lines of `ask` are answered one after another.
use Rattle.std.proofs.Common.{◌≡◌, ◌<◌, ◌≤◌, ℕ, zero, suc, ◌+◌, Bool, true, false, List, [], ◌∷◌, ◌++◌, length, drop, cond, refl, sym, ap, subst, ◌∙◌, append_assoc, append-nil, length-append, arith, if◌then◌else◌}
use Rattle.std.proofs.lemmas.Bool.{false≢true}
use Rattle.std.proofs.lemmas.Bool.Decides.{nat_tests}
use Rattle.std.proofs.lemmas.List.Sums.{sum_by-append}
use Rattle.cube_model.specs.declared.outcome.Outcome.{Outcome}
use Rattle.cube_model.specs.Rooms.{Room}
use Rattle.cube_io.specs.Causes.{RoseBy}
use Rattle.cube_io.specs.Desks.{Manner, is_fault, faults_in}
use Rattle.cube_talk.specs.Moments.{Moment}
use Rattle.cube_talk.specs.Replies.{reply_text}
use Rattle.cube_talk.specs.Asks.{is_too_long, too_large, ask_of, asks_in, up_to_asks, said, rooms_behind, FailedFresh, AnswersAsks}

pub by_test : {P : Type 0} (b : Bool) → (b ≡ true → P) → (b ≡ false → P) → P
by_test true f g = f refl
by_test false f g = g refl

-- ---- one line before others

pub asks_long : (line : List ℕ) (rest : List (List ℕ)) → is_too_long line ≡ true → asks_in (line ∷ rest) ≡ asks_in rest
asks_long line rest t = rw t refl

pub asks_one : (line : List ℕ) (rest : List (List ℕ)) → is_too_long line ≡ false → asks_in (line ∷ rest) ≡ suc (asks_in rest)
asks_one line rest f = rw f refl

pub said_long : (m : Manner) (rooms : List Room) (line : List ℕ) (rest : List (List ℕ)) (os : List Outcome) → is_too_long line ≡ true → said m rooms (line ∷ rest) os ≡ too_large ++ said m rooms rest os
said_long m rooms line rest [] t = rw t refl
said_long m rooms line rest (o ∷ os) t = rw t refl

pub rooms_long : (m : Manner) (rooms : List Room) (line : List ℕ) (rest : List (List ℕ)) (os : List Outcome) → is_too_long line ≡ true → rooms_behind m rooms (line ∷ rest) os ≡ rooms_behind m rooms rest os
rooms_long m rooms line rest [] t = rw t refl
rooms_long m rooms line rest (o ∷ os) t = rw t refl

pub said_one : (m : Manner) (rooms : List Room) (line : List ℕ) (rest : List (List ℕ)) (o : Outcome) (os : List Outcome) → is_too_long line ≡ false
    → said m rooms (line ∷ rest) (o ∷ os) ≡ reply_text (m.reply rooms (ask_of line) o) ++ said m (m.next rooms (ask_of line) o) rest os
said_one m rooms line rest o os f = rw f refl

pub rooms_one : (m : Manner) (rooms : List Room) (line : List ℕ) (rest : List (List ℕ)) (o : Outcome) (os : List Outcome) → is_too_long line ≡ false
    → rooms_behind m rooms (line ∷ rest) (o ∷ os) ≡ rooms_behind m (m.next rooms (ask_of line) o) rest os
rooms_one m rooms line rest o os f = rw f refl

-- ---- lines behind lines

pub asks_append : (xs ys : List (List ℕ)) → asks_in (xs ++ ys) ≡ asks_in xs + asks_in ys
asks_append [] ys = omega arith
asks_append (line ∷ rest) ys = by_test (is_too_long line)
    (λ t. rw (asks_long line (rest ++ ys) t, asks_long line rest t) (asks_append rest ys))
    (λ f. let more = asks_append rest ys in rw (asks_one line (rest ++ ys) f, asks_one line rest f) (omega (arith, more)))

abbrev SaidAppends : Manner → List (List ℕ) → List (List ℕ) → List Outcome → Type 0
SaidAppends m xs ys ps = (rooms : List Room) (os : List Outcome) → length os ≡ asks_in xs → said m rooms (xs ++ ys) (os ++ ps) ≡ said m rooms xs os ++ said m (rooms_behind m rooms xs os) ys ps

said_append_one : (m : Manner) (rooms : List Room) (line : List ℕ) (rest ys : List (List ℕ)) (os ps : List Outcome) → is_too_long line ≡ false → length os ≡ asks_in (line ∷ rest) → SaidAppends m rest ys ps
    → said m rooms (line ∷ rest ++ ys) (os ++ ps) ≡ said m rooms (line ∷ rest) os ++ said m (rooms_behind m rooms (line ∷ rest) os) ys ps
said_append_one m rooms line rest ys [] ps f e more = absurd (let e' = asks_one line rest f in omega (arith, e, e'))
said_append_one m rooms line rest ys (o ∷ os) ps f e more =
    let next = m.next rooms (ask_of line) o in
    let reply = reply_text (m.reply rooms (ask_of line) o) in
    let few : length os ≡ asks_in rest = let e' = asks_one line rest f in omega (arith, e, e') in
    said_one m rooms line (rest ++ ys) o (os ++ ps) f
    ∙ ap (λ (l : List ℕ). reply ++ l) (more next os few)
    ∙ sym (append_assoc reply (said m next rest os) (said m (rooms_behind m next rest os) ys ps))
    ∙ ap (λ (l : List ℕ). l ++ said m (rooms_behind m next rest os) ys ps) (sym (said_one m rooms line rest o os f))
    ∙ ap (λ (r : List Room). said m rooms (line ∷ rest) (o ∷ os) ++ said m r ys ps) (sym (rooms_one m rooms line rest o os f))

pub said_append : (m : Manner) (xs ys : List (List ℕ)) (ps : List Outcome) → SaidAppends m xs ys ps
said_append m [] ys ps rooms [] e = refl
said_append m [] ys ps rooms (o ∷ os) e = absurd (omega (arith, e))
said_append m (line ∷ rest) ys ps rooms os e = by_test (is_too_long line)
    (λ t. let few : length os ≡ asks_in rest = e ∙ asks_long line rest t in
    said_long m rooms line (rest ++ ys) (os ++ ps) t
    ∙ ap (λ (l : List ℕ). too_large ++ l) (said_append m rest ys ps rooms os few)
    ∙ sym (append_assoc too_large (said m rooms rest os) (said m (rooms_behind m rooms rest os) ys ps))
    ∙ ap (λ (l : List ℕ). l ++ said m (rooms_behind m rooms rest os) ys ps) (sym (said_long m rooms line rest os t))
    ∙ ap (λ (r : List Room). said m rooms (line ∷ rest) os ++ said m r ys ps) (sym (rooms_long m rooms line rest os t)))
    (λ f. said_append_one m rooms line rest ys os ps f e (said_append m rest ys ps))

abbrev RoomsAppend : Manner → List (List ℕ) → List (List ℕ) → List Outcome → Type 0
RoomsAppend m xs ys ps = (rooms : List Room) (os : List Outcome) → length os ≡ asks_in xs → rooms_behind m rooms (xs ++ ys) (os ++ ps) ≡ rooms_behind m (rooms_behind m rooms xs os) ys ps

rooms_append_one : (m : Manner) (rooms : List Room) (line : List ℕ) (rest ys : List (List ℕ)) (os ps : List Outcome) → is_too_long line ≡ false → length os ≡ asks_in (line ∷ rest) → RoomsAppend m rest ys ps
    → rooms_behind m rooms (line ∷ rest ++ ys) (os ++ ps) ≡ rooms_behind m (rooms_behind m rooms (line ∷ rest) os) ys ps
rooms_append_one m rooms line rest ys [] ps f e more = absurd (let e' = asks_one line rest f in omega (arith, e, e'))
rooms_append_one m rooms line rest ys (o ∷ os) ps f e more =
    let few : length os ≡ asks_in rest = let e' = asks_one line rest f in omega (arith, e, e') in
    rooms_one m rooms line (rest ++ ys) o (os ++ ps) f
    ∙ more (m.next rooms (ask_of line) o) os few
    ∙ ap (λ (r : List Room). rooms_behind m r ys ps) (sym (rooms_one m rooms line rest o os f))

pub rooms_append : (m : Manner) (xs ys : List (List ℕ)) (ps : List Outcome) → RoomsAppend m xs ys ps
rooms_append m [] ys ps rooms [] e = refl
rooms_append m [] ys ps rooms (o ∷ os) e = absurd (omega (arith, e))
rooms_append m (line ∷ rest) ys ps rooms os e = by_test (is_too_long line)
    (λ t. rooms_long m rooms line (rest ++ ys) (os ++ ps) t
    ∙ rooms_append m rest ys ps rooms os (e ∙ asks_long line rest t)
    ∙ ap (λ (r : List Room). rooms_behind m r ys ps) (sym (rooms_long m rooms line rest os t)))
    (λ f. rooms_append_one m rooms line rest ys os ps f e (rooms_append m rest ys ps))

up_to_none : (n : ℕ) → up_to_asks n [] ≡ []
up_to_none zero = refl
up_to_none (suc n) = refl

-- lines that all come while there is space, and then others
pub up_to_over : (n k : ℕ) (xs ys : List (List ℕ)) → up_to_asks n xs ≡ xs → n ≡ k + asks_in xs → up_to_asks n (xs ++ ys) ≡ xs ++ up_to_asks k ys
up_to_over n k [] ys e is = let same : n ≡ k = omega (arith, is) in ap (λ (i : ℕ). up_to_asks i ys) same
up_to_over zero k (line ∷ rest) ys e is = cc
up_to_over (suc n) k (line ∷ rest) ys e is = by_test (is_too_long line)
    (λ t. let inner : up_to_asks (suc n) rest ≡ rest = rw t at (ap (λ (l : List (List ℕ)). drop 1 l) e) in
    let left : suc n ≡ k + asks_in rest = let e' = asks_long line rest t in omega (arith, is, e') in
    rw t (ap (λ (l : List (List ℕ)). line ∷ l) (up_to_over (suc n) k rest ys inner left)))
    (λ f. let inner : up_to_asks n rest ≡ rest = rw f at (ap (λ (l : List (List ℕ)). drop 1 l) e) in
    let left : n ≡ k + asks_in rest = let e' = asks_one line rest f in omega (arith, is, e') in
    rw f (ap (λ (l : List (List ℕ)). line ∷ l) (up_to_over n k rest ys inner left)))

-- ---- failures of the journal

not_both : {P : Type 0} (b : Bool) → b ≡ true → b ≡ false → P
not_both true t f = absurd (false≢true (sym f))
not_both false t f = absurd (false≢true t)

fresh_long : (m : Manner) (rooms : List Room) (line : List ℕ) (rest : List (List ℕ)) (os : List Outcome) → is_too_long line ≡ true → FailedFresh m rooms rest os → FailedFresh m rooms (line ∷ rest) os
fresh_long m rooms line rest [] t h = tt
fresh_long m rooms line rest (o ∷ os) t h = (λ again. h, λ f. not_both (is_too_long line) t f)

abbrev FreshAppends : Manner → List (List ℕ) → List (List ℕ) → List Outcome → Type 0
FreshAppends m xs ys ps = (rooms : List Room) (os : List Outcome) → length os ≡ asks_in xs → FailedFresh m rooms xs os → FailedFresh m (rooms_behind m rooms xs os) ys ps → FailedFresh m rooms (xs ++ ys) (os ++ ps)

fresh_append_long : (m : Manner) (rooms : List Room) (line : List ℕ) (rest ys : List (List ℕ)) (os ps : List Outcome) → is_too_long line ≡ true → length os ≡ asks_in (line ∷ rest) → FreshAppends m rest ys ps
    → FailedFresh m rooms (line ∷ rest) os → FailedFresh m (rooms_behind m rooms (line ∷ rest) os) ys ps → FailedFresh m rooms (line ∷ rest ++ ys) (os ++ ps)
fresh_append_long m rooms line rest ys os ps t e more h k =
    fresh_long m rooms line (rest ++ ys) (os ++ ps) t
    (more rooms os (e ∙ asks_long line rest t) (behind os h) (subst (λ (r : List Room). FailedFresh m r ys ps) (rooms_long m rooms line rest os t) k))
  where
    none : (ls : List (List ℕ)) → FailedFresh m rooms ls []
    none [] = tt
    none (l ∷ ls) = tt

    behind : (os : List Outcome) → FailedFresh m rooms (line ∷ rest) os → FailedFresh m rooms rest os
    behind [] h = none rest
    behind (o ∷ os) h = h.0 t

fresh_append_one : (m : Manner) (rooms : List Room) (line : List ℕ) (rest ys : List (List ℕ)) (os ps : List Outcome) → is_too_long line ≡ false → length os ≡ asks_in (line ∷ rest) → FreshAppends m rest ys ps
    → FailedFresh m rooms (line ∷ rest) os → FailedFresh m (rooms_behind m rooms (line ∷ rest) os) ys ps → FailedFresh m rooms (line ∷ rest ++ ys) (os ++ ps)
fresh_append_one m rooms line rest ys [] ps f e more h k = absurd (let e' = asks_one line rest f in omega (arith, e, e'))
fresh_append_one m rooms line rest ys (o ∷ os) ps f e more h k =
    let few : length os ≡ asks_in rest = let e' = asks_one line rest f in omega (arith, e, e') in
    let behind = subst (λ (r : List Room). FailedFresh m r ys ps) (rooms_one m rooms line rest o os f) k in
    (λ t. not_both (is_too_long line) t f, λ again. ((h.1 f).0, more (m.next rooms (ask_of line) o) os few (h.1 f).1 behind))

fresh_append : (m : Manner) (xs ys : List (List ℕ)) (ps : List Outcome) → FreshAppends m xs ys ps
fresh_append m [] ys ps rooms [] e h k = k
fresh_append m [] ys ps rooms (o ∷ os) e h k = absurd (omega (arith, e))
fresh_append m (line ∷ rest) ys ps rooms os e h k = by_test (is_too_long line)
    (λ t. fresh_append_long m rooms line rest ys os ps t e (fresh_append m rest ys ps) h k)
    (λ f. fresh_append_one m rooms line rest ys os ps f e (fresh_append m rest ys ps) h k)

pub faults_append : (os ps : List Outcome) → faults_in (os ++ ps) ≡ faults_in os + faults_in ps
faults_append os ps = sum_by-append (λ o. cond (is_fault o) 1 0) os ps

-- a count that rose, and then rose on
rises_on : (n k a b c : ℕ) → RoseBy n a b → RoseBy k b c → b ≤ c → RoseBy (n + k) a c
rises_on n k a b c first last later = omega (arith, first, last, later)

-- ---- the laws

pub none : (x : Moment) → AnswersAsks x x [] []
none x = record {
  manner = refl;
  added = [];
  outcomes_are = sym (append-nil x.outcomes);
  matched = refl;
  rooms_are = refl;
  text_is = refl;
  capacity_left = omega arith;
  within = up_to_none x.capacity;
  later = omega arith;
  steady = λ e. refl;
  risen = omega arith;
  fresh = tt;
}

pub onward : (x y z : Moment) (first more : List (List ℕ)) (text behind : List ℕ) → AnswersAsks x y first text → AnswersAsks y z more behind → AnswersAsks x z (first ++ more) (text ++ behind)
onward x y z first more text behind h k =
    let over : rooms_behind y.manner y.rooms more k.added ≡ rooms_behind x.manner (rooms_behind x.manner x.rooms first h.added) more k.added =
    ap (λ (m : Manner). rooms_behind m y.rooms more k.added) h.manner ∙ ap (λ (r : List Room). rooms_behind x.manner r more k.added) h.rooms_are in
    let said_over : said y.manner y.rooms more k.added ≡ said x.manner (rooms_behind x.manner x.rooms first h.added) more k.added =
    ap (λ (m : Manner). said m y.rooms more k.added) h.manner ∙ ap (λ (r : List Room). said x.manner r more k.added) h.rooms_are in
    record {
      manner = k.manner ∙ h.manner;
      added = h.added ++ k.added;
      outcomes_are = k.outcomes_are ∙ ap (λ (l : List Outcome). l ++ k.added) h.outcomes_are ∙ append_assoc x.outcomes h.added k.added;
      matched = rw (length-append, asks_append first more) (omega (arith, h.matched, k.matched));
      rooms_are = k.rooms_are ∙ over ∙ sym (rooms_append x.manner first more k.added x.rooms h.added h.matched);
      text_is = ap (λ (l : List ℕ). l ++ behind) h.text_is ∙ ap (λ (l : List ℕ). said x.manner x.rooms first h.added ++ l) (k.text_is ∙ said_over) ∙ sym (said_append x.manner first more k.added x.rooms h.added h.matched);
      capacity_left = rw (asks_append first more) (omega (arith, h.capacity_left, k.capacity_left));
      within = up_to_over x.capacity y.capacity first more h.within (sym h.capacity_left) ∙ ap (λ (l : List (List ℕ)). first ++ l) k.within;
      later = omega (arith, h.later, k.later);
      steady = λ none.
          let sum = faults_append h.added k.added in
          k.steady (omega (arith, none, sum)) ∙ h.steady (omega (arith, none, sum));
      risen = subst (λ (n : ℕ). RoseBy n x.store.faults z.store.faults) (sym (faults_append h.added k.added))
          (rises_on (faults_in h.added) (faults_in k.added) x.store.faults y.store.faults z.store.faults h.risen k.risen k.later);
      fresh = fresh_append x.manner first more k.added x.rooms h.added h.matched h.fresh
          (subst (λ (r : List Room). FailedFresh x.manner r more k.added) h.rooms_are (subst (λ (m : Manner). FailedFresh m y.rooms more k.added) h.manner k.fresh));
    }

pub none_adds : (x : Moment) → (none x).added ≡ []
unfolding none
none_adds x = refl

pub onward_adds : (x y z : Moment) (first more : List (List ℕ)) (text behind : List ℕ) (h : AnswersAsks x y first text) (k : AnswersAsks y z more behind) → (onward x y z first more text behind h k).added ≡ h.added ++ k.added
unfolding onward
onward_adds x y z first more text behind h k = refl

pub too_long : (line : List ℕ) → 65536 < length line → is_too_long line ≡ true
too_long line h = grind (arith, nat_tests)

pub within_one : (capacity : ℕ) (line : List ℕ) → 1 ≤ capacity → up_to_asks capacity (line ∷ []) ≡ line ∷ []
within_one zero line h = absurd (omega (arith, h))
within_one (suc n) line h = ap (λ (l : List (List ℕ)). line ∷ l) (up_to_none (if is_too_long line then suc n else n))

has_capacity : (capacity : ℕ) (line : List ℕ) → up_to_asks capacity (line ∷ []) ≡ line ∷ [] → 1 ≤ capacity
has_capacity zero line e = cc
has_capacity (suc n) line e = omega arith

pub alike : (x y : Moment) (line other text : List ℕ) → 65536 < length line → 65536 < length other → AnswersAsks x y (line ∷ []) text → AnswersAsks x y (other ∷ []) text
alike x y line other text h k a =
    let l = too_long line h in
    let o = too_long other k in
    record {
      manner = a.manner;
      added = a.added;
      outcomes_are = a.outcomes_are;
      matched = a.matched ∙ asks_long line [] l ∙ sym (asks_long other [] o);
      rooms_are = a.rooms_are ∙ rooms_long x.manner x.rooms line [] a.added l ∙ sym (rooms_long x.manner x.rooms other [] a.added o);
      text_is = a.text_is ∙ said_long x.manner x.rooms line [] a.added l ∙ sym (said_long x.manner x.rooms other [] a.added o);
      capacity_left = rw (asks_long other [] o) (rw (asks_long line [] l) at a.capacity_left);
      within = within_one x.capacity other (has_capacity x.capacity line a.within);
      later = a.later;
      steady = a.steady;
      risen = a.risen;
      fresh = fresh_long x.manner x.rooms other [] a.added o tt;
    }

pub alike_adds : (x y : Moment) (line other text : List ℕ) (h : 65536 < length line) (k : 65536 < length other) (a : AnswersAsks x y (line ∷ []) text) → (alike x y line other text h k a).added ≡ a.added
unfolding alike
alike_adds x y line other text h k a = refl
