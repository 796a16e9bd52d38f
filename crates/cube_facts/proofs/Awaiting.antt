-- Facts that were taken from records and wait to be added up.
use Rattle.std.proofs.Common.{◌≡◌, ◌≢◌, ◌⊎◌, ℕ, zero, suc, ◌+◌, ◌<◌, ◌≤◌, List, [], ◌∷◌, ◌++◌, length, map, Bool, true, false, Result, Ok, Err, IfOk, IfErr, refl, sym, ap, subst, ◌∙◌, arith, append_assoc, get_or, set, slice_set, take, drop, eqb, eqb-true, eq-eqb}
use Rattle.std.proofs.lemmas.Bool.{false≢true}
use Rattle.cube_model.proofs.Members.{tested}
use Rattle.std.proofs.lemmas.List.{take_more_set, length-map, map-append, length-take-le, drop_all, get_or_default, get_or-set_same, get_or-set_other}
use Rattle.cube_facts.proofs.Turns.{at_hand}
use Rattle.cube_facts.specs.declared.blocks.Held.{Held}
use Rattle.cube_model.specs.Dims.{Dims, IsDims}
use Rattle.cube_model.specs.declared.limit.LimitKind.TheVariants as limit
use Rattle.cube_facts.specs.FactFile.{Fact, facts_in, fact_of}
use Rattle.cube_facts.specs.Filling.{Gathers, Fits, IsFact, IsNoted}
use Rattle.cube_facts.specs.Blocks.{fact_held, Reads, SaysFact, SayFacts, FirstIsFaulty, Takes, Awaits, MayAdd, MayLook}
use Rattle.cube_facts.specs.declared.fault.FactsFault.{FactsFault}
use Rattle.cube_facts.specs.declared.fault.FactsFault.TheVariants as fault
use Rattle.cube_facts.specs.declared.totals.Points.{Points}
use Rattle.cube_facts.proofs.Filled.{reads_more, reads_fault, reads_points, reads_fits, reads_within, reads_combinations}

module _ (s : Dims) (header : List (List ℕ)) where
  -- ---- taking

  say_more : (count : ℕ) (fs : List Fact) (rows : List (List (List ℕ))) (f : Fact) (r : List (List ℕ)) → SayFacts s header count fs rows → SaysFact s header (count + length fs) f r → SayFacts s header count (fs ++ f ∷ []) (rows ++ r ∷ [])
  say_more count [] [] f r h k = let here : count + 0 ≡ count = omega arith in (subst (λ (n : ℕ). SaysFact s header n f r) here k, tt)
  say_more count [] (q ∷ rows) f r h k = absurd h
  say_more count (g ∷ fs) [] f r h k = absurd h
  say_more count (g ∷ fs) (q ∷ rows) f r h k =
      let next : count + suc (length fs) ≡ count + 1 + length fs = omega arith in
      (h.0, say_more (count + 1) fs rows f r h.1 (subst (λ (n : ℕ). SaysFact s header n f r) next k))

  pub takes_none : (count : ℕ) (left : List (List (List ℕ))) → Takes s header count left [] left
  takes_none count left = record { rows = []; whole = refl; say = tt }

  pub takes_more : (count : ℕ) (left rest behind : List (List (List ℕ))) (facts : List Fact) (f : Fact) (r : List (List ℕ))
      → Takes s header count left facts rest → rest ≡ r ∷ behind → SaysFact s header (count + length facts) f r → Takes s header count left (facts ++ f ∷ []) behind
  takes_more count left rest behind facts f r t next says = record {
    rows = t.rows ++ r ∷ [];
    whole = t.whole ∙ ap (λ (z : List (List (List ℕ))). t.rows ++ z) next ∙ sym (append_assoc t.rows (r ∷ []) behind);
    say = say_more count facts t.rows f r t.say says;
  }

  pub takes_end : (count : ℕ) (left rest : List (List (List ℕ))) (facts : List Fact) → Takes s header count left facts rest → rest ≡ [] → Takes s header count left facts []
  takes_end count left rest facts t none = subst (Takes s header count left facts) none t

  module _ (all : List (List (List ℕ))) where
    pub awaits_taken : (points : Points) (count : ℕ) (left rest : List (List (List ℕ))) (facts : List Fact)
        → Reads s all header points count left → Takes s header count left facts rest → Awaits s all header points count facts rest
    awaits_taken points count left rest facts r t = record { rows = t.rows; reads = subst (Reads s all header points count) t.whole r; say = t.say }

    pub reads_faulty : (points : Points) (count : ℕ) (left : List (List (List ℕ))) (e : FactsFault)
        → Reads s all header points count left → FirstIsFaulty s header count left e → facts_in s all ≡ Err e
    reads_faulty points count left e r k = reads_fault s all header points count left k.behind k.row e r k.is k.fault

    pub reads_few : (points : Points) (count : ℕ) (left : List (List (List ℕ))) → Reads s all header points count left → count ≤ 1000000
    reads_few points count left r = omega (arith, r.facts.few, r.counted, length-map r.earlier (fact_of s header))

    -- ---- adding up

    -- the front one of the facts that wait, and its record
    record Next (points : Points) (count : ℕ) (f : Fact) (facts : List Fact) (rest : List (List (List ℕ))) : Type 0 where
      row : List (List ℕ)
      rows : List (List (List ℕ))
      reads : Reads s all header points count (row ∷ rows ++ rest)
      says : SaysFact s header count f row
      say : SayFacts s header (count + 1) facts rows

    front : (points : Points) (count : ℕ) (f : Fact) (facts : List Fact) (rest rows : List (List (List ℕ)))
        → Reads s all header points count (rows ++ rest) → SayFacts s header count (f ∷ facts) rows → Next points count f facts rest
    front points count f facts rest [] r h = absurd h
    front points count f facts rest (q ∷ rows) r h = record { row = q; rows = rows; reads = r; says = h.0; say = h.1 }

    pub awaits_few : (points : Points) (count : ℕ) (f : Fact) (facts : List Fact) (rest : List (List (List ℕ))) → Awaits s all header points count (f ∷ facts) rest → count < 1000000
    awaits_few points count f facts rest w = (front points count f facts rest w.rows w.reads w.say).says.few

    pub awaits_fits : (points : Points) (count : ℕ) (f : Fact) (facts : List Fact) (rest : List (List (List ℕ))) → IsDims s → Awaits s all header points count (f ∷ facts) rest → Fits points count f.leaves f.units
    awaits_fits points count f facts rest rules w =
        let n = front points count f facts rest w.rows w.reads w.say in
        reads_fits s all header points count (n.row ∷ n.rows ++ rest) f n.reads rules n.says.rules n.says.few

    -- what adding a fact up does
    abbrev pub Adds : Points → Points → Fact → Type 0
    Adds points more f = (facts : List Fact) → Gathers s facts points → length f.units ≡ length s.measures → Gathers s (facts ++ f ∷ []) more

    pub awaits_more : (points more : Points) (count : ℕ) (f : Fact) (facts : List Fact) (rest : List (List (List ℕ)))
        → Awaits s all header points count (f ∷ facts) rest → Adds points more f → length more.leaves ≤ 65536 → Awaits s all header more (count + 1) facts rest
    awaits_more points more count f facts rest w adds few =
        let n = front points count f facts rest w.rows w.reads w.say in
        record {
          rows = n.rows;
          reads = reads_more s all header points more count (n.row ∷ n.rows ++ rest) (n.rows ++ rest) n.row f n.reads refl n.says.sound n.says.few n.says.is n.says.rules (λ fs g. adds fs g n.says.rules.long) few;
          say = n.say;
        }

    pub awaits_points : (points more : Points) (count : ℕ) (f : Fact) (facts : List Fact) (rest : List (List (List ℕ)))
        → Awaits s all header points count (f ∷ facts) rest → Adds points more f → 65536 < length more.leaves → facts_in s all ≡ Err (fault.Limit limit.Points 65536)
    awaits_points points more count f facts rest w adds large =
        let n = front points count f facts rest w.rows w.reads w.say in
        reads_points s all header points more count (n.row ∷ n.rows ++ rest) (n.rows ++ rest) n.row f n.reads refl n.says.sound n.says.is (λ fs g. adds fs g n.says.rules.long) large

    pub awaits_none : (points : Points) (count : ℕ) (rest : List (List (List ℕ))) → Awaits s all header points count [] rest → Reads s all header points count rest
    awaits_none points count rest w = go w.rows w.reads w.say
      where
        go : (rows : List (List (List ℕ))) → Reads s all header points count (rows ++ rest) → SayFacts s header count [] rows → Reads s all header points count rest
        go [] r h = r
        go (q ∷ rows) r h = absurd h

-- ---- places of a block

says_at : (s : Dims) (header : List (List ℕ)) (count : ℕ) (block : List Held) (rows : List (List (List ℕ))) → SayFacts s header count (map fact_held block) rows → (i : ℕ) (d : Held) → i < length block → IsFact s (fact_held (get_or block i d))
says_at s header count [] rows h i d l = absurd (omega (arith, l))
says_at s header count (x ∷ xs) [] h i d l = absurd h
says_at s header count (x ∷ xs) (r ∷ rows) h zero d l = h.0.rules
says_at s header count (x ∷ xs) (r ∷ rows) h (suc i) d l = says_at s header (count + 1) xs rows h.1 i d (omega (arith, l))

-- places may be looked for where facts may be added up
pub may_look : (points : Points) (count : ℕ) (block : List Held) → MayAdd points count (map fact_held block) → MayLook points block
may_look points count block m =
    let w = m.awaits in
    record {
      each = λ i d l. reads_within m.s m.all m.header points count (w.rows ++ m.rest) (fact_held (get_or block i d)) w.reads (says_at m.s m.header count block w.rows w.say i d l);
      combinations = reads_combinations m.s m.all m.header points count (w.rows ++ m.rest) w.reads m.rules;
    }

-- what is noted of the fact at hand
pub noted_at : (points : Points) (block : List Held) (i : ℕ) (h : Held) (n : ℕ) → i < length block → h ≡ get_or block i h → IsNoted points h.leaves.items n → (d : Held) → IsNoted points (get_or block i d).leaves.items n
noted_at points block i h n l at is d = subst (λ (g : Held). IsNoted points g.leaves.items n) (at ∙ get_or_default block i h d l) is

-- one place more is noted
pub noted_next : (points : Points) (noted : List ℕ) (block : List Held) (i n : ℕ) → i < length noted → i < length block
    → ((k : ℕ) (d : Held) → k < i → IsNoted points (get_or block k d).leaves.items (get_or noted k 0)) → ((d : Held) → IsNoted points (get_or block i d).leaves.items n)
    → (k : ℕ) (d : Held) → k < i + 1 → IsNoted points (get_or block k d).leaves.items (get_or (slice_set noted i n) k 0)
noted_next points noted block i n l m h now k d b = tested (eqb k i)
    (λ y. (let same = eqb-true k i y in rw same (rw (get_or-set_same noted i n 0 l) (now d))))
    (λ z. (
    let apart : k ≢ i = λ q. false≢true (sym z ∙ eq-eqb k i q) in
    rw (get_or-set_other noted i k n 0 apart) (h k d (omega (arith, b, apart)))))

-- the fact in a place waits in front of those behind it
pub at_front : (s : Dims) (all : List (List (List ℕ))) (header : List (List ℕ)) (points : Points) (n : ℕ) (block : List Held) (i : ℕ) (h : Held) (f : Fact) (rest : List (List (List ℕ)))
    → i < length block → h ≡ get_or block i h → fact_held h ≡ f → Awaits s all header points n (map fact_held (drop i block)) rest → Awaits s all header points n (f ∷ map fact_held (drop (i + 1) block)) rest
at_front s all header points n block i h f rest l at is w =
    subst (λ (fs : List Fact). Awaits s all header points n fs rest) (ap (map fact_held) (at_hand block i h l at) ∙ ap (λ g. g ∷ map fact_held (drop (i + 1) block)) is) w

pub all_added : (s : Dims) (all : List (List (List ℕ))) (header : List (List ℕ)) (points : Points) (n : ℕ) (block : List Held) (i : ℕ) (rest : List (List (List ℕ)))
    → i ≡ length block → Awaits s all header points (n + i) (map fact_held (drop i block)) rest → Reads s all header points (n + length block) rest
all_added s all header points n block i rest end w =
    let none : map fact_held (drop i block) ≡ [] = ap (map fact_held) (drop_all i block (omega (arith, end))) in
    subst (λ (k : ℕ). Reads s all header points (n + k) rest) end
    (awaits_none s header all points (n + i) rest (subst (λ (fs : List Fact). Awaits s all header points (n + i) fs rest) none w))

-- one place more of a block is filled
pub filled_more : (block : List Held) (i : ℕ) (h : Held) → i < length block → map fact_held (take (i + 1) (set block i h)) ≡ map fact_held (take i block) ++ fact_held h ∷ []
filled_more block i h l = ap (map fact_held) (take_more_set block i h l) ∙ map-append fact_held (take i block) (h ∷ [])

pub filled_many : (block : List Held) (i : ℕ) → i ≤ length block → length (map fact_held (take i block)) ≡ i
filled_many block i l = length-map (take i block) fact_held ∙ length-take-le i block l

pub reads_many : (s : Dims) (all : List (List (List ℕ))) (header : List (List ℕ)) (points : Points) (n : ℕ) (block : List Held) (i : ℕ) (rest : List (List (List ℕ)))
    → i ≤ length block → Reads s all header points (n + length (take i block)) rest → Reads s all header points (n + i) rest
reads_many s all header points n block i rest l r = subst (λ (k : ℕ). Reads s all header points (n + k) rest) (length-take-le i block l) r

-- ---- a block that was read

-- how the reading of it ended, with some records left
abbrev pub EndsAs : Dims → List (List ℕ) → ℕ → List (List (List ℕ)) → List (List (List ℕ)) → Result Bool FactsFault → Type 0
EndsAs s header count after rest (Ok true) = rest ≡ after
EndsAs s header count after rest (Ok false) = rest ≡ []
EndsAs s header count after rest (Err e) = (e ≡ fault.NoMemory) ⊎ FirstIsFaulty s header count rest e

pub record Taken (s : Dims) (header : List (List ℕ)) (count many : ℕ) (left after : List (List (List ℕ))) (facts : List Fact) (result : Result Bool FactsFault) : Type 0 where
  pub rest : List (List (List ℕ))
  pub takes : Takes s header count left facts rest
  pub ends : EndsAs s header (count + many) after rest result

pub taken : (d s : Dims) → d ≡ s → (header : List (List ℕ)) (count many : ℕ) (left after : List (List (List ℕ))) (facts others : List Fact) → others ≡ facts → (result : Result Bool FactsFault)
    → IfOk result (λ more. more ≡ true → Takes d header count left facts after)
    → IfOk result (λ more. more ≡ false → Takes d header count left facts [])
    → IfErr result (λ e. (rest : List (List (List ℕ))) × Takes d header count left facts rest × ((e ≡ fault.NoMemory) ⊎ FirstIsFaulty d header (count + many) rest e))
    → Taken s header count many left after others result
taken d s same header count many left after facts others is result full end err =
    subst (λ z. Taken z header count many left after others result) same
    (subst (λ fs. Taken d header count many left after fs result) (sym is) (go result full end err))
  where
    go : (r : Result Bool FactsFault)
        → IfOk r (λ more. more ≡ true → Takes d header count left facts after)
        → IfOk r (λ more. more ≡ false → Takes d header count left facts [])
        → IfErr r (λ e. (rest : List (List (List ℕ))) × Takes d header count left facts rest × ((e ≡ fault.NoMemory) ⊎ FirstIsFaulty d header (count + many) rest e))
        → Taken d header count many left after facts r
    go (Ok true) a b c = record { rest = after; takes = a refl; ends = refl }
    go (Ok false) a b c = record { rest = []; takes = b refl; ends = refl }
    go (Err e) a b c = let (rest, takes, ends) = c in record { rest = rest; takes = takes; ends = ends }
