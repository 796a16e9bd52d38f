-- What may stand from a place of a text on, and what query the whole text then is; and what reading has to find there.
use Rattle.std.proofs.Common.{◌≡◌, ◌⊎◌, inl, inr, ℕ, ◌+◌, ◌-◌, Bool, true, List, [], ◌∷◌, ◌++◌, length, refl, sym, ◌∙◌, arith, append_assoc, length-append, Ok, Err, Some, None, MatchResult}
use Rattle.std.specs.Prelude.{Option}
use Rattle.cube_model.specs.Cubes.{IsIn}
use Rattle.cube_model.proofs.Members.{IsIn-append, append_left, append_right}
use Rattle.cube_query.specs.declared.query.Query.{Query}
use Rattle.cube_query.specs.declared.query.QueryFault.{QueryFault}
use Rattle.cube_query.specs.declared.query.QueryFault.TheVariants as fault
use Rattle.cube_query.specs.Grammar.{Part, nothing, ◌>>=◌, either, queries}
use Rattle.cube_query.specs.Grammar.Reading.{Reads}
use Rattle.cube_query.specs.Reading.{Step, onto}
use Rattle.cube_query.proofs.Parts.{IsPart, through, bind_has, one_reading}

abbrev pub Lang : Type 1
Lang = ℕ → List ℕ → Query → Type 0

-- in a text of n bytes, a part is read, and behind it what may stand behind its value
pub record Then {A : Type 0} (f : ℕ → Part A) (K : A → Lang) (n : ℕ) (u : List ℕ) (q : Query) : Type 0 where
  pub value : A
  pub rest : List ℕ
  pub first : IsIn (Reads value rest) (f n u)
  pub second : K value n rest q

pub record Same (K L : Lang) : Type 0 where
  pub to : (n : ℕ) (u : List ℕ) (q : Query) → K n u q → L n u q
  pub from : (n : ℕ) (u : List ℕ) (q : Query) → L n u q → K n u q

abbrev pub head : List ℕ → Option ℕ
head [] = None
head (b ∷ u) = Some b

-- Reading has come to r, behind s: the queries whose texts begin with s, and go on with the byte that r does, are those of K.
pub record Stands (T s r : List ℕ) (K : Lang) : Type 0 where
  pub whole : T ≡ s ++ r
  pub sound : (u : List ℕ) (q : Query) → K (length s + length u) u q → IsIn q (queries (s ++ u))
  pub complete : (u : List ℕ) (q : Query) → head u ≡ head r → IsIn q (queries (s ++ u)) → K (length s + length u) u q

-- something may stand here
pub record Alive (K : Lang) (m : ℕ) : Type 0 where
  pub more : List ℕ
  pub query : Query
  pub holds : K (m + length more) more query

abbrev pub IsAlive : Lang → Type 0
IsAlive K = (m : ℕ) → Alive K m

-- nothing that stands here begins with a byte of this kind
abbrev pub Avoids : (ℕ → Bool) → Lang → Type 0
Avoids C K = (n b : ℕ) (u : List ℕ) (q : Query) → C b ≡ true → K n (b ∷ u) q → ⊥

-- the text stops being the front of a query here
pub record Stops (T : List ℕ) (e : QueryFault) : Type 0 where
  pub before : List ℕ
  pub rest : List ℕ
  pub whole : T ≡ before ++ rest
  pub is : e ≡ fault.Syntax (length T - length rest)
  pub more : List ℕ
  pub query : Query
  pub begun : IsIn query (queries (before ++ more))
  pub none : (u : List ℕ) (q : Query) → head u ≡ head rest → IsIn q (queries (before ++ u)) → ⊥

pub record Passes {A : Type 0} (T : List ℕ) (y : A × List ℕ) (K : A → Lang) : Type 0 where
  pub before : List ℕ
  pub stands : Stands T before y.1 (K y.0)

abbrev pub Goes : {A : Type 0} → List ℕ → (A → Lang) → Step A → Type 0
Goes T K step = MatchResult step (λ y. Passes T y K) (λ e. Stops T e)

-- d reads the part f, where what stands behind it does not begin with a byte of the kind C
pub record IsRead {A : Type 0} (C : ℕ → Bool) (f : ℕ → Part A) (d : ℕ → List ℕ → Step A) : Type 1 where
  pub goes : (T s r : List ℕ) (K : A → Lang) → ((x : A) → IsAlive (K x)) → ((x : A) → Avoids C (K x)) → Stands T s r (Then f K) → Goes T K (d (length T) r)

-- the same where nothing is said of the value
pub record IsPassed {A : Type 0} (C : ℕ → Bool) (f : ℕ → Part A) (d : ℕ → List ℕ → Step (Unit {0})) : Type 1 where
  pub goes : (T s r : List ℕ) (K : Lang) → IsAlive K → Avoids C K → Stands T s r (Then f (λ _. K)) → Goes T (λ _. K) (d (length T) r)

-- ---- what a part is, before what may stand behind it

pub then_bind : {A B : Type 0} (f : ℕ → Part A) (g : ℕ → A → Part B) (K : B → Lang) → Same (Then (λ n. f n >>= g n) K) (Then f (λ x. Then (λ n. g n x) K))
then_bind f g K = record {
  to = λ n u q h. let e = through (f n) (g n) h.value h.rest u h.first in
      record { value = e.value; rest = e.rest; first = e.first; second = record { value = h.value; rest = h.rest; first = e.second; second = h.second } };
  from = λ n u q h. record {
    value = h.second.value;
    rest = h.second.rest;
    first = bind_has (f n) (g n) (Reads h.second.value h.second.rest) u h.value h.rest h.first h.second.first;
    second = h.second.second;
  };
}

nothing_is : {A : Type 0} (K : A → Lang) (x value : A) (n : ℕ) (u rest : List ℕ) (q : Query) → Reads x u ≡ Reads value rest → K value n rest q → K x n u q
nothing_is K x value n u rest q e h = let a : x ≡ value = cc in let b : u ≡ rest = cc in rw (a, b) h

pub then_nothing : {A : Type 0} (x : A) (K : A → Lang) → Same (Then (λ n. nothing x) K) (K x)
then_nothing x K = record {
  to = λ n u q h. nothing_is K x h.value n u h.rest q (one_reading (Reads h.value h.rest) (Reads x u) h.first) h.second;
  from = λ n u q h. record { value = x; rest = u; first = inl refl; second = h };
}

pub then_either : {A : Type 0} (f g : ℕ → Part A) (K : A → Lang) → Same (Then (λ n. either (f n) (g n)) K) (λ n u q. Then f K n u q ⊎ Then g K n u q)
then_either f g K = record {
  to = λ n u q h. elim (IsIn-append (Reads h.value h.rest) (f n u) (g n u) h.first) [
    | inl e ↦ inl (record { value = h.value; rest = h.rest; first = e; second = h.second })
    | inr e ↦ inr (record { value = h.value; rest = h.rest; first = e; second = h.second })
  ];
  from = λ n u q h. elim h [
    | inl e ↦ record { value = e.value; rest = e.rest; first = append_left (Reads e.value e.rest) (f n u) (g n u) e.first; second = e.second }
    | inr e ↦ record { value = e.value; rest = e.rest; first = append_right (Reads e.value e.rest) (f n u) (g n u) e.first; second = e.second }
  ];
}

pub then_along : {A : Type 0} (f : ℕ → Part A) (K L : A → Lang) → ((x : A) → Same (K x) (L x)) → Same (Then f K) (Then f L)
then_along f K L e = record {
  to = λ n u q h. record { value = h.value; rest = h.rest; first = h.first; second = (e h.value).to n h.rest q h.second };
  from = λ n u q h. record { value = h.value; rest = h.rest; first = h.first; second = (e h.value).from n h.rest q h.second };
}

pub same_over : {K L M : Lang} → Same K L → Same L M → Same K M
same_over a b = record { to = λ n u q h. b.to n u q (a.to n u q h); from = λ n u q h. a.from n u q (b.from n u q h) }

pub same_back : {K L : Lang} → Same K L → Same L K
same_back a = record { to = a.from; from = a.to }

pub same_self : (K : Lang) → Same K K
same_self K = record { to = λ n u q h. h; from = λ n u q h. h }

pub alive_then : {A : Type 0} (f : ℕ → Part A) (K : A → Lang) → IsPart f → ((x : A) → IsAlive (K x)) → IsAlive (Then f K)
alive_then f K F L m =
    let c = F.somehow m in
    let a = L c.value (m + length c.more) in
    let e : m + length (c.more ++ a.more) ≡ (m + length c.more) + length a.more = omega (arith, length-append c.more a.more) in
    record {
      more = c.more ++ a.more;
      query = a.query;
      holds = rw e (record {
        value = c.value;
        rest = a.more;
        first = F.stays (m + length c.more) c.more a.more c.value [] c.reads;
        second = a.holds;
      });
    }

pub alive_same : (K L : Lang) → Same K L → IsAlive K → IsAlive L
alive_same K L e a m = let h = a m in record { more = h.more; query = h.query; holds = e.to (m + length h.more) h.more h.query h.holds }

-- ---- going on in a text

pub narrow : (T s r : List ℕ) (K L : Lang) → ((u : List ℕ) (q : Query) → L (length s + length u) u q → K (length s + length u) u q) → ((u : List ℕ) (q : Query) → head u ≡ head r → K (length s + length u) u q → L (length s + length u) u q) → Stands T s r K → Stands T s r L
narrow T s r K L a b h = record { whole = h.whole; sound = λ u q l. h.sound u q (a u q l); complete = λ u q e i. b u q e (h.complete u q e i) }

pub stands_same : (T s r : List ℕ) (K L : Lang) → Same K L → Stands T s r K → Stands T s r L
stands_same T s r K L e h = narrow T s r K L (λ u q l. e.from (length s + length u) u q l) (λ u q i k. e.to (length s + length u) u q k) h

pub shift : (T s r : List ℕ) (b : ℕ) (K L : Lang) → ((n : ℕ) (u : List ℕ) (q : Query) → L n u q → K n (b ∷ u) q) → ((n : ℕ) (u : List ℕ) (q : Query) → K n (b ∷ u) q → L n u q) → Stands T s (b ∷ r) K → Stands T (s ++ b ∷ []) r L
shift T s r b K L to from h = record {
  whole = h.whole ∙ sym (append_assoc s (b ∷ []) r);
  sound = λ u q l. let e : length s + length (b ∷ u) ≡ length (s ++ b ∷ []) + length u = omega (arith, length-append s (b ∷ [])) in
      rw (append_assoc s (b ∷ []) u) (h.sound (b ∷ u) q (rw e (to (length (s ++ b ∷ []) + length u) u q l)));
  complete = λ u q i k. let e : length (s ++ b ∷ []) + length u ≡ length s + length (b ∷ u) = omega (arith, length-append s (b ∷ [])) in
      rw e (from (length s + length (b ∷ u)) u q (h.complete (b ∷ u) q refl (rw (append_assoc s (b ∷ []) u) at k)));
}

pub stop : (T s r : List ℕ) (K : Lang) → IsAlive K → ((u : List ℕ) (q : Query) → head u ≡ head r → K (length s + length u) u q → ⊥) → Stands T s r K → Stops T (fault.Syntax (length T - length r))
stop T s r K alive none h = let a = alive (length s) in record {
  before = s;
  rest = r;
  whole = h.whole;
  is = refl;
  more = a.more;
  query = a.query;
  begun = h.sound a.more a.query a.holds;
  none = λ u q e i. none u q e (h.complete u q e i);
}

-- a step, and behind it another
pub goes_on : {A B : Type 0} (T : List ℕ) (K : A → Lang) (L : B → Lang) (step : Step A) (next : A → List ℕ → Step B) → Goes T K step → ((x : A) (s r : List ℕ) → Stands T s r (K x) → Goes T L (next x r)) → Goes T L (onto step next)
goes_on T K L (Ok y) next h f = f y.0 h.before y.1 h.stands
goes_on T K L (Err e) next h f = h

pub read_bind : {A B : Type 0} (C D : ℕ → Bool) (f : ℕ → Part A) (g : ℕ → A → Part B) (d : ℕ → List ℕ → Step A) (e : A → ℕ → List ℕ → Step B)
    → IsRead C f d → ((x : A) → IsRead D (λ n. g n x) (e x)) → ((x : A) → IsPart (λ n. g n x))
    → ((x : A) (K : B → Lang) → ((y : B) → Avoids D (K y)) → Avoids C (Then (λ n. g n x) K))
    → IsRead D (λ n. f n >>= g n) (λ n r. onto (d n r) (λ x r. e x n r))
read_bind C D f g d e F G P follows = record {
  goes = λ T s r K alive avoids h. goes_on T (λ x. Then (λ n. g n x) K) K (d (length T) r) (λ x r. e x (length T) r)
      (F.goes T s r (λ x. Then (λ n. g n x) K) (λ x. alive_then (λ n. g n x) K (P x) alive) (λ x. follows x K avoids) (stands_same T s r (Then (λ n. f n >>= g n) K) (Then f (λ x. Then (λ n. g n x) K)) (then_bind f g K) h))
      (λ x s r i. (G x).goes T s r K alive avoids i);
}

pub read_nothing : {A : Type 0} (C : ℕ → Bool) (x : A) → IsRead C (λ n. nothing x) (λ n r. Ok (x, r))
read_nothing C x = record { goes = λ T s r K alive avoids h. record { before = s; stands = stands_same T s r (Then (λ n. nothing x) K) (K x) (then_nothing x K) h } }

pub passed_read : {A B : Type 0} (C D : ℕ → Bool) (f : ℕ → Part A) (g : ℕ → Part B) (d : ℕ → List ℕ → Step (Unit {0})) (e : ℕ → List ℕ → Step B)
    → IsPassed C f d → IsRead D g e → IsPart g
    → ((K : B → Lang) → ((y : B) → Avoids D (K y)) → Avoids C (Then g K))
    → IsRead D (λ n. f n >>= λ _. g n) (λ n r. onto (d n r) (λ _ r. e n r))
passed_read C D f g d e F G P follows = record {
  goes = λ T s r K alive avoids h. goes_on T (λ _. Then g K) K (d (length T) r) (λ _ r. e (length T) r)
      (F.goes T s r (Then g K) (alive_then g K P alive) (follows K avoids) (stands_same T s r (Then (λ n. f n >>= λ _. g n) K) (Then f (λ _. Then g K)) (then_bind f (λ n _. g n) K) h))
      (λ _ s r i. G.goes T s r K alive avoids i);
}

pub passed_bind : {A B : Type 0} (C D : ℕ → Bool) (f : ℕ → Part A) (g : ℕ → Part B) (d e : ℕ → List ℕ → Step (Unit {0}))
    → IsPassed C f d → IsPassed D g e → IsPart g
    → ((K : Lang) → Avoids D K → Avoids C (Then g (λ _. K)))
    → IsPassed D (λ n. f n >>= λ _. g n) (λ n r. onto (d n r) (λ _ r. e n r))
passed_bind C D f g d e F G P follows = record {
  goes = λ T s r K alive avoids h. goes_on T (λ _. Then g (λ _. K)) (λ _. K) (d (length T) r) (λ _ r. e (length T) r)
      (F.goes T s r (Then g (λ _. K)) (alive_then g (λ _. K) P (λ _. alive)) (follows K avoids) (stands_same T s r (Then (λ n. f n >>= λ _. g n) (λ _. K)) (Then f (λ _. Then g (λ _. K))) (then_bind f (λ n _. g n) (λ _. K)) h))
      (λ _ s r i. G.goes T s r K alive avoids i);
}
