-- Bytes, words, blanks, and what a part may begin with.
use Rattle.std.proofs.Common.{◌≡◌, ◌⊎◌, inl, inr, ℕ, ◌+◌, ◌-◌, Bool, true, false, eqb, eqb-true, List, [], ◌∷◌, ◌++◌, length, sym, ap, ◌∙◌, Ok}
use Rattle.std.specs.Prelude.{Some, None}
use Rattle.std.proofs.lemmas.Bool.{false≢true}
use Rattle.cube_model.specs.Cubes.{IsIn}
use Rattle.cube_model.proofs.Members.{tested, IsIn-append}
use Rattle.cube_query.specs.declared.query.Query.{Query}
use Rattle.cube_query.specs.declared.query.QueryFault.TheVariants as fault
use Rattle.cube_query.specs.Grammar.{Part, byte, nothing, ◌>>=◌, either, word}
use Rattle.cube_query.specs.Grammar.Reading.{Ends, Reads}
use Rattle.cube_query.specs.Reading.{byte_in, word_in}
use Rattle.cube_query.proofs.Parts.{through, one_reading, no_reads, byte_is, byte_has, byte_part, word_part, same_byte}
use Rattle.cube_query.proofs.Languages.{Lang, Then, head, Stands, IsAlive, Avoids, Stops, Goes, IsPassed, passed_bind, then_nothing, then_either, alive_then, narrow, stands_same, shift, stop}

pub reads_same : {A : Type 0} (x y : A) (r t : List ℕ) → Reads x r ≡ Reads y t → (x ≡ y) × (r ≡ t)
reads_same x y r t e = (cc, cc)

pub cons_same : {A : Type 0} (a b : A) (x y : List A) → a ∷ x ≡ b ∷ y → (a ≡ b) × (x ≡ y)
cons_same a b x y e = (cc, cc)

pub some_same : (a b : ℕ) → Some a ≡ Some b → a ≡ b
some_same a b e = cc

pub no_head : (b : ℕ) → Some b ≡ None → ⊥
no_head b e = cc

pub no_head_from : (b : ℕ) → None ≡ Some b → ⊥
no_head_from b e = cc

-- a text whose first byte is known
pub head_cons : (P : List ℕ → Type 0) (b : ℕ) (u : List ℕ) → head u ≡ Some b → ((v : List ℕ) → P (b ∷ v)) → P u
head_cons P b [] e f = absurd (no_head_from b e)
head_cons P b (c ∷ u) e f = rw (some_same c b e) (f u)

pub head_nil : (P : List ℕ → Type 0) (u : List ℕ) → head u ≡ None → P [] → P u
head_nil P [] e f = f
head_nil P (c ∷ u) e f = absurd (no_head c e)

-- ---- one byte

pub then_byte_has : (p : ℕ → Bool) (K : ℕ → Lang) (n b : ℕ) (u : List ℕ) (q : Query) → p b ≡ true → K b n u q → Then (λ n. byte p) K n (b ∷ u) q
then_byte_has p K n b u q e h = record { value = b; rest = u; first = byte_has p b u e; second = h }

pub then_byte_is : (p : ℕ → Bool) (K : ℕ → Lang) (n b : ℕ) (u : List ℕ) (q : Query) → Then (λ n. byte p) K n (b ∷ u) q → (p b ≡ true) × K b n u q
then_byte_is p K n b u q h = let e = byte_is p b u (Reads h.value h.rest) h.first in let s = reads_same b h.value u h.rest e.1 in (e.0, rw (s.0, s.1) h.second)

pub then_byte_nil : (p : ℕ → Bool) (K : ℕ → Lang) (n : ℕ) (q : Query) → Then (λ n. byte p) K n [] q → ⊥
then_byte_nil p K n q h = no_reads h.value h.rest (one_reading (Reads h.value h.rest) Ends h.first)

-- past a byte of some kind
pub shift_byte : (T s r : List ℕ) (p : ℕ → Bool) (b : ℕ) (K : ℕ → Lang) → p b ≡ true → Stands T s (b ∷ r) (Then (λ n. byte p) K) → Stands T (s ++ b ∷ []) r (K b)
shift_byte T s r p b K e h = shift T s r b (Then (λ n. byte p) K) (K b) (λ n u q k. then_byte_has p K n b u q e k) (λ n u q k. (then_byte_is p K n b u q k).1) h

-- no such byte comes
pub stop_byte : (T s r : List ℕ) (p : ℕ → Bool) (K : ℕ → Lang) → IsAlive (Then (λ n. byte p) K) → ((b : ℕ) → head r ≡ Some b → p b ≡ false) → Stands T s r (Then (λ n. byte p) K) → Stops T (fault.Syntax (length T - length r))
stop_byte T s r p K alive not_one h = stop T s r (Then (λ n. byte p) K) alive (λ u q e k. none u q e k) h
  where
    none : (u : List ℕ) (q : Query) → head u ≡ head r → Then (λ n. byte p) K (length s + length u) u q → ⊥
    none [] q e k = then_byte_nil p K (length s + length {A = ℕ} []) q k
    none (b ∷ u) q e k = false≢true (sym (not_one b (sym e)) ∙ (then_byte_is p K (length s + length (b ∷ u)) b u q k).0)

pub byte_passed : (c : ℕ) → IsPassed (λ _. false) (λ n. byte (λ b. eqb b c)) (λ n r. byte_in n c r)
byte_passed c = record { goes = λ T s r K alive avoids h. go T s r K (alive_then (λ n. byte (λ b. eqb b c)) (λ _. K) (byte_part (λ b. eqb b c) c (same_byte c)) (λ _. alive)) h }
  where
    go : (T s r : List ℕ) (K : Lang) → IsAlive (Then (λ n. byte (λ b. eqb b c)) (λ _. K)) → Stands T s r (Then (λ n. byte (λ b. eqb b c)) (λ _. K)) → Goes T (λ _. K) (byte_in (length T) c r)
    go T s [] K alive h = stop_byte T s [] (λ b. eqb b c) (λ _. K) alive (λ b e. absurd (no_head_from b e)) h
    go T s (b ∷ r) K alive h = tested (eqb b c)
        (λ e. rw e (record { before = s ++ b ∷ []; stands = shift_byte T s r (λ b. eqb b c) b (λ _. K) e h }))
        (λ e. rw e (stop_byte T s (b ∷ r) (λ b. eqb b c) (λ _. K) alive (λ d f. rw (sym (some_same b d f)) e) h))

pub nothing_passed : {A : Type 0} (C : ℕ → Bool) (x : A) → IsPassed C (λ n. nothing x) (λ n r. Ok (tt, r))
nothing_passed C x = record { goes = λ T s r K alive avoids h. record { before = s; stands = stands_same T s r (Then (λ n. nothing x) (λ _. K)) K (then_nothing x (λ _. K)) h } }

pub nothing_avoided : (K : Lang) → Avoids (λ _. false) K
nothing_avoided K n b u q e h = false≢true e

-- this very text
pub word_passed : (cs : List ℕ) → IsPassed (λ _. false) (λ n. word cs) (λ n r. word_in n cs r)
word_passed [] = nothing_passed (λ _. false) []
word_passed (c ∷ cs) = passed_bind (λ _. false) (λ _. false) (λ n. byte (λ b. eqb b c)) (λ n. word cs) (λ n r. byte_in n c r) (λ n r. word_in n cs r) (byte_passed c) (word_passed cs) (word_part cs) (λ K _. nothing_avoided (Then (λ n. word cs) (λ _. K)))

-- ---- what a part begins with

abbrev pub HeadPasses : (ℕ → Bool) → List ℕ → Type 0
HeadPasses D [] = ⊥
HeadPasses D (b ∷ t) = D b ≡ true

pub record Begins {A : Type 0} (D : ℕ → Bool) (f : ℕ → Part A) : Type 0 where
  pub starts : (n : ℕ) (t : List ℕ) (x : A) (rest : List ℕ) → IsIn (Reads x rest) (f n t) → HeadPasses D t

pub begins_byte : (p : ℕ → Bool) → Begins p (λ n. byte p)
begins_byte p = record { starts = λ n t x rest h. go t x rest h }
  where
    go : (t : List ℕ) (x : ℕ) (rest : List ℕ) → IsIn (Reads x rest) (byte p t) → HeadPasses p t
    go [] x rest h = no_reads x rest (one_reading (Reads x rest) Ends h)
    go (b ∷ t) x rest h = (byte_is p b t (Reads x rest) h).0

pub begins_bind : {A B : Type 0} (D : ℕ → Bool) (f : ℕ → Part A) (g : ℕ → A → Part B) → Begins D f → Begins D (λ n. f n >>= g n)
begins_bind D f g F = record { starts = λ n t x rest h. let e = through (f n) (g n) x rest t h in F.starts n t e.value e.rest e.first }

pub begins_word : (c : ℕ) (cs : List ℕ) → Begins (λ b. eqb b c) (λ n. word (c ∷ cs))
begins_word c cs = begins_bind (λ b. eqb b c) (λ n. byte (λ b. eqb b c)) (λ n _. word cs) (begins_byte (λ b. eqb b c))

begins_or : (D E : ℕ → Bool) (t : List ℕ) → ((b : ℕ) → D b ≡ true → E b ≡ true) → HeadPasses D t → HeadPasses E t
begins_or D E [] f h = h
begins_or D E (b ∷ t) f h = f b h

pub begins_either : {A : Type 0} (D E C : ℕ → Bool) (f g : ℕ → Part A) → ((b : ℕ) → D b ≡ true → C b ≡ true) → ((b : ℕ) → E b ≡ true → C b ≡ true) → Begins D f → Begins E g → Begins C (λ n. either (f n) (g n))
begins_either D E C f g a b F G = record {
  starts = λ n t x rest h. elim (IsIn-append (Reads x rest) (f n t) (g n t) h) [
    | inl e ↦ begins_or D C t a (F.starts n t x rest e)
    | inr e ↦ begins_or E C t b (G.starts n t x rest e)
  ];
}

pub avoids_begins : {A : Type 0} (C D : ℕ → Bool) (f : ℕ → Part A) (K : A → Lang) → Begins D f → ((b : ℕ) → C b ≡ true → D b ≡ false) → Avoids C (Then f K)
avoids_begins C D f K F apart n b u q e h = false≢true (sym (apart b e) ∙ F.starts n (b ∷ u) h.value h.rest h.first)

-- a byte that is not of a kind is none of the bytes of that kind
pub apart_from : (p : ℕ → Bool) (c : ℕ) → p c ≡ false → (b : ℕ) → p b ≡ true → eqb b c ≡ false
apart_from p c e b h = tested (eqb b c) (λ t. absurd (false≢true (sym e ∙ ap p (sym (eqb-true b c t)) ∙ h))) (λ f. f)

-- nothing comes that the part may begin with
pub stop_begins : {A : Type 0} (T s r : List ℕ) (D : ℕ → Bool) (f : ℕ → Part A) (K : A → Lang) → Begins D f → IsAlive (Then f K) → ((b : ℕ) → head r ≡ Some b → D b ≡ false) → Stands T s r (Then f K) → Stops T (fault.Syntax (length T - length r))
stop_begins T s r D f K F alive not_one h = stop T s r (Then f K) alive (λ u q e k. none u q e k) h
  where
    none : (u : List ℕ) (q : Query) → head u ≡ head r → Then f K (length s + length u) u q → ⊥
    none [] q e k = F.starts (length s + length {A = ℕ} []) [] k.value k.rest k.first
    none (b ∷ u) q e k = false≢true (sym (not_one b (sym e)) ∙ F.starts (length s + length (b ∷ u)) (b ∷ u) k.value k.rest k.first)

no_begin : {A : Type 0} (E : ℕ → Bool) (g : ℕ → Part A) (K : A → Lang) (n b : ℕ) (u : List ℕ) (q : Query) → Begins E g → E b ≡ false → Then g K n (b ∷ u) q → ⊥
no_begin E g K n b u q G e k = false≢true (sym e ∙ G.starts n (b ∷ u) k.value k.rest k.first)

-- of two parts only one may begin with the byte that comes
pub either_left : {A : Type 0} (T s r : List ℕ) (b : ℕ) (E : ℕ → Bool) (f g : ℕ → Part A) (K : A → Lang) → Begins E g → E b ≡ false → Stands T s (b ∷ r) (Then (λ n. either (f n) (g n)) K) → Stands T s (b ∷ r) (Then f K)
either_left T s r b E f g K G e h = narrow T s (b ∷ r) (Then (λ n. either (f n) (g n)) K) (Then f K)
    (λ u q k. (then_either f g K).from (length s + length u) u q (inl k))
    (λ u q i k. only u q i ((then_either f g K).to (length s + length u) u q k)) h
  where
    only : (u : List ℕ) (q : Query) → head u ≡ Some b → Then f K (length s + length u) u q ⊎ Then g K (length s + length u) u q → Then f K (length s + length u) u q
    only u q i (inl k) = k
    only [] q i (inr k) = absurd (no_head_from b i)
    only (c ∷ u) q i (inr k) = absurd (no_begin E g K (length s + length (c ∷ u)) c u q G (ap E (some_same c b i) ∙ e) k)

pub either_right : {A : Type 0} (T s r : List ℕ) (b : ℕ) (E : ℕ → Bool) (f g : ℕ → Part A) (K : A → Lang) → Begins E f → E b ≡ false → Stands T s (b ∷ r) (Then (λ n. either (f n) (g n)) K) → Stands T s (b ∷ r) (Then g K)
either_right T s r b E f g K G e h = narrow T s (b ∷ r) (Then (λ n. either (f n) (g n)) K) (Then g K)
    (λ u q k. (then_either f g K).from (length s + length u) u q (inr k))
    (λ u q i k. only u q i ((then_either f g K).to (length s + length u) u q k)) h
  where
    only : (u : List ℕ) (q : Query) → head u ≡ Some b → Then f K (length s + length u) u q ⊎ Then g K (length s + length u) u q → Then g K (length s + length u) u q
    only u q i (inr k) = k
    only [] q i (inl k) = absurd (no_head_from b i)
    only (c ∷ u) q i (inl k) = absurd (no_begin E f K (length s + length (c ∷ u)) c u q G (ap E (some_same c b i) ∙ e) k)
