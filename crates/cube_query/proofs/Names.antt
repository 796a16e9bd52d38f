-- Names, bare and in quotes.
use Rattle.std.proofs.Common.{◌≡◌, ◌⊎◌, inl, inr, ℕ, zero, suc, ◌+◌, ◌-◌, ◌≤◌, Bool, true, false, ltb, eqb, eqb-true, eq-eqb, List, [], ◌∷◌, ◌++◌, length, refl, sym, ap, subst, ◌∙◌, arith, append_assoc, append-nil, length-append, Ok}
use Rattle.std.specs.Prelude.{Some, None, not, ◌||◌}
use Rattle.std.specs.List.{list_any, prefix_len, flat_map}
use Rattle.std.proofs.lemmas.Bool.{false≢true}
use Rattle.cube_model.specs.Cubes.{IsIn}
use Rattle.cube_model.proofs.Members.{tested, IsIn-append, append_left, append_right}
use Rattle.cube_model.specs.Names.{is_control}
use Rattle.cube_text.specs.Quoting.{is_bare, is_marked, spelled, closing}
use Rattle.cube_query.specs.declared.query.Name.{Name}
use Rattle.cube_query.specs.declared.query.Query.{Query}
use Rattle.cube_query.specs.Grammar.{Part, byte, nothing, ◌>>=◌, either, up_to, many, some, quoted_byte, quoted_name, name}
use Rattle.cube_query.specs.Grammar.Reading.{Ends, Reads}
use Rattle.cube_query.specs.Reading.{closed_in, quote_in, bare_in, text_in, name_in}
use Rattle.cube_query.proofs.Parts.{IsPart, through, bind_has, one_reading, no_reads, byte_is, byte_has, byte_part, byte_eats, some_part, either_part, quoted_name_part}
use Rattle.cube_query.proofs.Languages.{Lang, Then, Same, head, Stands, IsAlive, Avoids, Passes, Goes, IsRead, then_bind, then_nothing, alive_then, narrow, stands_same, shift, stop, goes_on}
use Rattle.cube_query.proofs.Runs.{reads_same, cons_same, some_same, no_head, no_head_from, shift_byte, Begins, begins_byte, begins_bind, begins_either, stop_begins, either_left, either_right}
use Rattle.cube_query.proofs.Blanks.{taken_of, left_of, taken_more, some_goes}

-- ---- bytes between quotes

-- bytes as they are spelled between quotes, and what is left
pub record AreSpelled (x rest t : List ℕ) : Type 0 where
  pub is : t ≡ flat_map spelled x ++ rest
  pub plain : list_any is_control x ≡ false

not_true : (b : Bool) → not b ≡ true → b ≡ false
not_true true e = sym e
not_true false e = refl

or_false : (x y : Bool) → x || y ≡ false → (x ≡ false) × (y ≡ false)
or_false true y e = absurd (false≢true (sym e))
or_false false y e = (refl, e)

marked_control : (b : ℕ) → is_marked b ≡ true → is_control b ≡ false
marked_control b h = tested (eqb b 34) (λ p. rw (eqb-true b 34 p) refl) (λ p. tested (eqb b 92) (λ q. rw (eqb-true b 92 q) refl) (λ q. absurd (false≢true (sym (rw (p, q) refl) ∙ h))))

byte_of : (p : ℕ → Bool) (x : ℕ) (rest t : List ℕ) → IsIn (Reads x rest) (byte p t) → (p x ≡ true) × (t ≡ x ∷ rest)
byte_of p x rest [] h = absurd (no_reads x rest (one_reading (Reads x rest) Ends h))
byte_of p x rest (b ∷ t) h = let e = byte_is p b t (Reads x rest) h in let s = reads_same b x t rest e.1 in (ap p (sym s.0) ∙ e.0, cc)

quoted_byte_is : (b : ℕ) (rest t : List ℕ) → IsIn (Reads b rest) (quoted_byte t) → (t ≡ spelled b ++ rest) × (is_control b ≡ false)
quoted_byte_is b rest t h = elim (IsIn-append (Reads b rest) (byte (λ c. not (is_control c || is_marked c)) t) ((byte (λ c. eqb c 92) >>= λ _. byte is_marked) t) h) [
  | inl e ↦ let f = byte_of (λ c. not (is_control c || is_marked c)) b rest t e in let g = or_false (is_control b) (is_marked b) (not_true (is_control b || is_marked b) f.0) in (rw g.1 f.1, g.0)
  | inr e ↦
      let a = through (byte (λ c. eqb c 92)) (λ _. byte is_marked) b rest t e in
      let f = byte_of (λ c. eqb c 92) a.value a.rest t a.first in
      let g = byte_of is_marked b rest a.rest a.second in
      (rw g.0 (f.1 ∙ ap (λ z. z ∷ a.rest) (eqb-true a.value 92 f.0) ∙ ap (λ z. 92 ∷ z) g.1), marked_control b g.0)
]

quoted_byte_has : (b : ℕ) (rest : List ℕ) → is_control b ≡ false → IsIn (Reads b rest) (quoted_byte (spelled b ++ rest))
quoted_byte_has b rest c = tested (is_marked b)
    (λ m. rw m (append_right (Reads b rest) (byte (λ c. not (is_control c || is_marked c)) (92 ∷ b ∷ rest)) ((byte (λ c. eqb c 92) >>= λ _. byte is_marked) (92 ∷ b ∷ rest))
    (bind_has (byte (λ c. eqb c 92)) (λ _. byte is_marked) (Reads b rest) (92 ∷ b ∷ rest) 92 (b ∷ rest) (byte_has (λ c. eqb c 92) 92 (b ∷ rest) refl) (byte_has is_marked b rest m))))
    (λ m. rw m (append_left (Reads b rest) (byte (λ c. not (is_control c || is_marked c)) (b ∷ rest)) ((byte (λ c. eqb c 92) >>= λ _. byte is_marked) (b ∷ rest))
    (byte_has (λ c. not (is_control c || is_marked c)) b rest (rw (c, m) refl))))

spelled_as : (x y rest left t : List ℕ) → x ≡ y → rest ≡ left → AreSpelled x rest t → AreSpelled y left t
spelled_as x y rest left t a b h = record { is = rw (sym a, sym b) h.is; plain = rw (sym a) h.plain }

spelled_front : (b : ℕ) (x rest tail t : List ℕ) → is_control b ≡ false → t ≡ spelled b ++ tail → AreSpelled x rest tail → AreSpelled (b ∷ x) rest t
spelled_front b x rest tail t c s h = record { is = s ∙ ap (λ u. spelled b ++ u) h.is ∙ sym (append_assoc (spelled b) (flat_map spelled x) rest); plain = rw c h.plain }

up_to_spelled : (k : ℕ) (x rest t : List ℕ) → IsIn (Reads x rest) (up_to k quoted_byte t) → AreSpelled x rest t
up_to_spelled zero x rest t h = let s = reads_same [] x t rest (one_reading (Reads x rest) (Reads [] t) h) in record { is = rw (sym s.0) s.1; plain = rw (sym s.0) refl }
up_to_spelled (suc k) x rest t h = elim (IsIn-append (Reads x rest) (nothing [] t) ((quoted_byte >>= λ b. up_to k quoted_byte >>= λ y. nothing (b ∷ y)) t) h) [
  | inl e ↦ let s = reads_same [] x t rest (one_reading (Reads x rest) (Reads [] t) e) in record { is = rw (sym s.0) s.1; plain = rw (sym s.0) refl }
  | inr e ↦
      let a = through quoted_byte (λ b. up_to k quoted_byte >>= λ y. nothing (b ∷ y)) x rest t e in
      let b = through (up_to k quoted_byte) (λ y. nothing (a.value ∷ y)) x rest a.rest a.second in
      let s = reads_same (a.value ∷ b.value) x b.rest rest (one_reading (Reads x rest) (Reads (a.value ∷ b.value) b.rest) b.second) in
      let f = quoted_byte_is a.value a.rest t a.first in
      spelled_as (a.value ∷ b.value) x b.rest rest t s.0 s.1 (spelled_front a.value b.value b.rest a.rest t f.1 f.0 (up_to_spelled k b.value b.rest a.rest b.first))
]

plain_parts : (b : ℕ) (x : List ℕ) → list_any is_control (b ∷ x) ≡ false → (is_control b ≡ false) × (list_any is_control x ≡ false)
plain_parts b x h = or_false (is_control b) (list_any is_control x) h

up_to_spells : (k : ℕ) (x rest : List ℕ) → list_any is_control x ≡ false → length x ≤ k → IsIn (Reads x rest) (up_to k quoted_byte (flat_map spelled x ++ rest))
up_to_spells zero [] rest h l = inl refl
up_to_spells zero (b ∷ x) rest h l = absurd (omega (arith, l))
up_to_spells (suc k) [] rest h l = inl refl
up_to_spells (suc k) (b ∷ x) rest h l =
    let e = plain_parts b x h in
    let t = spelled b ++ (flat_map spelled x ++ rest) in
    rw (append_assoc (spelled b) (flat_map spelled x) rest)
    (append_right (Reads (b ∷ x) rest) (nothing [] t) ((quoted_byte >>= λ c. up_to k quoted_byte >>= λ y. nothing (c ∷ y)) t)
    (bind_has quoted_byte (λ c. up_to k quoted_byte >>= λ y. nothing (c ∷ y)) (Reads (b ∷ x) rest) t b (flat_map spelled x ++ rest) (quoted_byte_has b (flat_map spelled x ++ rest) e.0)
    (bind_has (up_to k quoted_byte) (λ y. nothing (b ∷ y)) (Reads (b ∷ x) rest) (flat_map spelled x ++ rest) x rest (up_to_spells k x rest e.1 (omega (arith, l))) (inl refl))))

spelled_long : (x : List ℕ) → length x ≤ length (flat_map spelled x)
spelled_long [] = omega arith
spelled_long (b ∷ x) = let a = spelled_long x in let l = length-append (spelled b) (flat_map spelled x) in tested (is_marked b)
    (λ m. let k : length (spelled b) ≡ 2 = rw m refl in omega (arith, a, l, k))
    (λ m. let k : length (spelled b) ≡ 1 = rw m refl in omega (arith, a, l, k))

pub many_spells : (x rest u : List ℕ) → AreSpelled x rest u → IsIn (Reads x rest) (many quoted_byte u)
many_spells x rest u h =
    let P : List ℕ → Type 0 = λ t. IsIn (Reads x rest) (many quoted_byte t) in
    subst P (sym h.is) (up_to_spells (suc (length (flat_map spelled x ++ rest))) x rest h.plain (omega (arith, spelled_long x, length-append (flat_map spelled x) rest)))

-- ---- behind an opening quote

-- behind some bytes of the name: more of them, and the closing quote
pub record Closes (name : List ℕ) (K : List ℕ → Lang) (n : ℕ) (u : List ℕ) (q : Query) : Type 0 where
  pub more : List ℕ
  pub rest : List ℕ
  pub spelled : AreSpelled more (34 ∷ rest) u
  pub holds : K (name ++ more) n rest q

-- right behind a backslash
pub record Marks (name : List ℕ) (K : List ℕ → Lang) (n : ℕ) (u : List ℕ) (q : Query) : Type 0 where
  pub byte : ℕ
  pub more : List ℕ
  pub left : List ℕ
  pub rest : List ℕ
  pub marked : is_marked byte ≡ true
  pub is : u ≡ byte ∷ left
  pub spelled : AreSpelled more (34 ∷ rest) left
  pub holds : K (name ++ byte ∷ more) n rest q

abbrev pub quote_lang : Bool → List ℕ → (List ℕ → Lang) → Lang
quote_lang true name K = Marks name K
quote_lang false name K = Closes name K

quote_alive : (marked : Bool) (name : List ℕ) (K : List ℕ → Lang) → ((x : List ℕ) → IsAlive (K x)) → IsAlive (quote_lang marked name K)
quote_alive true name K alive m = let a = alive (name ++ 34 ∷ []) (m + 2) in record {
  more = 34 ∷ 34 ∷ a.more;
  query = a.query;
  holds = record {
    byte = 34;
    more = [];
    left = 34 ∷ a.more;
    rest = a.more;
    marked = refl;
    is = refl;
    spelled = record { is = refl; plain = refl };
    holds = let e : m + length (34 ∷ 34 ∷ a.more) ≡ (m + 2) + length a.more = omega arith in rw e a.holds;
  };
}
quote_alive false name K alive m = let a = alive (name ++ []) (m + 1) in record {
  more = 34 ∷ a.more;
  query = a.query;
  holds = record {
    more = [];
    rest = a.more;
    spelled = record { is = refl; plain = refl };
    holds = let e : m + length (34 ∷ a.more) ≡ (m + 1) + length a.more = omega arith in rw e a.holds;
  };
}

-- what the first byte behind a quote can be
pub record IsClosed (more rest : List ℕ) (b : ℕ) (u : List ℕ) : Type 0 where
  pub none : more ≡ []
  pub byte : b ≡ 34
  pub behind : rest ≡ u

pub record IsMark (more rest : List ℕ) (b : ℕ) (u : List ℕ) : Type 0 where
  pub first : ℕ
  pub others : List ℕ
  pub left : List ℕ
  pub are : more ≡ first ∷ others
  pub marked : is_marked first ≡ true
  pub byte : b ≡ 92
  pub behind : u ≡ first ∷ left
  pub spelled : AreSpelled others (34 ∷ rest) left

pub record IsPlain (more rest : List ℕ) (b : ℕ) (u : List ℕ) : Type 0 where
  pub others : List ℕ
  pub are : more ≡ b ∷ others
  pub unmarked : is_marked b ≡ false
  pub control : is_control b ≡ false
  pub spelled : AreSpelled others (34 ∷ rest) u

front : (more rest : List ℕ) (b : ℕ) (u : List ℕ) → AreSpelled more (34 ∷ rest) (b ∷ u) → IsClosed more rest b u ⊎ (IsMark more rest b u ⊎ IsPlain more rest b u)
front [] rest b u h = let s = cons_same b 34 u rest h.is in inl (record { none = refl; byte = s.0; behind = sym s.1 })
front (c ∷ more) rest b u h = tested (is_marked c) (λ m. inr (inl (mark m))) (λ m. inr (inr (plain m)))
  where
    parts : (is_control c ≡ false) × (list_any is_control more ≡ false)
    parts = plain_parts c more h.plain

    spelled_at : (w : List ℕ) → spelled c ≡ w → b ∷ u ≡ w ++ (flat_map spelled more ++ 34 ∷ rest)
    spelled_at w e = h.is ∙ append_assoc (spelled c) (flat_map spelled more) (34 ∷ rest) ∙ ap (λ z. z ++ (flat_map spelled more ++ 34 ∷ rest)) e

    mark : is_marked c ≡ true → IsMark (c ∷ more) rest b u
    mark m = let s = cons_same b 92 u (c ∷ (flat_map spelled more ++ 34 ∷ rest)) (spelled_at (92 ∷ c ∷ []) (rw m refl)) in
        record { first = c; others = more; left = flat_map spelled more ++ 34 ∷ rest; are = refl; marked = m; byte = s.0; behind = s.1; spelled = record { is = refl; plain = parts.1 } }

    plain : is_marked c ≡ false → IsPlain (c ∷ more) rest b u
    plain m = let s = cons_same b c u (flat_map spelled more ++ 34 ∷ rest) (spelled_at (c ∷ []) (rw m refl)) in
        record { others = more; are = ap (λ z. z ∷ more) (sym s.0); unmarked = ap is_marked s.0 ∙ m; control = ap is_control s.0 ∙ parts.0; spelled = record { is = s.1; plain = parts.1 } }

unmarked_quote : (b : ℕ) → b ≡ 34 → is_marked b ≡ false → ⊥
unmarked_quote b e m = false≢true (sym m ∙ ap is_marked e)

closes_nil : (name : List ℕ) (K : List ℕ → Lang) (n : ℕ) (q : Query) → Closes name K n [] q → ⊥
closes_nil name K n q h = let a = ap length h.spelled.is in let l = length-append (flat_map spelled h.more) (34 ∷ h.rest) in omega (arith, a, l)

closes_end : (name : List ℕ) (K : List ℕ → Lang) (n b : ℕ) (u : List ℕ) (q : Query) → b ≡ 34 → Closes name K n (b ∷ u) q → K name n u q
closes_end name K n b u q e h = elim (front h.more h.rest b u h.spelled) [
  | inl c ↦ let P : List ℕ → Type 0 = λ x. K x n u q in subst P (append-nil name) (let k : K (name ++ []) n u q = rw (sym c.none, sym c.behind) h.holds in k)
  | inr d ↦ elim d [
    | inl c ↦ absurd (omega (arith, e, c.byte))
    | inr c ↦ absurd (unmarked_quote b e c.unmarked)
  ]
]

closes_mark : (name : List ℕ) (K : List ℕ → Lang) (n b : ℕ) (u : List ℕ) (q : Query) → b ≡ 92 → Closes name K n (b ∷ u) q → Marks name K n u q
closes_mark name K n b u q e h = elim (front h.more h.rest b u h.spelled) [
  | inl c ↦ absurd (omega (arith, e, c.byte))
  | inr d ↦ elim d [
    | inl c ↦ record { byte = c.first; more = c.others; left = c.left; rest = h.rest; marked = c.marked; is = c.behind; spelled = c.spelled; holds = rw (sym c.are) h.holds }
    | inr c ↦ absurd (false≢true (sym c.unmarked ∙ ap is_marked e))
  ]
]

closes_plain : (name : List ℕ) (K : List ℕ → Lang) (n b : ℕ) (u : List ℕ) (q : Query) → (b ≡ 34 → ⊥) → (b ≡ 92 → ⊥) → Closes name K n (b ∷ u) q → (is_control b ≡ false) × Closes (name ++ b ∷ []) K n u q
closes_plain name K n b u q e f h = elim (front h.more h.rest b u h.spelled) [
  | inl c ↦ absurd (e c.byte)
  | inr d ↦ elim d [
    | inl c ↦ absurd (f c.byte)
    | inr c ↦ (c.control, record { more = c.others; rest = h.rest; spelled = c.spelled; holds = rw (append_assoc name (b ∷ []) c.others) (rw (sym c.are) h.holds) })
  ]
]

marks_plain : (name : List ℕ) (K : List ℕ → Lang) (n b : ℕ) (u : List ℕ) (q : Query) → Marks name K n (b ∷ u) q → (is_marked b ≡ true) × Closes (name ++ b ∷ []) K n u q
marks_plain name K n b u q h = let s = cons_same b h.byte u h.left h.is in
    (ap is_marked s.0 ∙ h.marked, record { more = h.more; rest = h.rest; spelled = rw s.1 h.spelled; holds = rw (append_assoc name (b ∷ []) h.more) (rw s.0 h.holds) })

quote_goes : (marked : Bool) (name T s r : List ℕ) (K : List ℕ → Lang) → ((x : List ℕ) → IsAlive (K x)) → Stands T s r (quote_lang marked name K) → Goes T K (closed_in (length T) (closing marked name r).0 (closing marked name r).1)
quote_goes true name T s [] K alive h = stop T s [] (Marks name K) (quote_alive true name K alive) (λ u q e k. nil u q e k) h
  where
    nil : (u : List ℕ) (q : Query) → head u ≡ None → Marks name K (length s + length u) u q → ⊥
    nil [] q e k = absurd (cc (k.is))
    nil (b ∷ u) q e k = no_head b e
quote_goes false name T s [] K alive h = stop T s [] (Closes name K) (quote_alive false name K alive) (λ u q e k. nil u q e k) h
  where
    nil : (u : List ℕ) (q : Query) → head u ≡ None → Closes name K (length s + length u) u q → ⊥
    nil [] q e k = closes_nil name K (length s + length {A = ℕ} []) q k
    nil (b ∷ u) q e k = no_head b e
quote_goes true name T s (b ∷ r) K alive h = tested (is_marked b)
    (λ m. rw m (quote_goes false (name ++ b ∷ []) T (s ++ b ∷ []) r K alive
    (shift T s r b (Marks name K) (Closes (name ++ b ∷ []) K)
    (λ n u q k. record { byte = b; more = k.more; left = u; rest = k.rest; marked = m; is = refl; spelled = k.spelled; holds = rw (sym (append_assoc name (b ∷ []) k.more)) k.holds })
    (λ n u q k. (marks_plain name K n b u q k).1) h)))
    (λ m. rw m (stop T s (b ∷ r) (Marks name K) (quote_alive true name K alive) (λ u q e k. other m u q e k) h))
  where
    other : is_marked b ≡ false → (u : List ℕ) (q : Query) → head u ≡ Some b → Marks name K (length s + length u) u q → ⊥
    other m [] q e k = no_head_from b e
    other m (c ∷ u) q e k = false≢true (sym m ∙ ap is_marked (sym (some_same c b e)) ∙ (marks_plain name K (length s + length (c ∷ u)) c u q k).0)
quote_goes false name T s (b ∷ r) K alive h = tested (eqb b 34)
    (λ p. rw p (record {
      before = s ++ b ∷ [];
      stands = shift T s r b (Closes name K) (K name)
          (λ n u q k. record { more = []; rest = u; spelled = record { is = ap (λ z. z ∷ u) (eqb-true b 34 p); plain = refl }; holds = rw (append-nil name) k })
          (λ n u q k. closes_end name K n b u q (eqb-true b 34 p) k) h;
    }))
    (λ p. tested (eqb b 92)
    (λ m. rw (p, m) (quote_goes true name T (s ++ b ∷ []) r K alive
    (shift T s r b (Closes name K) (Marks name K) (λ n u q k. closes_marked n u q m k) (λ n u q k. closes_mark name K n b u q (eqb-true b 92 m) k) h)))
    (λ m. tested (is_control b)
    (λ c. rw (p, m, c) (stop T s (b ∷ r) (Closes name K) (quote_alive false name K alive) (λ u q e k. other p m c u q e k) h))
    (λ c. rw (p, m, c) (quote_goes false (name ++ b ∷ []) T (s ++ b ∷ []) r K alive
    (shift T s r b (Closes name K) (Closes (name ++ b ∷ []) K) (λ n u q k. closes_more n u q p m c k) (λ n u q k. (closes_plain name K n b u q (differs b 34 p) (differs b 92 m) k).1) h)))))
  where
    differs : (x y : ℕ) → eqb x y ≡ false → x ≡ y → ⊥
    differs x y f e = false≢true (sym f ∙ rw e (eq-eqb y y refl))

    closes_marked : (n : ℕ) (u : List ℕ) (q : Query) → eqb b 92 ≡ true → Marks name K n u q → Closes name K n (b ∷ u) q
    closes_marked n u q m k = record {
      more = k.byte ∷ k.more;
      rest = k.rest;
      spelled = spelled_front k.byte k.more (34 ∷ k.rest) k.left (b ∷ u) (marked_control k.byte k.marked) (rw (k.marked, eqb-true b 92 m, k.is) refl) k.spelled;
      holds = k.holds;
    }

    closes_more : (n : ℕ) (u : List ℕ) (q : Query) → eqb b 34 ≡ false → eqb b 92 ≡ false → is_control b ≡ false → Closes (name ++ b ∷ []) K n u q → Closes name K n (b ∷ u) q
    closes_more n u q p m c k = record {
      more = b ∷ k.more;
      rest = k.rest;
      spelled = spelled_front b k.more (34 ∷ k.rest) u (b ∷ u) c (rw (p, m) refl) k.spelled;
      holds = rw (sym (append_assoc name (b ∷ []) k.more)) k.holds;
    }

    other : eqb b 34 ≡ false → eqb b 92 ≡ false → is_control b ≡ true → (u : List ℕ) (q : Query) → head u ≡ Some b → Closes name K (length s + length u) u q → ⊥
    other p m c [] q e k = no_head_from b e
    other p m c (d ∷ u) q e k = let z = some_same d b e in
        false≢true (sym ((closes_plain name K (length s + length (d ∷ u)) d u q (λ f. differs b 34 p (sym z ∙ f)) (λ f. differs b 92 m (sym z ∙ f)) k).0) ∙ ap is_control z ∙ c)

-- ---- names

closed_same : (K : List ℕ → Lang) → Same (Then (λ n. many quoted_byte >>= λ x. byte (λ b. eqb b 34) >>= λ _. nothing x) K) (Closes [] K)
closed_same K = record {
  to = λ n u q h. let a = (then_bind (λ n. many quoted_byte) (λ n x. byte (λ b. eqb b 34) >>= λ _. nothing x) K).to n u q h in
      let b = (then_bind (λ n. byte (λ b. eqb b 34)) (λ n _. nothing a.value) K).to n a.rest q a.second in
      let f = byte_of (λ b. eqb b 34) b.value b.rest a.rest b.first in
      let c = (then_nothing a.value K).to n b.rest q b.second in
      record { more = a.value; rest = b.rest; spelled = spelled_as a.value a.value a.rest (34 ∷ b.rest) u refl (f.1 ∙ ap (λ z. z ∷ b.rest) (eqb-true b.value 34 f.0)) (up_to_spelled (suc (length u)) a.value a.rest u a.first); holds = c };
  from = λ n u q h. (then_bind (λ n. many quoted_byte) (λ n x. byte (λ b. eqb b 34) >>= λ _. nothing x) K).from n u q (record {
    value = h.more;
    rest = 34 ∷ h.rest;
    first = many_spells h.more (34 ∷ h.rest) u h.spelled;
    second = (then_bind (λ n. byte (λ b. eqb b 34)) (λ n _. nothing h.more) K).from n (34 ∷ h.rest) q (record {
      value = 34;
      rest = h.rest;
      first = byte_has (λ b. eqb b 34) 34 h.rest refl;
      second = (then_nothing h.more K).from n h.rest q h.holds;
    });
  });
}

abbrev pub bare_or_quoted : ℕ → Part (List ℕ)
bare_or_quoted n = either (some (byte is_bare)) quoted_name

begins_bare : Begins is_bare (λ n. some (byte is_bare))
begins_bare = begins_bind is_bare (λ n. byte is_bare) (λ n x. many (byte is_bare) >>= λ xs. nothing (x ∷ xs)) (begins_byte is_bare)

begins_quote : Begins (λ b. eqb b 34) (λ n. quoted_name)
begins_quote = begins_bind (λ b. eqb b 34) (λ n. byte (λ b. eqb b 34)) (λ n _. many quoted_byte >>= λ x. byte (λ b. eqb b 34) >>= λ _. nothing x) (begins_byte (λ b. eqb b 34))

-- a byte that begins a name
abbrev pub begins_a_name : ℕ → Bool
begins_a_name b = is_bare b || eqb b 34

or_true_first : (x y : Bool) → x ≡ true → x || y ≡ true
or_true_first true y e = refl
or_true_first false y e = absurd (false≢true e)

or_true_second : (x y : Bool) → y ≡ true → x || y ≡ true
or_true_second true y e = refl
or_true_second false y e = e

pub begins_name : Begins begins_a_name (λ n. name n)
begins_name = record {
  starts = λ n t x rest h. let e = through (bare_or_quoted n) (λ y. nothing (record { text = y; at = n - length t })) x rest t h in
      (begins_either is_bare (λ b. eqb b 34) begins_a_name (λ n. some (byte is_bare)) (λ n. quoted_name) (λ b k. or_true_first (is_bare b) (eqb b 34) k) (λ b k. or_true_second (is_bare b) (eqb b 34) k) begins_bare begins_quote).starts n t e.value e.rest e.first;
}

pub bare_or_quoted_part : IsPart (λ n. bare_or_quoted n)
unfolding is_bare
bare_or_quoted_part = either_part (λ n. some (byte is_bare)) (λ n. quoted_name) (some_part (λ n. byte is_bare) (byte_part is_bare 97 refl) (byte_eats is_bare)) quoted_name_part

bare_not_quote : is_bare 34 ≡ false
unfolding is_bare
bare_not_quote = refl

text_goes : (T s r : List ℕ) (K : List ℕ → Lang) → ((x : List ℕ) → IsAlive (K x)) → ((x : List ℕ) → Avoids is_bare (K x)) → Stands T s r (Then (λ n. bare_or_quoted n) K) → Goes T K (text_in (length T) r)
unfolding quote_in bare_in
text_goes T s [] K alive avoids h = stop_begins T s [] begins_a_name (λ n. bare_or_quoted n) K
    (begins_either is_bare (λ b. eqb b 34) begins_a_name (λ n. some (byte is_bare)) (λ n. quoted_name) (λ b k. or_true_first (is_bare b) (eqb b 34) k) (λ b k. or_true_second (is_bare b) (eqb b 34) k) begins_bare begins_quote)
    (alive_then (λ n. bare_or_quoted n) K bare_or_quoted_part alive) (λ b e. absurd (no_head_from b e)) h
text_goes T s (b ∷ r) K alive avoids h = tested (eqb b 34)
    (λ p. rw p (quote_goes false [] T (s ++ b ∷ []) r K alive
    (stands_same T (s ++ b ∷ []) r (Then (λ n. many quoted_byte >>= λ x. byte (λ b. eqb b 34) >>= λ _. nothing x) K) (Closes [] K) (closed_same K)
    (shift_byte T s r (λ b. eqb b 34) b (λ _. Then (λ n. many quoted_byte >>= λ x. byte (λ b. eqb b 34) >>= λ _. nothing x) K) p
    (stands_same T s (b ∷ r) (Then (λ n. quoted_name) K) (Then (λ n. byte (λ b. eqb b 34)) (λ _. Then (λ n. many quoted_byte >>= λ x. byte (λ b. eqb b 34) >>= λ _. nothing x) K))
    (then_bind (λ n. byte (λ b. eqb b 34)) (λ n _. many quoted_byte >>= λ x. byte (λ b. eqb b 34) >>= λ _. nothing x) K)
    (either_right T s r b is_bare (λ n. some (byte is_bare)) (λ n. quoted_name) K begins_bare (ap is_bare (eqb-true b 34 p) ∙ bare_not_quote) h))))))
    (λ p. tested (is_bare b)
    (λ e. let m = taken_more is_bare b r e in let l : ltb 0 (1 + prefix_len is_bare r) ≡ true = grind arith in
    let i : Passes T (b ∷ taken_of is_bare r, left_of is_bare r) K = record {
      before = (s ++ b ∷ []) ++ taken_of is_bare r;
      stands = some_goes is_bare T s r b K avoids e (either_left T s r b (λ b. eqb b 34) (λ n. some (byte is_bare)) (λ n. quoted_name) K begins_quote p h);
    } in
    rw (p, m.0, m.1, e, l) i)
    (λ e. rw (p, e) (stop_begins T s (b ∷ r) begins_a_name (λ n. bare_or_quoted n) K
    (begins_either is_bare (λ b. eqb b 34) begins_a_name (λ n. some (byte is_bare)) (λ n. quoted_name) (λ b k. or_true_first (is_bare b) (eqb b 34) k) (λ b k. or_true_second (is_bare b) (eqb b 34) k) begins_bare begins_quote)
    (alive_then (λ n. bare_or_quoted n) K bare_or_quoted_part alive)
    (λ d f. rw (sym (some_same b d f)) (rw (e, p) refl)) h)))

-- a name with its place
abbrev placed : (Name → Lang) → ℕ → List ℕ → Lang
placed K m x = K (record { text = x; at = m })

name_to : (K : Name → Lang) (n m : ℕ) (u : List ℕ) (q : Query) → n - length u ≡ m → Then (λ n. name n) K n u q → Then (λ n. bare_or_quoted n) (placed K m) n u q
name_to K n m u q e h =
    let a = through (bare_or_quoted n) (λ y. nothing (record { text = y; at = n - length u })) h.value h.rest u h.first in
    let s = reads_same (record { text = a.value; at = n - length u }) h.value a.rest h.rest (one_reading (Reads h.value h.rest) (Reads (record { text = a.value; at = n - length u }) a.rest) a.second) in
    record { value = a.value; rest = a.rest; first = a.first; second = rw (sym e, s.0, s.1) h.second }

name_from : (K : Name → Lang) (n m : ℕ) (u : List ℕ) (q : Query) → n - length u ≡ m → Then (λ n. bare_or_quoted n) (placed K m) n u q → Then (λ n. name n) K n u q
name_from K n m u q e h = record {
  value = record { text = h.value; at = m };
  rest = h.rest;
  first = bind_has (bare_or_quoted n) (λ y. nothing (record { text = y; at = n - length u })) (Reads (record { text = h.value; at = m }) h.rest) u h.value h.rest h.first (inl (ap (λ k. Reads (record { text = h.value; at = k }) h.rest) e));
  second = h.second;
}

pub name_read : IsRead is_bare (λ n. name n) (λ n r. name_in n r)
unfolding name_in
name_read = record {
  goes = λ T s r K alive avoids h.
      goes_on T (placed K (length s)) K (text_in (length T) r) (λ x behind. Ok (record { text = x; at = length T - length r }, behind))
      (text_goes T s r (placed K (length s)) (λ x. alive (record { text = x; at = length s })) (λ x. avoids (record { text = x; at = length s }))
      (narrow T s r (Then (λ n. name n) K) (Then (λ n. bare_or_quoted n) (placed K (length s)))
      (λ u q k. name_from K (length s + length u) (length s) u q (omega arith) k)
      (λ u q i k. name_to K (length s + length u) (length s) u q (omega arith) k) h))
      (λ x s' r' i. record { before = s'; stands = let e : length T - length r ≡ length s = omega (arith, ap length h.whole, length-append s r) in rw e i });
}
