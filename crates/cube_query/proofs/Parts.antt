-- What reading a front of a text has to do with reading a longer text.
use Rattle.std.proofs.Common.{◌≡◌, ◌⊎◌, inl, inr, ℕ, zero, suc, ◌+◌, ◌-◌, ◌<◌, ◌≤◌, Bool, true, not, ◌||◌, List, [], ◌∷◌, ◌++◌, length, refl, sym, ap, ◌∙◌, eqb, eq-eqb, arith, append_assoc, length-append}
use Rattle.std.proofs.lemmas.Bool.{false≢true}
use Rattle.std.specs.Prelude.{codes}
use Rattle.std.specs.List.{flat_map}
use Rattle.cube_model.specs.Cubes.{IsIn}
use Rattle.cube_model.proofs.Members.{tested, IsIn-append, append_left, append_right, IsIn-flat_map, flat_map_has}
use Rattle.std.specs.List.{list_any}
use Rattle.cube_model.proofs.Walks.{any_has, any_from}
use Rattle.cube_query.specs.Laws.{BegunIsPrefix}
use Rattle.cube_model.specs.Names.{is_control}
use Rattle.cube_text.specs.Quoting.{is_bare, is_marked}
use Rattle.cube_query.specs.Grammar.{Reading, Part, byte, nothing, onward, ◌>>=◌, either, up_to, many, some, word, is_blank, ws, sp, sign, items, perhaps, quoted_byte, quoted_name, name, level, fix, span, cell, slice, range, query, queries, is_begun, whole, is_front}
use Rattle.cube_query.specs.Grammar.Reading.{Ends, Reads}
use Rattle.cube_query.specs.declared.query.Query.{Query}

abbrev pub rest_of : {A : Type 0} → Reading A → List ℕ
rest_of Ends = []
rest_of (Reads x rest) = rest

abbrev pub with_more : {A : Type 0} → List ℕ → Reading A → Reading A
with_more more Ends = Ends
with_more more (Reads x rest) = Reads x (rest ++ more)

abbrev pub with_rest : {A : Type 0} → List ℕ → Reading A → Reading A
with_rest r Ends = Ends
with_rest r (Reads x rest) = Reads x r

pub no_reads : {A : Type 0} (x : A) (rest : List ℕ) → Ends ≡ Reads x rest → ⊥
no_reads x rest e = cc

pub no_ends : {A : Type 0} (x : A) (rest : List ℕ) → Reads x rest ≡ Ends → ⊥
no_ends x rest e = cc

-- a reading of two parts one behind the other
pub record Through {A B : Type 0} (f : Part A) (g : A → Part B) (y : Reading B) (t : List ℕ) : Type 0 where
  pub value : A
  pub rest : List ℕ
  pub first : IsIn (Reads value rest) (f t)
  pub second : IsIn y (g value rest)

pub split : {A B : Type 0} (f : Part A) (g : A → Part B) (y : Reading B) (t : List ℕ) (r : Reading A) → IsIn r (f t) → IsIn y (onward g r) → (IsIn Ends (f t) × (Ends ≡ y)) ⊎ Through f g y t
split f g y t Ends p (inl q) = inl (p, q)
split f g y t Ends p (inr q) = absurd q
split f g y t (Reads x rest) p q = inr (record { value = x; rest = rest; first = p; second = q })

pub bound : {A B : Type 0} (f : Part A) (g : A → Part B) (y : Reading B) (t : List ℕ) → IsIn y ((f >>= g) t) → (IsIn Ends (f t) × (Ends ≡ y)) ⊎ Through f g y t
bound f g y t h = let e = IsIn-flat_map (onward g) y (f t) h in split f g y t e.0 e.1 e.2

pub through : {A B : Type 0} (f : Part A) (g : A → Part B) (x : B) (rest t : List ℕ) → IsIn (Reads x rest) ((f >>= g) t) → Through f g (Reads x rest) t
through f g x rest t h = elim (bound f g (Reads x rest) t h) [ inl e ↦ absurd (no_reads x rest e.1) | inr e ↦ e ]

pub bind_has : {A B : Type 0} (f : Part A) (g : A → Part B) (y : Reading B) (t : List ℕ) (x : A) (rest : List ℕ) → IsIn (Reads x rest) (f t) → IsIn y (g x rest) → IsIn y ((f >>= g) t)
bind_has f g y t x rest p q = flat_map_has (onward g) (Reads x rest) y (f t) p q

pub bind_ends : {A B : Type 0} (f : Part A) (g : A → Part B) (t : List ℕ) → IsIn Ends (f t) → IsIn Ends ((f >>= g) t)
bind_ends f g t p = flat_map_has (onward g) Ends Ends (f t) p (inl refl)

-- more of a text that completes a value
pub record Completed {A : Type 0} (f : ℕ → Part A) (n : ℕ) (t : List ℕ) : Type 0 where
  pub more : List ℕ
  pub value : A
  pub reads : IsIn (Reads value []) (f (n + length more) (t ++ more))

-- a value that is read without what stands behind, or the text ends before it
pub record Cut {A : Type 0} (f : ℕ → Part A) (n : ℕ) (t more : List ℕ) (x : A) (rest : List ℕ) : Type 0 where
  pub short : List ℕ
  pub is : rest ≡ short ++ more
  pub reads : IsIn (Reads x short) (f n t)

-- What holds of each part of the language, in texts of n bytes: what is read stays read with more behind; where the text
-- ends before the value does, something completes it; what is read with more behind is read without it, or the text ends
-- before; something is read to its end; and what is left is no longer than the text.
pub record IsPart {A : Type 0} (f : ℕ → Part A) : Type 0 where
  pub stays : (n : ℕ) (t more : List ℕ) (x : A) (rest : List ℕ) → IsIn (Reads x rest) (f n t) → IsIn (Reads x (rest ++ more)) (f (n + length more) (t ++ more))
  pub ends : (n : ℕ) (t : List ℕ) → IsIn Ends (f n t) → Completed f n t
  pub back : (n : ℕ) (t more : List ℕ) (x : A) (rest : List ℕ) → IsIn (Reads x rest) (f (n + length more) (t ++ more)) → Cut f n t more x rest ⊎ IsIn Ends (f n t)
  pub somehow : (n : ℕ) → Completed f n []
  pub shorter : (n : ℕ) (t : List ℕ) (x : A) (rest : List ℕ) → IsIn (Reads x rest) (f n t) → length rest ≤ length t

-- a part takes at least a byte
abbrev pub Eats : {A : Type 0} → (ℕ → Part A) → Type 0
Eats {A = A} f = (n : ℕ) (t : List ℕ) (x : A) (rest : List ℕ) → IsIn (Reads x rest) (f n t) → length rest < length t

pub moved : {A : Type 0} (f : ℕ → Part A) (y : Reading A) (n n' : ℕ) (t t' : List ℕ) → n' ≡ n → t' ≡ t → IsIn y (f n t) → IsIn y (f n' t')
moved f y n n' t t' p q h = rw (p, q) h

-- two completions, one behind the other
pub both : {A B : Type 0} (f : ℕ → Part A) (g : ℕ → A → Part B) (n : ℕ) (t : List ℕ) → IsPart f → (c : Completed f n t) → Completed (λ n. g n c.value) (n + length c.more) [] → Completed (λ n. f n >>= g n) n t
both f g n t F c d = record {
  more = c.more ++ d.more;
  value = d.value;
  reads = moved (λ n. f n >>= g n) (Reads d.value []) ((n + length c.more) + length d.more) (n + length (c.more ++ d.more)) ((t ++ c.more) ++ d.more) (t ++ (c.more ++ d.more))
      (let l = length-append c.more d.more in omega (arith, l)) (sym (append_assoc t c.more d.more))
      (bind_has (f ((n + length c.more) + length d.more)) (g ((n + length c.more) + length d.more)) (Reads d.value []) ((t ++ c.more) ++ d.more) c.value d.more
      (F.stays (n + length c.more) (t ++ c.more) d.more c.value [] c.reads) d.reads);
}

pub bind_part : {A B : Type 0} (f : ℕ → Part A) (g : ℕ → A → Part B) → IsPart f → ((x : A) → IsPart (λ n. g n x)) → IsPart (λ n. f n >>= g n)
bind_part f g F G = record {
  stays = λ n t more x rest h. let e = through (f n) (g n) x rest t h in
      bind_has (f (n + length more)) (g (n + length more)) (Reads x (rest ++ more)) (t ++ more) e.value (e.rest ++ more) (F.stays n t more e.value e.rest e.first) ((G e.value).stays n e.rest more x rest e.second);
  ends = λ n t h. elim (bound (f n) (g n) Ends t h) [
    | inl e ↦ let c = F.ends n t e.0 in both f g n t F c ((G c.value).somehow (n + length c.more))
    | inr e ↦ let c = (G e.value).ends n e.rest e.second in record {
      more = c.more;
      value = c.value;
      reads = bind_has (f (n + length c.more)) (g (n + length c.more)) (Reads c.value []) (t ++ c.more) e.value (e.rest ++ c.more) (F.stays n t c.more e.value e.rest e.first) c.reads;
    }
  ];
  back = λ n t more x rest h. let e = through (f (n + length more)) (g (n + length more)) x rest (t ++ more) h in
      elim (F.back n t more e.value e.rest e.first) [
        | inl c ↦ elim ((G e.value).back n c.short more x rest (moved (λ n. g n e.value) (Reads x rest) (n + length more) (n + length more) e.rest (c.short ++ more) refl (sym c.is) e.second)) [
          | inl d ↦ inl (record { short = d.short; is = d.is; reads = bind_has (f n) (g n) (Reads x d.short) t e.value c.short c.reads d.reads })
          | inr d ↦ inr (bind_has (f n) (g n) Ends t e.value c.short c.reads d)
        ]
        | inr c ↦ inr (bind_ends (f n) (g n) t c)
      ];
  somehow = λ n. let c = F.somehow n in both f g n [] F c ((G c.value).somehow (n + length c.more));
  shorter = λ n t x rest h. let e = through (f n) (g n) x rest t h in let a = F.shorter n t e.value e.rest e.first in let b = (G e.value).shorter n e.rest x rest e.second in omega (arith, a, b);
}

pub either_part : {A : Type 0} (f g : ℕ → Part A) → IsPart f → IsPart g → IsPart (λ n. either (f n) (g n))
either_part f g F G = record {
  stays = λ n t more x rest h. elim (IsIn-append (Reads x rest) (f n t) (g n t) h) [
    | inl e ↦ append_left (Reads x (rest ++ more)) (f (n + length more) (t ++ more)) (g (n + length more) (t ++ more)) (F.stays n t more x rest e)
    | inr e ↦ append_right (Reads x (rest ++ more)) (f (n + length more) (t ++ more)) (g (n + length more) (t ++ more)) (G.stays n t more x rest e)
  ];
  ends = λ n t h. elim (IsIn-append Ends (f n t) (g n t) h) [
    | inl e ↦ let c = F.ends n t e in record { more = c.more; value = c.value; reads = append_left (Reads c.value []) (f (n + length c.more) (t ++ c.more)) (g (n + length c.more) (t ++ c.more)) c.reads }
    | inr e ↦ let c = G.ends n t e in record { more = c.more; value = c.value; reads = append_right (Reads c.value []) (f (n + length c.more) (t ++ c.more)) (g (n + length c.more) (t ++ c.more)) c.reads }
  ];
  back = λ n t more x rest h. elim (IsIn-append (Reads x rest) (f (n + length more) (t ++ more)) (g (n + length more) (t ++ more)) h) [
    | inl e ↦ elim (F.back n t more x rest e) [
      | inl c ↦ inl (record { short = c.short; is = c.is; reads = append_left (Reads x c.short) (f n t) (g n t) c.reads })
      | inr c ↦ inr (append_left Ends (f n t) (g n t) c)
    ]
    | inr e ↦ elim (G.back n t more x rest e) [
      | inl c ↦ inl (record { short = c.short; is = c.is; reads = append_right (Reads x c.short) (f n t) (g n t) c.reads })
      | inr c ↦ inr (append_right Ends (f n t) (g n t) c)
    ]
  ];
  somehow = λ n. let c = F.somehow n in record { more = c.more; value = c.value; reads = append_left (Reads c.value []) (f (n + length c.more) c.more) (g (n + length c.more) c.more) c.reads };
  shorter = λ n t x rest h. elim (IsIn-append (Reads x rest) (f n t) (g n t) h) [ inl e ↦ F.shorter n t x rest e | inr e ↦ G.shorter n t x rest e ];
}

pub one_reading : {A : Type 0} (y z : Reading A) → IsIn y (z ∷ []) → z ≡ y
one_reading y z (inl e) = e
one_reading y z (inr e) = absurd e

pub nothing_part : {A : Type 0} (x : A) → IsPart (λ n. nothing x)
nothing_part v = record {
  stays = λ n t more x rest h. inl (ap (with_more more) (one_reading (Reads x rest) (Reads v t) h));
  ends = λ n t h. absurd (no_ends v t (one_reading Ends (Reads v t) h));
  back = λ n t more x rest h. let e = one_reading (Reads x rest) (Reads v (t ++ more)) h in inl (record { short = t; is = sym (ap rest_of e); reads = inl (ap (with_rest t) e) });
  somehow = λ n. record { more = []; value = v; reads = inl refl };
  shorter = λ n t x rest h. let e = ap rest_of (one_reading (Reads x rest) (Reads v t) h) in let l = ap length e in omega (arith, l);
}

pub taken_as : {A : Type 0} (y z : Reading A) (rs : List (Reading A)) → y ≡ z → IsIn y rs → IsIn z rs
taken_as y z rs e h = rw (sym e) h

pub byte_is : (p : ℕ → Bool) (b : ℕ) (t : List ℕ) (y : Reading ℕ) → IsIn y (byte p (b ∷ t)) → (p b ≡ true) × (Reads b t ≡ y)
byte_is p b t y h = tested (p b)
    (λ e. (e, one_reading y (Reads b t) (let k : IsIn y (Reads b t ∷ []) = rw e at h in k)))
    (λ e. absurd (let k : IsIn y [] = rw e at h in k))

pub byte_has : (p : ℕ → Bool) (b : ℕ) (t : List ℕ) → p b ≡ true → IsIn (Reads b t) (byte p (b ∷ t))
byte_has p b t e = rw e (inl refl)

pub byte_stays : (p : ℕ → Bool) (t more : List ℕ) (x : ℕ) (rest : List ℕ) → IsIn (Reads x rest) (byte p t) → IsIn (Reads x (rest ++ more)) (byte p (t ++ more))
byte_stays p [] more x rest h = absurd (no_reads x rest (one_reading (Reads x rest) Ends h))
byte_stays p (b ∷ t) more x rest h = let e = byte_is p b t (Reads x rest) h in taken_as (Reads b (t ++ more)) (Reads x (rest ++ more)) (byte p (b ∷ (t ++ more))) (ap (with_more more) e.1) (byte_has p b (t ++ more) e.0)

pub byte_ends : (p : ℕ → Bool) (w : ℕ) → p w ≡ true → (n : ℕ) (t : List ℕ) → IsIn Ends (byte p t) → Completed (λ n. byte p) n t
byte_ends p w ok n [] h = record { more = w ∷ []; value = w; reads = byte_has p w [] ok }
byte_ends p w ok n (b ∷ t) h = absurd (no_ends b t (byte_is p b t Ends h).1)

pub byte_back : (p : ℕ → Bool) (n : ℕ) (t more : List ℕ) (x : ℕ) (rest : List ℕ) → IsIn (Reads x rest) (byte p (t ++ more)) → Cut (λ n. byte p) n t more x rest ⊎ IsIn Ends (byte p t)
byte_back p n [] more x rest h = inr (inl refl)
byte_back p n (b ∷ t) more x rest h = let e = byte_is p b (t ++ more) (Reads x rest) h in
    inl (record { short = t; is = sym (ap rest_of e.1); reads = taken_as (Reads b t) (Reads x t) (byte p (b ∷ t)) (ap (with_rest t) e.1) (byte_has p b t e.0) })

pub byte_eats : (p : ℕ → Bool) → Eats (λ n. byte p)
byte_eats p n [] x rest h = absurd (no_reads x rest (one_reading (Reads x rest) Ends h))
byte_eats p n (b ∷ t) x rest h = let e = ap rest_of (byte_is p b t (Reads x rest) h).1 in let l = ap length e in omega (arith, l)

pub byte_part : (p : ℕ → Bool) (w : ℕ) → p w ≡ true → IsPart (λ n. byte p)
byte_part p w ok = record {
  stays = λ n t more x rest h. byte_stays p t more x rest h;
  ends = λ n t h. byte_ends p w ok n t h;
  back = λ n t more x rest h. byte_back p n t more x rest h;
  somehow = λ n. record { more = w ∷ []; value = w; reads = byte_has p w [] ok };
  shorter = λ n t x rest h. let l = byte_eats p n t x rest h in omega (arith, l);
}

pub up_to_part : {A : Type 0} (k : ℕ) (f : ℕ → Part A) → IsPart f → IsPart (λ n. up_to k (f n))
up_to_part zero f F = nothing_part []
up_to_part (suc k) f F = either_part (λ n. nothing []) (λ n. f n >>= λ x. up_to k (f n) >>= λ xs. nothing (x ∷ xs)) (nothing_part [])
    (bind_part f (λ n x. up_to k (f n) >>= λ xs. nothing (x ∷ xs)) F (λ x. bind_part (λ n. up_to k (f n)) (λ n xs. nothing (x ∷ xs)) (up_to_part k f F) (λ xs. nothing_part (x ∷ xs))))

-- a reading by up to so many parts is one by up to as many as there are bytes
pub fuel : {A : Type 0} (f : Part A) → ((t : List ℕ) (x : A) (rest : List ℕ) → IsIn (Reads x rest) (f t) → length rest < length t) → (k j : ℕ) (t : List ℕ) (y : Reading (List A)) → length t < j → IsIn y (up_to k f t) → IsIn y (up_to j f t)
fuel f eats k zero t y l h = absurd (omega (arith, l))
fuel f eats zero (suc j) t y l h = append_left y (nothing [] t) ((f >>= λ x. up_to j f >>= λ xs. nothing (x ∷ xs)) t) h
fuel f eats (suc k) (suc j) t y l h = elim (IsIn-append y (nothing [] t) ((f >>= λ x. up_to k f >>= λ xs. nothing (x ∷ xs)) t) h) [
  | inl e ↦ append_left y (nothing [] t) ((f >>= λ x. up_to j f >>= λ xs. nothing (x ∷ xs)) t) e
  | inr e ↦ append_right y (nothing [] t) ((f >>= λ x. up_to j f >>= λ xs. nothing (x ∷ xs)) t) (
      elim (bound f (λ x. up_to k f >>= λ xs. nothing (x ∷ xs)) y t e) [
        | inl d ↦ rw (sym d.1) (bind_ends f (λ x. up_to j f >>= λ xs. nothing (x ∷ xs)) t d.0)
        | inr d ↦ let s = eats t d.value d.rest d.first in bind_has f (λ x. up_to j f >>= λ xs. nothing (x ∷ xs)) y t d.value d.rest d.first (
            elim (bound (up_to k f) (λ xs. nothing (d.value ∷ xs)) y d.rest d.second) [
              | inl b ↦ rw (sym b.1) (bind_ends (up_to j f) (λ xs. nothing (d.value ∷ xs)) d.rest (fuel f eats k j d.rest Ends (omega (arith, l, s)) b.0))
              | inr b ↦ bind_has (up_to j f) (λ xs. nothing (d.value ∷ xs)) y d.rest b.value b.rest (fuel f eats k j d.rest (Reads b.value b.rest) (omega (arith, l, s)) b.first) b.second
            ])
      ])
]

pub many_part : {A : Type 0} (f : ℕ → Part A) → IsPart f → Eats f → IsPart (λ n. many (f n))
many_part f F E = record {
  stays = λ n t more x rest h. fuel (f (n + length more)) (E (n + length more)) (suc (length t)) (suc (length (t ++ more))) (t ++ more) (Reads x (rest ++ more)) (omega arith)
      ((up_to_part (suc (length t)) f F).stays n t more x rest h);
  ends = λ n t h. let c = (up_to_part (suc (length t)) f F).ends n t h in record {
    more = c.more;
    value = c.value;
    reads = fuel (f (n + length c.more)) (E (n + length c.more)) (suc (length t)) (suc (length (t ++ c.more))) (t ++ c.more) (Reads c.value []) (omega arith) c.reads;
  };
  back = λ n t more x rest h. elim ((up_to_part (suc (length (t ++ more))) f F).back n t more x rest h) [
    | inl c ↦ inl (record { short = c.short; is = c.is; reads = fuel (f n) (E n) (suc (length (t ++ more))) (suc (length t)) t (Reads x c.short) (omega arith) c.reads })
    | inr c ↦ inr (fuel (f n) (E n) (suc (length (t ++ more))) (suc (length t)) t Ends (omega arith) c)
  ];
  somehow = λ n. record { more = []; value = []; reads = inl refl };
  shorter = λ n t x rest h. (up_to_part (suc (length t)) f F).shorter n t x rest h;
}

-- ---- what takes at least a byte

pub eats_first : {A B : Type 0} (f : ℕ → Part A) (g : ℕ → A → Part B) → Eats f → ((x : A) → IsPart (λ n. g n x)) → Eats (λ n. f n >>= g n)
eats_first f g E G n t x rest h = let e = through (f n) (g n) x rest t h in let a = E n t e.value e.rest e.first in let b = (G e.value).shorter n e.rest x rest e.second in omega (arith, a, b)

pub eats_second : {A B : Type 0} (f : ℕ → Part A) (g : ℕ → A → Part B) → IsPart f → ((x : A) → Eats (λ n. g n x)) → Eats (λ n. f n >>= g n)
eats_second f g F E n t x rest h = let e = through (f n) (g n) x rest t h in let a = F.shorter n t e.value e.rest e.first in let b = E e.value n e.rest x rest e.second in omega (arith, a, b)

pub eats_either : {A : Type 0} (f g : ℕ → Part A) → Eats f → Eats g → Eats (λ n. either (f n) (g n))
eats_either f g E D n t x rest h = elim (IsIn-append (Reads x rest) (f n t) (g n t) h) [ inl e ↦ E n t x rest e | inr e ↦ D n t x rest e ]

-- ---- a value that tells its place

pub place_stays : (n m k : ℕ) → (n + k) - (m + k) ≡ n - m
place_stays n m k = omega arith

-- values made of a part's, which look at the text as places do
pub placed_part : {A B : Type 0} (f : ℕ → Part A) (v : ℕ → List ℕ → A → B) → IsPart f → ((n : ℕ) (t more : List ℕ) (x : A) → v (n + length more) (t ++ more) x ≡ v n t x) → IsPart (λ n t. (f n >>= λ x. nothing (v n t x)) t)
placed_part f v F same = record {
  stays = λ n t more x rest h. let e = through (f n) (λ x. nothing (v n t x)) x rest t h in
      bind_has (f (n + length more)) (λ x. nothing (v (n + length more) (t ++ more) x)) (Reads x (rest ++ more)) (t ++ more) e.value (e.rest ++ more) (F.stays n t more e.value e.rest e.first)
      (rw (same n t more e.value) ((nothing_part (v n t e.value)).stays n e.rest more x rest e.second));
  ends = λ n t h. elim (bound (f n) (λ x. nothing (v n t x)) Ends t h) [
    | inl e ↦ let c = F.ends n t e.0 in record {
      more = c.more;
      value = v n t c.value;
      reads = bind_has (f (n + length c.more)) (λ x. nothing (v (n + length c.more) (t ++ c.more) x)) (Reads (v n t c.value) []) (t ++ c.more) c.value [] c.reads (rw (same n t c.more c.value) (inl refl));
    }
    | inr e ↦ absurd (no_ends (v n t e.value) e.rest (one_reading Ends (Reads (v n t e.value) e.rest) e.second))
  ];
  back = λ n t more x rest h. let e = through (f (n + length more)) (λ x. nothing (v (n + length more) (t ++ more) x)) x rest (t ++ more) h in
      let is = one_reading (Reads x rest) (Reads (v (n + length more) (t ++ more) e.value) e.rest) e.second in
      elim (F.back n t more e.value e.rest e.first) [
        | inl c ↦ inl (record { short = c.short; is = sym (ap rest_of is) ∙ c.is; reads = bind_has (f n) (λ x. nothing (v n t x)) (Reads x c.short) t e.value c.short c.reads (inl (rw (sym (same n t more e.value)) (ap (with_rest c.short) is))) })
        | inr c ↦ inr (bind_ends (f n) (λ x. nothing (v n t x)) t c)
      ];
  somehow = λ n. let c = F.somehow n in record {
    more = c.more;
    value = v n [] c.value;
    reads = bind_has (f (n + length c.more)) (λ x. nothing (v (n + length c.more) c.more x)) (Reads (v n [] c.value) []) c.more c.value [] c.reads (inl (ap (λ y. Reads y []) (same n [] c.more c.value)));
  };
  shorter = λ n t x rest h. let e = through (f n) (λ x. nothing (v n t x)) x rest t h in let a = F.shorter n t e.value e.rest e.first in
      let b = ap length (ap rest_of (one_reading (Reads x rest) (Reads (v n t e.value) e.rest) e.second)) in omega (arith, a, b);
}

-- ---- the parts of the query language

pub some_part : {A : Type 0} (f : ℕ → Part A) → IsPart f → Eats f → IsPart (λ n. some (f n))
some_part f F E = bind_part f (λ n x. many (f n) >>= λ xs. nothing (x ∷ xs)) F (λ x. bind_part (λ n. many (f n)) (λ n xs. nothing (x ∷ xs)) (many_part f F E) (λ xs. nothing_part (x ∷ xs)))

pub same_byte : (c : ℕ) → eqb c c ≡ true
same_byte c = eq-eqb c c refl

pub word_part : (w : List ℕ) → IsPart (λ n. word w)
word_part [] = nothing_part []
word_part (c ∷ cs) = bind_part (λ n. byte (λ b. eqb b c)) (λ n x. word cs) (byte_part (λ b. eqb b c) c (same_byte c)) (λ x. word_part cs)

pub word_eats : (c : ℕ) (cs : List ℕ) → Eats (λ n. word (c ∷ cs))
word_eats c cs = eats_first (λ n. byte (λ b. eqb b c)) (λ n x. word cs) (byte_eats (λ b. eqb b c)) (λ x. word_part cs)

pub blank_part : IsPart (λ n. byte is_blank)
blank_part = byte_part is_blank 32 refl

pub ws_part : IsPart (λ n. ws)
ws_part = many_part (λ n. byte is_blank) blank_part (byte_eats is_blank)

pub sp_part : IsPart (λ n. sp)
sp_part = some_part (λ n. byte is_blank) blank_part (byte_eats is_blank)

pub sign_part : (cs : List ℕ) → IsPart (λ n. sign cs)
sign_part cs = bind_part (λ n. ws) (λ n _. word cs >>= λ _. ws) ws_part (λ _. bind_part (λ n. word cs) (λ n _. ws) (word_part cs) (λ _. ws_part))

pub sign_eats : (c : ℕ) (cs : List ℕ) → Eats (λ n. sign (c ∷ cs))
sign_eats c cs = eats_second (λ n. ws) (λ n _. word (c ∷ cs) >>= λ _. ws) ws_part (λ _. eats_first (λ n. word (c ∷ cs)) (λ n _. ws) (word_eats c cs) (λ _. ws_part))

pub items_part : {A : Type 0} (f : ℕ → Part A) → IsPart f → IsPart (λ n. items (f n))
items_part f F = bind_part f (λ n x. many (sign (codes ",") >>= λ _. f n) >>= λ xs. nothing (x ∷ xs)) F (λ x.
    bind_part (λ n. many (sign (codes ",") >>= λ _. f n)) (λ n xs. nothing (x ∷ xs))
    (many_part (λ n. sign (codes ",") >>= λ _. f n) (bind_part (λ n. sign (codes ",")) (λ n _. f n) (sign_part (codes ",")) (λ _. F)) (eats_first (λ n. sign (codes ",")) (λ n _. f n) (sign_eats 44 []) (λ _. F)))
    (λ xs. nothing_part (x ∷ xs)))

pub perhaps_part : {A : Type 0} (f : ℕ → Part (List A)) → IsPart f → IsPart (λ n. perhaps (f n))
perhaps_part f F = either_part (λ n. nothing []) f (nothing_part []) F

pub quoted_byte_part : IsPart (λ n. quoted_byte)
quoted_byte_part = either_part (λ n. byte (λ b. not (is_control b || is_marked b))) (λ n. byte (λ b. eqb b 92) >>= λ _. byte is_marked)
    (byte_part (λ b. not (is_control b || is_marked b)) 97 refl)
    (bind_part (λ n. byte (λ b. eqb b 92)) (λ n _. byte is_marked) (byte_part (λ b. eqb b 92) 92 refl) (λ _. byte_part is_marked 34 refl))

pub quoted_byte_eats : Eats (λ n. quoted_byte)
quoted_byte_eats = eats_either (λ n. byte (λ b. not (is_control b || is_marked b))) (λ n. byte (λ b. eqb b 92) >>= λ _. byte is_marked)
    (byte_eats (λ b. not (is_control b || is_marked b)))
    (eats_first (λ n. byte (λ b. eqb b 92)) (λ n _. byte is_marked) (byte_eats (λ b. eqb b 92)) (λ _. byte_part is_marked 34 refl))

pub quoted_name_part : IsPart (λ n. quoted_name)
quoted_name_part = bind_part (λ n. byte (λ b. eqb b 34)) (λ n _. many quoted_byte >>= λ x. byte (λ b. eqb b 34) >>= λ _. nothing x) (byte_part (λ b. eqb b 34) 34 refl) (λ _.
    bind_part (λ n. many quoted_byte) (λ n x. byte (λ b. eqb b 34) >>= λ _. nothing x) (many_part (λ n. quoted_byte) quoted_byte_part quoted_byte_eats) (λ x.
    bind_part (λ n. byte (λ b. eqb b 34)) (λ n _. nothing x) (byte_part (λ b. eqb b 34) 34 refl) (λ _. nothing_part x)))

pub name_part : IsPart (λ n. name n)
unfolding is_bare
name_part = placed_part (λ n. either (some (byte is_bare)) quoted_name) (λ n t x. record { text = x; at = n - length t })
    (either_part (λ n. some (byte is_bare)) (λ n. quoted_name) (some_part (λ n. byte is_bare) (byte_part is_bare 97 refl) (byte_eats is_bare)) quoted_name_part)
    (λ n t more x. ap (λ k. record { text = x; at = k }) (let l = length-append t more in omega (arith, l)))

pub level_part : IsPart (λ n. level n)
level_part = bind_part (λ n. name n) (λ n d. word (codes ".") >>= λ _. name n >>= λ l. nothing (record { dimension = d; level = l })) name_part (λ d.
    bind_part (λ n. word (codes ".")) (λ n _. name n >>= λ l. nothing (record { dimension = d; level = l })) (word_part (codes ".")) (λ _.
    bind_part (λ n. name n) (λ n l. nothing (record { dimension = d; level = l })) name_part (λ l. nothing_part (record { dimension = d; level = l }))))

pub fix_part : IsPart (λ n. fix n)
fix_part = bind_part (λ n. level n) (λ n l. sign (codes "=") >>= λ _. name n >>= λ x. nothing (record { level = l; first = x; last = x })) level_part (λ l.
    bind_part (λ n. sign (codes "=")) (λ n _. name n >>= λ x. nothing (record { level = l; first = x; last = x })) (sign_part (codes "=")) (λ _.
    bind_part (λ n. name n) (λ n x. nothing (record { level = l; first = x; last = x })) name_part (λ x. nothing_part (record { level = l; first = x; last = x }))))

pub span_part : IsPart (λ n. span n)
span_part = bind_part (λ n. level n) (λ n l. sign (codes "=") >>= λ _. name n >>= λ x. sign (codes "..") >>= λ _. name n >>= λ y. nothing (record { level = l; first = x; last = y })) level_part (λ l.
    bind_part (λ n. sign (codes "=")) (λ n _. name n >>= λ x. sign (codes "..") >>= λ _. name n >>= λ y. nothing (record { level = l; first = x; last = y })) (sign_part (codes "=")) (λ _.
    bind_part (λ n. name n) (λ n x. sign (codes "..") >>= λ _. name n >>= λ y. nothing (record { level = l; first = x; last = y })) name_part (λ x.
    bind_part (λ n. sign (codes "..")) (λ n _. name n >>= λ y. nothing (record { level = l; first = x; last = y })) (sign_part (codes "..")) (λ _.
    bind_part (λ n. name n) (λ n y. nothing (record { level = l; first = x; last = y })) name_part (λ y. nothing_part (record { level = l; first = x; last = y }))))))

-- a part and what follows it, both as they stand in the goal
pub then_part : {A B : Type 0} {f : ℕ → Part A} {g : ℕ → A → Part B} → IsPart f → ((x : A) → IsPart (λ n. g n x)) → IsPart (λ n. f n >>= g n)
then_part {f = f} {g = g} F G = bind_part f g F G

pub cell_part : IsPart (λ n. cell n)
cell_part = then_part (word_part (codes "cell")) (λ _. then_part sp_part (λ _. then_part name_part (λ m.
    then_part (perhaps_part (λ n. sp >>= λ _. items (fix n)) (then_part sp_part (λ _. items_part (λ n. fix n) fix_part))) (λ ps. nothing_part (record { what = m; by = []; picks = ps })))))

pub slice_part : IsPart (λ n. slice n)
slice_part = then_part (word_part (codes "slice")) (λ _. then_part sp_part (λ _. then_part name_part (λ m. then_part sp_part (λ _. then_part (word_part (codes "by")) (λ _. then_part sp_part (λ _.
    then_part (items_part (λ n. level n) level_part) (λ ls. then_part (perhaps_part (λ n. sp >>= λ _. word (codes "where") >>= λ _. sp >>= λ _. items (fix n)) (then_part sp_part (λ _. then_part (word_part (codes "where")) (λ _. then_part sp_part (λ _. items_part (λ n. fix n) fix_part)))))
    (λ ps. nothing_part (record { what = m; by = ls; picks = ps })))))))))

pub range_part : IsPart (λ n. range n)
range_part = then_part (word_part (codes "range")) (λ _. then_part sp_part (λ _. then_part name_part (λ m. then_part sp_part (λ _.
    then_part (items_part (λ n. span n) span_part) (λ ps. nothing_part (record { what = m; by = []; picks = ps }))))))

pub query_part : IsPart query
query_part = then_part ws_part (λ _. then_part (either_part (λ n. cell n) (λ n. either (slice n) (range n)) cell_part (either_part (λ n. slice n) (λ n. range n) slice_part range_part)) (λ q. then_part ws_part (λ _. nothing_part q)))

-- ---- prefixes of query texts

pub whole_has : {A : Type 0} (x : A) (rs : List (Reading A)) → IsIn (Reads x []) rs → IsIn x (flat_map whole rs)
whole_has x rs h = flat_map_has whole (Reads x []) x rs h (inl refl)

pub whole_is : {A : Type 0} (x : A) (r : Reading A) → IsIn x (whole r) → r ≡ Reads x []
whole_is x Ends h = absurd h
whole_is x (Reads y []) (inl e) = ap (λ z. Reads z []) e
whole_is x (Reads y []) (inr e) = absurd e
whole_is x (Reads y (b ∷ rest)) h = absurd h

pub no_cons : (b : ℕ) (bs : List ℕ) → [] ≡ b ∷ bs → ⊥
no_cons b bs e = cc

pub front_nil : (short more : List ℕ) → [] ≡ short ++ more → short ≡ []
front_nil [] more e = refl
front_nil (b ∷ bs) more e = absurd (no_cons b (bs ++ more) e)

pub begins_with_front : {A : Type 0} (r : Reading A) (rs : List (Reading A)) → IsIn r rs → is_front r ≡ true → list_any is_front rs ≡ true
begins_with_front r rs h e = any_has is_front r rs h e

pub record Front (text : List ℕ) : Type 0 where
  pub more : List ℕ
  pub value : Query
  pub reads : IsIn (Reads value []) (query (length text + length more) (text ++ more))

pub of_front : (text : List ℕ) (r : Reading Query) → IsIn r (query (length text) text) → is_front r ≡ true → Front text
of_front text Ends h e = let c = query_part.ends (length text) text h in record { more = c.more; value = c.value; reads = c.reads }
of_front text (Reads x []) h e = record { more = []; value = x; reads = query_part.stays (length text) text [] x [] h }
of_front text (Reads x (b ∷ rest)) h e = absurd (false≢true e)

pub from_prefix : (text more : List ℕ) (q : Query) → IsIn (Reads q []) (query (length text + length more) (text ++ more)) → list_any is_front (query (length text) text) ≡ true
from_prefix text more q h = elim (query_part.back (length text) text more q [] h) [
  | inl c ↦ any_has is_front (Reads q []) (query (length text) text) (let e = front_nil c.short more c.is in let k : IsIn (Reads q []) (query (length text) text) = rw e at c.reads in k) refl
  | inr c ↦ any_has is_front Ends (query (length text) text) c refl
]

pub begun_is_prefix : BegunIsPrefix
unfolding queries is_begun
begun_is_prefix text = (
  (λ h. let e = any_from is_front (query (length text) text) h in let f = of_front text e.0 e.1 e.2 in (
    f.more,
    f.value,
    whole_has f.value (query (length (text ++ f.more)) (text ++ f.more))
        (moved query (Reads f.value []) (length text + length f.more) (length (text ++ f.more)) (text ++ f.more) (text ++ f.more) (length-append text f.more) refl f.reads),
  )),
  (λ h. let e = IsIn-flat_map whole h.1 (query (length (text ++ h.0)) (text ++ h.0)) h.2 in
      from_prefix text h.0 h.1 (moved query (Reads h.1 []) (length (text ++ h.0)) (length text + length h.0) (text ++ h.0) (text ++ h.0) (sym (length-append text h.0)) refl
      (taken_as e.0 (Reads h.1 []) (query (length (text ++ h.0)) (text ++ h.0)) (whole_is h.1 e.0 e.2) e.1))),
)
