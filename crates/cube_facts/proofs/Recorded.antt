-- A record under its header: each field that is needed stands in the one column of its name.
use Rattle.std.proofs.Common.{◌≡◌, inl, inr, ℕ, zero, suc, ◌+◌, ◌<◌, ◌≤◌, Bool, true, false, cond, List, [], ◌∷◌, ◌++◌, length, map, flat_map, zip, count_by, get_or, min, Option, Some, is_none, unwrap_or, Result, Ok, ℤ, refl, sym, ap, ap₂, ◌∙◌, arith, nat_lt, ◌==◌, eqb, leb}
use Rattle.std.specs.List.{position_or_len}
use Rattle.std.specs.Str.{bytes_eq}
use Rattle.std.proofs.lemmas.Bool.{lt-ltb, eq-eqb}
use Rattle.std.proofs.lemmas.Bool.Decides.{nat_tests}
use Rattle.std.proofs.lemmas.List.{get_or-map, get_or-append-add, length-map}
use Rattle.std.proofs.lemmas.List.Sums.{sum_by-cons}
use Rattle.std.proofs.Math.ListN.{get_or-append}
use Rattle.std.proofs.lemmas.Slice.Eq.{bytes_eq-Decides}
use Rattle.std.proofs.lemmas.Slice.Zip.{length-zip}
use Rattle.std.proofs.lemmas.Simd.{map-map}
use Rattle.csv.specs.Records.{field_at}
use Rattle.cube_model.specs.Checks.{check}
use Rattle.cube_model.specs.Cubes.{IsIn}
use Rattle.cube_model.specs.Dims.{Dims, NamedDimension, NamedMeasure, column_names}
use Rattle.cube_model.proofs.Members.{tested, map_has, append_left, append_right}
use Rattle.cube_text.specs.Units.{units_of}
use Rattle.cube_text.specs.declared.units.UnitFault.{UnitFault}
use Rattle.cube_facts.specs.FactFile.{field_in, leaf_of, fact_of, column_faults, leaf_faults, number_faults, field_faults, own_faults}
use Rattle.cube_facts.specs.Records.{most_facts, value_faults, ok_or_zero}
use Rattle.cube_facts.specs.declared.fault.FactsFault.TheVariants as fault

-- ---- fields by place

pub field_read : (fields : List (List ℕ)) (i : ℕ) → unwrap_or (field_at fields i) [] ≡ get_or fields i []
unfolding field_at
field_read [] i = refl
field_read (f ∷ fs) zero = refl
field_read (f ∷ fs) (suc i) = field_read fs i

-- the name and the field of a column
pub zip_item : (xs ys : List (List ℕ)) (i : ℕ) (x y : List ℕ) → i < length xs → length ys ≡ length xs → x ≡ get_or xs i x → y ≡ get_or ys i [] → (x, y) ≡ get_or (zip xs ys) i (x, y)
zip_item [] ys i x y l e f g = absurd (omega (arith, l))
zip_item (a ∷ xs) [] i x y l e f g = absurd (omega (arith, e))
zip_item (a ∷ xs) (b ∷ ys) zero x y l e f g = ap₂ (λ u v. (u, v)) f g
zip_item (a ∷ xs) (b ∷ ys) (suc i) x y l e f g = zip_item xs ys i x y (omega (arith, l)) (omega (arith, e)) f g

pub zip_long : (xs ys : List (List ℕ)) → length ys ≡ length xs → length (zip xs ys) ≡ length xs
zip_long xs ys e = length-zip xs ys ∙ least (length xs) (length ys) e
  where
    least : (n m : ℕ) → m ≡ n → min n m ≡ n
    least n m e = grind (arith, nat_tests)

-- ---- the columns that are needed

pub dimension_column : (s : Dims) (i : ℕ) (d : NamedDimension) → i < length s.dimensions → d ≡ get_or s.dimensions i d → get_or (column_names s) i [] ≡ d.column
dimension_column s i d l at =
    get_or-append (map (λ d. d.column) s.dimensions) (map (λ m. m.column) s.measures) [] i (omega (arith, l, length-map s.dimensions (λ (d : NamedDimension). d.column)))
    ∙ get_or-map (λ d. d.column) s.dimensions i d [] l ∙ ap (λ d. d.column) (sym at)

pub measure_column : (s : Dims) (n i : ℕ) (m : NamedMeasure) → n ≡ length s.dimensions → i < length s.measures → m ≡ get_or s.measures i m → get_or (column_names s) (n + i) [] ≡ m.column
measure_column s n i m first l at =
    ap (λ (k : ℕ). get_or (column_names s) (k + i) []) (first ∙ sym (length-map s.dimensions (λ (d : NamedDimension). d.column)))
    ∙ get_or-append-add (map (λ d. d.column) s.dimensions) (map (λ m. m.column) s.measures) i []
    ∙ get_or-map (λ m. m.column) s.measures i m [] l ∙ ap (λ m. m.column) (sym at)

-- ---- no fault

no_parts : {X : Type 0} (xs ys : List X) → xs ++ ys ≡ [] → (xs ≡ []) × (ys ≡ [])
no_parts [] ys h = (refl, h)
no_parts (x ∷ xs) ys h = absurd (cc)

no_check : {F : Type 0} (b : Bool) (f : F) → check b f ≡ [] → b ≡ false
no_check true f h = absurd (cc)
no_check false f h = refl

none_at : {X Y : Type 0} (f : X → List Y) (x : X) (xs : List X) → flat_map f xs ≡ [] → IsIn x xs → f x ≡ []
none_at f x [] h k = absurd k
none_at f x (y ∷ ys) h (inl e) = ap f (sym e) ∙ (no_parts (f y) (flat_map f ys) h).0
none_at f x (y ∷ ys) h (inr k) = none_at f x ys (no_parts (f y) (flat_map f ys) h).1 k

none_of : {X Y : Type 0} (f : X → List Y) (xs : List X) → ((x : X) → IsIn x xs → f x ≡ []) → flat_map f xs ≡ []
none_of f [] h = refl
none_of f (x ∷ xs) h = rw (h x (inl refl), none_of f xs (λ y k. h y (inr k))) refl

-- a column without a fault stands once
once : (header : List (List ℕ)) (x : List ℕ) → column_faults header x ≡ [] → count_by (bytes_eq x) header ≤ 1
once header x h =
    let parts = no_parts (check (count_by (bytes_eq x) header == 0) (fault.MissingColumn x)) (check (nat_lt 1 (count_by (bytes_eq x) header)) (fault.ColumnTwice x)) h in
    let few = no_check (nat_lt 1 (count_by (bytes_eq x) header)) (fault.ColumnTwice x) parts.1 in
    not_above (count_by (bytes_eq x) header) few
  where
    not_above : (n : ℕ) → nat_lt 1 n ≡ false → n ≤ 1
    not_above n e = grind (arith, nat_tests)

count_cons : (x h : List ℕ) (hs : List (List ℕ)) → count_by (bytes_eq x) (h ∷ hs) ≡ cond (bytes_eq x h) 1 0 + count_by (bytes_eq x) hs
count_cons x h hs = sum_by-cons (λ y. cond (bytes_eq x y) 1 0) h hs

counted : (x : List ℕ) (header fields : List (List ℕ)) (name field : List ℕ) → IsIn (name, field) (zip header fields) → name ≡ x → 1 ≤ count_by (bytes_eq x) header
counted x [] fields name field k is = absurd k
counted x (h ∷ hs) [] name field k is = absurd k
counted x (h ∷ hs) (f ∷ fs) name field (inl e) is =
    let same : bytes_eq x h ≡ true = (bytes_eq-Decides x h).1 (sym (ap (λ (p : List ℕ × List ℕ). p.0) e ∙ is)) in
    let one : ℕ = 1 in let here : cond (bytes_eq x h) 1 0 ≡ one = rw same refl in
    let all = count_cons x h hs in
    omega (arith, here, all)
counted x (h ∷ hs) (f ∷ fs) name field (inr k) is =
    let rest = counted x hs fs name field k is in
    let all = count_cons x h hs in
    omega (arith, rest, all)

-- the field of a column that stands once
placed : (x : List ℕ) (header fields : List (List ℕ)) (name field : List ℕ) → count_by (bytes_eq x) header ≤ 1 → IsIn (name, field) (zip header fields) → name ≡ x
    → (field ≡ get_or fields (position_or_len (bytes_eq x) header) []) × (position_or_len (bytes_eq x) header < length header)
placed x [] fields name field few k is = absurd k
placed x (h ∷ hs) [] name field few k is = absurd k
placed x (h ∷ hs) (f ∷ fs) name field few (inl e) is =
    let same : bytes_eq x h ≡ true = (bytes_eq-Decides x h).1 (sym (ap (λ (p : List ℕ × List ℕ). p.0) e ∙ is)) in
    rw same (sym (ap (λ (p : List ℕ × List ℕ). p.1) e), omega arith)
placed x (h ∷ hs) (f ∷ fs) name field few (inr k) is = tested (bytes_eq x h)
    (λ t. (
    let one : ℕ = 1 in let here : cond (bytes_eq x h) 1 0 ≡ one = rw t refl in
    let rest = counted x hs fs name field k is in
    let all = count_cons x h hs in
    absurd (omega (arith, here, rest, all, few))))
    (λ n. (
    let all = count_cons x h hs in
    let rest = placed x hs fs name field (omega (arith, all, few)) k is in
    let next : 1 + position_or_len (bytes_eq x) hs ≡ suc (position_or_len (bytes_eq x) hs) = omega arith in
    rw (n, next) (rest.0, omega (arith, rest.1))))

field_once : (x : List ℕ) (header fields : List (List ℕ)) (name field : List ℕ) → column_faults header x ≡ [] → IsIn (name, field) (zip header fields) → name ≡ x → field ≡ field_in header fields x
field_once x header fields name field none k is =
    let at = placed x header fields name field (once header x none) k is in
    let test : nat_lt (position_or_len (bytes_eq x) header) (length header) ≡ true = lt-ltb (position_or_len (bytes_eq x) header) (length header) at.1 in
    at.0 ∙ sym (field_read fields (position_or_len (bytes_eq x) header)) ∙ rw test refl

leaf_there : {X : Type 0} (f : X → Option ℕ) (x : X) (xs : List X) (ls : List ℕ) → map f xs ≡ map Some ls → IsIn x xs → is_none (f x) ≡ false
leaf_there f x [] ls h k = absurd k
leaf_there f x (y ∷ ys) [] h k = absurd (cc)
leaf_there f x (y ∷ ys) (l ∷ ls) h (inl e) = ap (λ z. is_none (f z)) (sym e) ∙ (let head : f y ≡ Some l = cc in ap is_none head)
leaf_there f x (y ∷ ys) (l ∷ ls) h (inr k) = let tail : map f ys ≡ map Some ls = cc in leaf_there f x ys ls tail k

number_there : {X : Type 0} (f : X → Result ℤ UnitFault) (row : ℕ) (name : List ℕ) (x : X) (xs : List X) (us : List ℤ) → map f xs ≡ map Ok us → IsIn x xs → value_faults row name (f x) ≡ []
number_there f row name x [] us h k = absurd k
number_there f row name x (y ∷ ys) [] h k = absurd (cc)
number_there f row name x (y ∷ ys) (u ∷ us) h (inl e) = ap (λ z. value_faults row name (f z)) (sym e) ∙ (let head : f y ≡ Ok u = cc in ap (value_faults row name) head)
number_there f row name x (y ∷ ys) (u ∷ us) h (inr k) = let tail : map f ys ≡ map Ok us = cc in number_there f row name x ys us tail k

same_name : (x y : List ℕ) → bytes_eq x y ≡ true → x ≡ y
same_name x y = (bytes_eq-Decides x y).0

module _ (s : Dims) (header fields : List (List ℕ)) (none : flat_map (column_faults header) (column_names s) ≡ []) where
  -- a record that names a leaf of each dimension and a number of each measure has no fault in its fields
  pub no_faults : (row : ℕ) (ls : List ℕ) (us : List ℤ)
      → map (λ d. leaf_of d (field_in header fields d.column)) s.dimensions ≡ map Some ls
      → map (λ m. units_of m.decimals (field_in header fields m.column)) s.measures ≡ map Ok us
      → flat_map (field_faults s row) (zip header fields) ≡ []
  no_faults row ls us leaves units = none_of (field_faults s row) (zip header fields) (λ e k. rw (no_leaf e k, no_number e k) refl)
    where
      no_leaf : (e : List ℕ × List ℕ) → IsIn e (zip header fields) → flat_map (leaf_faults row e) s.dimensions ≡ []
      no_leaf e k = none_of (leaf_faults row e) s.dimensions (λ d m. tested (bytes_eq e.0 d.column)
          (λ t. (
          let there = leaf_there (λ d. leaf_of d (field_in header fields d.column)) d s.dimensions ls leaves m in
          let column = none_at (column_faults header) d.column (column_names s) none (append_left d.column (map (λ d. d.column) s.dimensions) (map (λ m. m.column) s.measures) (map_has (λ d. d.column) d s.dimensions m)) in
          let field = field_once d.column header fields e.0 e.1 column k (same_name e.0 d.column t) in
          rw (t, field, there) refl))
          (λ f. rw f refl))

      no_number : (e : List ℕ × List ℕ) → IsIn e (zip header fields) → flat_map (number_faults row e) s.measures ≡ []
      no_number e k = none_of (number_faults row e) s.measures (λ d m. tested (bytes_eq e.0 d.column)
          (λ t. (
          let there = number_there (λ m. units_of m.decimals (field_in header fields m.column)) row e.0 d s.measures us units m in
          let column = none_at (column_faults header) d.column (column_names s) none (append_right d.column (map (λ d. d.column) s.dimensions) (map (λ m. m.column) s.measures) (map_has (λ m. m.column) d s.measures m)) in
          let field = field_once d.column header fields e.0 e.1 column k (same_name e.0 d.column t) in
          rw (t, field) there))
          (λ f. rw f refl))

-- ---- what the record says

some_back : (ls : List ℕ) → map (λ (o : Option ℕ). unwrap_or o 0) (map Some ls) ≡ ls
some_back [] = refl
some_back (l ∷ ls) = ap (λ xs. l ∷ xs) (some_back ls)

ok_back : (us : List ℤ) → map ok_or_zero (map Ok us) ≡ us
ok_back [] = refl
ok_back (u ∷ us) = ap (λ xs. u ∷ xs) (ok_back us)

pub said : (s : Dims) (header fields : List (List ℕ)) (ls : List ℕ) (us : List ℤ)
    → map (λ d. leaf_of d (field_in header fields d.column)) s.dimensions ≡ map Some ls
    → map (λ m. units_of m.decimals (field_in header fields m.column)) s.measures ≡ map Ok us
    → record { leaves = ls; units = us } ≡ fact_of s header fields
said s header fields ls us leaves units = ap₂ (λ l u. record { leaves = l; units = u })
    (sym (some_back ls) ∙ ap (map (λ (o : Option ℕ). unwrap_or o 0)) (sym leaves) ∙ map-map (λ (o : Option ℕ). unwrap_or o 0) (λ d. leaf_of d (field_in header fields d.column)) s.dimensions)
    (sym (ok_back us) ∙ ap (map ok_or_zero) (sym units) ∙ map-map ok_or_zero (λ m. units_of m.decimals (field_in header fields m.column)) s.measures)

-- a record of the right length, with no fault in its fields, behind not too many
pub no_own_faults : (s : Dims) (header fields : List (List ℕ)) (count : ℕ) → count < 1000000 → length fields ≡ length header → flat_map (field_faults s (count + 1)) (zip header fields) ≡ [] → own_faults s header count fields ≡ []
no_own_faults s header fields count few long none =
    let room : leb most_facts count ≡ false = grind (arith, nat_tests) in
    let same : eqb (length fields) (length header) ≡ true = eq-eqb (length fields) (length header) long in
    rw (room, same, none) refl
