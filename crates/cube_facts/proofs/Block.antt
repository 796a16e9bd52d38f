-- Sums over the rows of a table, block by block.
use Rattle.std.proofs.Common.{◌≡◌, ◌<◌, ◌≤◌, ℕ, zero, suc, ◌+◌, ◌*◌, List, [], ◌∷◌, ◌++◌, length, take, drop, get_or, filter, Bool, true, false, ◌&&◌, ℤ, pos, ◌+ℤ◌, refl, sym, ap, ◌∙◌, add-one, drop-cons, length-drop, arith, if◌then◌else◌, codes}
use Rattle.std.specs.Str.{bytes_eq}
use Rattle.std.proofs.Math.Nat.{suc-mul, zero-mul, mul-le-mul_right}
use Rattle.std.proofs.lemmas.List.{length-take-le}
use Rattle.std.proofs.lemmas.List.Elements.{filter-append}
use Rattle.std.proofs.lemmas.Int.{ints}
use Rattle.cube_facts.specs.Flat.{FlatRow, part_matches, matches, plain_sum, sum_of}
use Rattle.cube_facts.specs.Table.{rows_in, row_at, kept_sum}

-- ---- places in a table

-- the place of a column's field in a row is before the row's end
pub place_below : (width i column : ℕ) → column < width → i * width + column < suc i * width
place_below width i column h = let m = suc-mul i width in omega (arith, h, m)

pub place_within : (width i n column long : ℕ) → column < width → i < n → n * width ≤ long → i * width + column < long
place_within width i n column long h below enough =
    let here = place_below width i column h in
    let there = mul-le-mul_right width below in
    omega (arith, here, there, enough)

get_or-drop : (xs : List (List ℕ)) (n k : ℕ) → get_or (drop n xs) k [] ≡ get_or xs (n + k) []
get_or-drop xs zero k = let e : 0 + k ≡ k = omega arith in ap (λ (j : ℕ). get_or xs j []) (sym e)
get_or-drop [] (suc n) k = refl
get_or-drop (x ∷ xs) (suc n) k = let e : suc n + k ≡ suc (n + k) = omega arith in rw e (get_or-drop xs n k)

get_or-take : (xs : List (List ℕ)) (n k : ℕ) → k < n → get_or (take n xs) k [] ≡ get_or xs k []
get_or-take xs zero k h = absurd (omega (arith, h))
get_or-take [] (suc n) k h = refl
get_or-take (x ∷ xs) (suc n) zero h = refl
get_or-take (x ∷ xs) (suc n) (suc k) h = get_or-take xs n k (omega (arith, h))

-- a row from a column on begins with the field in its place
pub row_from : (width : ℕ) (fields : List (List ℕ)) (i column : ℕ) → column < width → suc i * width ≤ length fields
    → drop column (row_at width fields i) ≡ get_or fields (i * width + column) [] ∷ drop (column + 1) (row_at width fields i)
row_from width fields i column h enough =
    let m = suc-mul i width in
    let long : length (row_at width fields i) ≡ width = length-take-le width (drop (i * width) fields) (omega (arith, length-drop (i * width) fields, m, enough)) in
    let first = drop-cons (row_at width fields i) column [] (omega (arith, long, h)) in
    let field = get_or-take (drop (i * width) fields) width column h ∙ get_or-drop fields (i * width) column in
    rw add-one (first ∙ ap (λ (f : List ℕ). f ∷ drop (suc column) (row_at width fields i)) field)

-- ---- kept values

pub kept_more : (kept : List Bool) (values : List ℤ) (i : ℕ) → i < length kept → i < length values
    → kept_sum (take (suc i) kept) (take (suc i) values) ≡ kept_sum (take i kept) (take i values) +ℤ (if get_or kept i false then get_or values i (pos 0) else pos 0)
kept_more [] values i h k = absurd (omega (arith, h))
kept_more (b ∷ bs) [] i h k = absurd (omega (arith, k))
kept_more (b ∷ bs) (v ∷ vs) zero h k = let x = if b then v else pos 0 in omega (arith, ints)
kept_more (b ∷ bs) (v ∷ vs) (suc i) h k = let rest = kept_more bs vs i (omega (arith, h)) (omega (arith, k)) in omega (arith, ints, rest)

pub test_of : (keep b c : Bool) → b ≡ c → (keep && b) ≡ (keep && c)
test_of keep b c e = ap (λ (x : Bool). keep && x) e

pub and_false : (b : Bool) → (b && false) ≡ false
and_false true = refl
and_false false = refl

-- ---- a part that is no star

pub part_is : (part field : List ℕ) (b : Bool) → bytes_eq part (codes "*") ≡ false → b ≡ bytes_eq part field → b ≡ part_matches part field
part_is part field b star e = rw star e

-- ---- rows that a line matches, part by part

and_true : (b : Bool) → (b && true) ≡ b
and_true true = refl
and_true false = refl

and_group : (a b c : Bool) → (a && (b && c)) ≡ ((a && b) && c)
and_group true b c = refl
and_group false b c = refl

pub row_enough : (width start many k long : ℕ) → k < many → (start + many) * width ≤ long → suc (start + k) * width ≤ long
row_enough width start many k long h enough =
    let more = mul-le-mul_right width (below_more h) in
    omega (arith, more, enough)
  where
    below_more : k < many → suc (start + k) ≤ start + many
    below_more l = omega (arith, l)

-- the last part
pub mark_last : (keep kept said : Bool) (part field : List ℕ) (asked row tail : List (List ℕ)) → asked ≡ part ∷ [] → row ≡ field ∷ tail
    → (keep && matches asked row) ≡ said → kept ≡ (keep && part_matches part field) → kept ≡ said
mark_last keep kept said part field asked row tail one is so_far e =
    let last : matches asked row ≡ part_matches part field = rw (one, is) (and_true (part_matches part field)) in
    e ∙ ap (λ b. keep && b) (sym last) ∙ so_far

-- a part before others
pub mark_more : (keep kept said : Bool) (part field : List ℕ) (asked more row tail : List (List ℕ)) → asked ≡ part ∷ more → row ≡ field ∷ tail
    → (keep && matches asked row) ≡ said → kept ≡ (keep && part_matches part field) → (kept && matches more tail) ≡ said
mark_more keep kept said part field asked more row tail one is so_far e =
    let step : matches asked row ≡ (part_matches part field && matches more tail) = rw (one, is) refl in
    ap (λ b. b && matches more tail) e ∙ sym (and_group keep (part_matches part field) (matches more tail)) ∙ ap (λ b. keep && b) (sym step) ∙ so_far

-- ---- sums over rows

plain_sum-append : (xs ys : List FlatRow) → plain_sum (xs ++ ys) ≡ plain_sum xs +ℤ plain_sum ys
plain_sum-append [] ys = omega (arith, ints)
plain_sum-append (x ∷ xs) ys = let rest = plain_sum-append xs ys in omega (arith, ints, rest)

one_row : (asked : List (List ℕ)) (row : FlatRow) (b : Bool) → matches asked row.fields ≡ b → sum_of asked (row ∷ []) ≡ (if b then row.value else pos 0)
one_row asked row true h = rw h (omega (arith, ints))
one_row asked row false h = rw h refl

drop-drop : (a b : ℕ) (xs : List (List ℕ)) → drop a (drop b xs) ≡ drop (b + a) xs
drop-drop a zero xs = let e : 0 + a ≡ a = omega arith in rw e refl
drop-drop zero (suc b) [] = let e : suc b + 0 ≡ suc b = omega arith in rw e refl
drop-drop (suc a) (suc b) [] = let e : suc b + suc a ≡ suc (b + suc a) = omega arith in rw e refl
drop-drop a (suc b) (x ∷ xs) = let e : suc b + a ≡ suc (b + a) = omega arith in rw e (drop-drop a b xs)

next_row : (width : ℕ) (fields : List (List ℕ)) (i : ℕ) → row_at width (drop width fields) i ≡ row_at width fields (suc i)
next_row width fields i = let m : width + i * width ≡ suc i * width = let s = suc-mul i width in omega (arith, s) in
    ap (λ (xs : List (List ℕ)). take width xs) (drop-drop (i * width) width fields ∙ ap (λ (n : ℕ). drop n fields) m)

first_row : (width : ℕ) (fields : List (List ℕ)) → take width fields ≡ row_at width fields 0
first_row width fields = let z = zero-mul width in rw z refl

-- the rows up to one more
rows_take : (width : ℕ) (fields : List (List ℕ)) (values : List ℤ) (i : ℕ) → i < length values
    → take (suc i) (rows_in width fields values) ≡ take i (rows_in width fields values) ++ record { fields = row_at width fields i; value = get_or values i (pos 0) } ∷ []
rows_take width fields [] i h = absurd (omega (arith, h))
rows_take width fields (v ∷ vs) zero h = ap (λ (f : List (List ℕ)). record { fields = f; value = v } ∷ []) (first_row width fields)
rows_take width fields (v ∷ vs) (suc i) h =
    ap (λ (rs : List FlatRow). record { fields = take width fields; value = v } ∷ rs)
    (rows_take width (drop width fields) vs i (omega (arith, h)) ∙ ap (λ (f : List (List ℕ)). take i (rows_in width (drop width fields) vs) ++ record { fields = f; value = get_or vs i (pos 0) } ∷ []) (next_row width fields i))

sum_more : (asked : List (List ℕ)) (width : ℕ) (fields : List (List ℕ)) (values : List ℤ) (i : ℕ) (b : Bool) → i < length values → b ≡ matches asked (row_at width fields i)
    → sum_of asked (take (suc i) (rows_in width fields values)) ≡ sum_of asked (take i (rows_in width fields values)) +ℤ (if b then get_or values i (pos 0) else pos 0)
sum_more asked width fields values i b h e =
    let rows = take i (rows_in width fields values) in
    let row : FlatRow = record { fields = row_at width fields i; value = get_or values i (pos 0) } in
    ap (sum_of asked) (rows_take width fields values i h)
    ∙ ap plain_sum (filter-append (λ (r : FlatRow). matches asked r.fields) rows (row ∷ []))
    ∙ plain_sum-append (filter (λ r. matches asked r.fields) rows) (filter (λ r. matches asked r.fields) (row ∷ []))
    ∙ ap (λ (n : ℤ). sum_of asked rows +ℤ n) (one_row asked row b (sym e))

-- a block of rows more
pub block_sum : (asked : List (List ℕ)) (width : ℕ) (fields : List (List ℕ)) (values : List ℤ) (start : ℕ) (kept : List Bool) → start + length kept ≤ length values
    → ((k : ℕ) → k < length kept → get_or kept k false ≡ matches asked (row_at width fields (start + k)))
    → sum_of asked (take (start + length kept) (rows_in width fields values)) ≡ sum_of asked (take start (rows_in width fields values)) +ℤ kept_sum kept (take (length kept) (drop start values))
block_sum asked width fields values start [] within is =
    let same : start + 0 ≡ start = omega arith in rw same (omega (arith, ints))
block_sum asked width fields values start (b ∷ bs) within is =
    let here : start < length values = omega (arith, within) in
    let first = drop-cons values start (pos 0) here in
    let zeroth : start + 0 ≡ start = omega arith in
    let one = sum_more asked width fields values start b here (is 0 (omega arith) ∙ ap (λ (n : ℕ). matches asked (row_at width fields n)) zeroth) in
    let rest = block_sum asked width fields values (suc start) bs (omega (arith, within)) (λ k l. is (suc k) (omega (arith, l)) ∙ ap (λ (n : ℕ). matches asked (row_at width fields n)) (shift k)) in
    let long : start + suc (length bs) ≡ suc start + length bs = omega arith in
    rw (long, first) (omega (arith, ints, one, rest))
  where
    shift : (k : ℕ) → start + suc k ≡ suc start + k
    shift k = omega arith

pub front_of : (kept behind : List Bool) (n : ℕ) → length kept ≡ n → take n (kept ++ behind) ≡ kept
front_of [] behind zero h = refl
front_of [] behind (suc n) h = absurd (omega (arith, h))
front_of (b ∷ bs) behind zero h = absurd (omega (arith, h))
front_of (b ∷ bs) behind (suc n) h = ap (λ (l : List Bool). b ∷ l) (front_of bs behind n (omega (arith, h)))

pub length-rows_in : (width : ℕ) (fields : List (List ℕ)) (values : List ℤ) → length (rows_in width fields values) ≡ length values
length-rows_in width fields [] = refl
length-rows_in width fields (v ∷ vs) = ap suc (length-rows_in width (drop width fields) vs)
