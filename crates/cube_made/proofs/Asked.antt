-- The requests of the made queries: their texts, and that they are valid.
use Rattle.std.proofs.Common.{◌≡◌, ℕ, ◌+◌, ◌*◌, ◌<◌, ◌≤◌, true, not, ◌||◌, min, max, List, [], ◌∷◌, ◌++◌, length, map, get_or, codes, Option, Some, None, refl, ap, ◌∙◌, arith, append-nil, append_assoc, eq-eqb, le-leb, lt-ltb}
use Rattle.std.specs.Prelude.{slice_index_or}
use Rattle.std.specs.List.{list_all}
use Rattle.cube_model.specs.Cubes.{count_from}
use Rattle.cube_model.specs.Dims.{NamedDimension, Dims, plain, plains, members}
use Rattle.cube_model.specs.Requests.{fits, is_level, is_grouped, is_one}
use Rattle.cube_model.specs.declared.request.Request.{Request}
use Rattle.cube_model.specs.declared.request.What.TheVariants.{Count, Measure}
use Rattle.cube_model.specs.declared.request.Pick.{Pick}
use Rattle.cube_text.specs.Quoting.{is_bare, printed}
use Rattle.cube_query.specs.Canonical.{is_there, is_request, PickFits, what_text, behind, pick_texts, member_text, request_text}
use Rattle.cube_gen.specs.Made.{numbered, range_text, cell_text}
use Rattle.cube_made.specs.Laws.{IsSize}
use Rattle.cube_made.specs.Values.{branch, month, grade, dims_said}
use Rattle.cube_made.proofs.Named.{name_at, length_named, branch_names, region_names, month_names, grade_names}
use Rattle.cube_made.proofs.Bare.{numbered_printed}

-- ---- the texts of the members

in_order : (a b : ℕ) → min a b ≤ max a b
in_order a b = omega arith

name_is : (names : List (List ℕ)) (f : ℕ → List ℕ) (n k : ℕ) → names ≡ map f (count_from 0 n) → k < n → slice_index_or names k [] ≡ f k
name_is names f n k e l = ap (λ (xs : List (List ℕ)). get_or xs k []) e ∙ name_at f n k l

pub branch_text : (s k : ℕ) → IsSize s → k < 40 * s → member_text (branch s) 0 k ≡ numbered (codes "b") k
unfolding is_bare
branch_text s k h l = ap printed (name_is (members (branch s) 0) (numbered (codes "b")) (40 * s) k (branch_names s h.1) l) ∙ numbered_printed (codes "b") k refl (omega (arith, h, l))

pub region_text : (s k : ℕ) → IsSize s → k < 5 * s → member_text (branch s) 1 k ≡ numbered (codes "r") k
unfolding is_bare
region_text s k h l = ap printed (name_is (members (branch s) 1) (numbered (codes "r")) (5 * s) k (region_names s h) l) ∙ numbered_printed (codes "r") k refl (omega (arith, h, l))

pub month_text : (k : ℕ) → k < 12 → member_text month 0 k ≡ numbered (codes "m") (k + 1)
unfolding is_bare
month_text k l = ap printed (name_is (members month 0) (λ i. numbered (codes "m") (i + 1)) 12 k month_names l) ∙ numbered_printed (codes "m") (k + 1) refl (omega (arith, l))

pub grade_text : (k : ℕ) → k < 6 → member_text grade 0 k ≡ numbered (codes "g") k
unfolding is_bare
grade_text k l = ap printed (name_is (members grade 0) (numbered (codes "g")) 6 k grade_names l) ∙ numbered_printed (codes "g") k refl (omega (arith, l))

-- ---- the requests

-- from one member to another, and one member
abbrev pub span : ℕ → ℕ → ℕ → Option Pick
span l x y = Some (record { level = l; first = x; last = y })

abbrev pub one : ℕ → ℕ → Option Pick
one l x = span l x x

abbrev pub by_month : ℕ → Request
by_month a = record { what = Measure 0; group = 2 ∷ 0 ∷ 1 ∷ []; picks = one 1 a ∷ None ∷ None ∷ [] }

abbrev pub by_quarter : Request
by_quarter = record { what = Measure 0; group = 1 ∷ 1 ∷ 1 ∷ []; picks = None ∷ None ∷ None ∷ [] }

abbrev pub in_range : ℕ → ℕ → ℕ → ℕ → ℕ → ℕ → Request
in_range a b c d e f = record { what = Measure 1; group = 2 ∷ 2 ∷ 1 ∷ []; picks = span 0 (min a b) (max a b) ∷ span 0 (min c d) (max c d) ∷ span 0 (min e f) (max e f) ∷ [] }

abbrev pub in_cell : ℕ → ℕ → ℕ → Request
in_cell a b c = record { what = Measure 1; group = 2 ∷ 2 ∷ 1 ∷ []; picks = one 1 a ∷ one 0 b ∷ one 0 c ∷ [] }

abbrev pub of_grade : ℕ → Request
of_grade a = record { what = Count; group = 2 ∷ 2 ∷ 1 ∷ []; picks = None ∷ None ∷ one 0 a ∷ [] }

-- ---- their texts

by_month_text : (s a : ℕ) → request_text (dims_said s) (by_month a) ≡ codes "slice pay by month.month where branch.region=" ++ ((member_text (branch s) 1 a ++ []) ++ [])
unfolding request_text is_bare
by_month_text s a = refl

pub by_quarter_text : (s : ℕ) → request_text (dims_said s) by_quarter ≡ codes "slice pay by branch.region, month.quarter"
unfolding request_text is_bare
by_quarter_text s = refl

of_grade_text : (s a : ℕ) → request_text (dims_said s) (of_grade a) ≡ codes "cell count grade.grade=" ++ ((member_text grade 0 a ++ []) ++ [])
unfolding request_text is_bare
of_grade_text s a = rw (eq-eqb a a refl) refl

in_cell_text : (s a b c : ℕ) → request_text (dims_said s) (in_cell a b c) ≡ codes "cell hours branch.region=" ++ ((member_text (branch s) 1 a ++ []) ++ (codes ", month.month=" ++ ((member_text month 0 b ++ []) ++ (codes ", grade.grade=" ++ ((member_text grade 0 c ++ []) ++ [])))))
unfolding request_text is_bare
in_cell_text s a b c = rw (eq-eqb a a refl, eq-eqb b b refl, eq-eqb c c refl) refl

-- a range in words, also where each pick is of one member
abbrev pub spans_text : Dims → Request → List ℕ
spans_text s r = codes "range " ++ what_text s r.what ++ behind (codes " ") (pick_texts true s.dimensions r.picks)

abbrev both : NamedDimension → ℕ → ℕ → List ℕ
both d x y = member_text d 0 x ++ (codes ".." ++ member_text d 0 y)

in_range_text : (s a b c d e f : ℕ) → spans_text (dims_said s) (in_range a b c d e f)
    ≡ codes "range hours branch.branch=" ++ (both (branch s) (min a b) (max a b) ++ (codes ", month.month=" ++ (both month (min c d) (max c d) ++ (codes ", grade.grade=" ++ (both grade (min e f) (max e f) ++ [])))))
unfolding request_text is_bare
in_range_text s a b c d e f = refl

-- ---- that they are valid

pub pick_there : (d : NamedDimension) (p : Pick) (l : ℕ) → l ≤ length d.levels → PickFits d (Some p) → is_level (plain d) (Some p) l ≡ true
pick_there d p l h f = rw (le-leb l (length d.levels) h, lt-ltb p.level (length d.levels) f.0, le-leb p.first p.last f.1, lt-ltb p.last (length (members d p.level)) f.2) refl

no_pick : (d : NamedDimension) (l : ℕ) → l ≤ length d.levels → is_level (plain d) None l ≡ true
no_pick d l h = le-leb l (length d.levels) h

three_fit : (d e f : NamedDimension) (l m n : ℕ) (p q r : Option Pick) → is_level (plain d) p l ≡ true → is_level (plain e) q m ≡ true → is_level (plain f) r n ≡ true → fits (plain d ∷ plain e ∷ plain f ∷ []) (l ∷ m ∷ n ∷ []) (p ∷ q ∷ r ∷ []) ≡ true
three_fit d e f l m n p q r a b c = rw (a, b, c) refl

valid : (s : Dims) (r : Request) → fits (plains s) r.group r.picks ≡ true → is_there s r.what ≡ true → (not (is_grouped (plains s) r.group) || list_all is_one r.picks) ≡ true → is_request s r ≡ true
unfolding is_request
valid s r a b c = rw (a, b, c) refl

-- members from one to another, of as many as there are
fits_span : (d : NamedDimension) (l x y n : ℕ) → l < length d.levels → x ≤ y → y < n → length (members d l) ≡ n → is_level (plain d) (span l x y) (length d.levels) ≡ true
fits_span d l x y n h i j e = pick_there d (record { level = l; first = x; last = y }) (length d.levels) (omega arith) (h, i, omega (arith, j, e))

branches : (s x y : ℕ) → IsSize s → x ≤ y → y < 40 * s → is_level (plain (branch s)) (span 0 x y) 2 ≡ true
branches s x y h i j = fits_span (branch s) 0 x y (40 * s) (omega arith) i j (ap length (branch_names s h.1) ∙ length_named (numbered (codes "b")) 0 (40 * s))

regions : (s x y : ℕ) → IsSize s → x ≤ y → y < 5 * s → is_level (plain (branch s)) (span 1 x y) 2 ≡ true
regions s x y h i j = fits_span (branch s) 1 x y (5 * s) (omega arith) i j (ap length (region_names s h) ∙ length_named (numbered (codes "r")) 0 (5 * s))

months : (x y : ℕ) → x ≤ y → y < 12 → is_level (plain month) (span 0 x y) 2 ≡ true
months x y i j = fits_span month 0 x y 12 (omega arith) i j (ap length month_names ∙ length_named (λ k. numbered (codes "m") (k + 1)) 0 12)

grades : (x y : ℕ) → x ≤ y → y < 6 → is_level (plain grade) (span 0 x y) 1 ≡ true
grades x y i j = fits_span grade 0 x y 6 (omega arith) i j (ap length grade_names ∙ length_named (numbered (codes "g")) 0 6)

same_number : (a : ℕ) → a ≤ a
same_number a = omega arith

pub by_month_valid : (s a : ℕ) → IsSize s → a < 5 * s → is_request (dims_said s) (by_month a) ≡ true
by_month_valid s a h l = valid (dims_said s) (by_month a)
    (three_fit (branch s) month grade 2 0 1 (one 1 a) None None (regions s a a h (same_number a) l) (no_pick month 0 (omega arith)) (no_pick grade 1 (omega arith)))
    refl (rw (eq-eqb a a refl) refl)

pub by_quarter_valid : (s : ℕ) → is_request (dims_said s) by_quarter ≡ true
by_quarter_valid s = valid (dims_said s) by_quarter (three_fit (branch s) month grade 1 1 1 None None None (no_pick (branch s) 1 (omega arith)) (no_pick month 1 (omega arith)) (no_pick grade 1 (omega arith))) refl refl

pub in_range_valid : (s a b c d e f : ℕ) → IsSize s → a < 40 * s → b < 40 * s → c < 12 → d < 12 → e < 6 → f < 6 → is_request (dims_said s) (in_range a b c d e f) ≡ true
in_range_valid s a b c d e f h i j k l m n = valid (dims_said s) (in_range a b c d e f)
    (three_fit (branch s) month grade 2 2 1 (span 0 (min a b) (max a b)) (span 0 (min c d) (max c d)) (span 0 (min e f) (max e f)) (branches s (min a b) (max a b) h (in_order a b) (omega arith)) (months (min c d) (max c d) (in_order c d) (omega arith)) (grades (min e f) (max e f) (in_order e f) (omega arith)))
    refl refl

pub in_cell_valid : (s a b c : ℕ) → IsSize s → a < 5 * s → b < 12 → c < 6 → is_request (dims_said s) (in_cell a b c) ≡ true
in_cell_valid s a b c h i j k = valid (dims_said s) (in_cell a b c)
    (three_fit (branch s) month grade 2 2 1 (one 1 a) (one 0 b) (one 0 c) (regions s a a h (same_number a) i) (months b b (same_number b) j) (grades c c (same_number c) k))
    refl refl

pub of_grade_valid : (s a : ℕ) → a < 6 → is_request (dims_said s) (of_grade a) ≡ true
of_grade_valid s a h = valid (dims_said s) (of_grade a) (three_fit (branch s) month grade 2 2 1 None None (one 0 a) (no_pick (branch s) 2 (omega arith)) (no_pick month 2 (omega arith)) (grades a a (same_number a) h)) refl refl

-- ---- the made queries are their texts

pub by_month_is : (s a : ℕ) → IsSize s → a < 5 * s → request_text (dims_said s) (by_month a) ≡ numbered (codes "slice pay by month.month where branch.region=r") a
by_month_is s a h l =
    let m = member_text (branch s) 1 a in
    by_month_text s a ∙ ap (λ (z : List ℕ). codes "slice pay by month.month where branch.region=" ++ z) (append-nil (m ++ []) ∙ append-nil m ∙ region_text s a h l)

pub of_grade_is : (s a : ℕ) → a < 6 → request_text (dims_said s) (of_grade a) ≡ numbered (codes "cell count grade.grade=g") a
of_grade_is s a l =
    let m = member_text grade 0 a in
    of_grade_text s a ∙ ap (λ (z : List ℕ). codes "cell count grade.grade=" ++ z) (append-nil (m ++ []) ∙ append-nil m ∙ grade_text a l)

cell_parts : (h m g x y z : List ℕ) → h ++ ((x ++ []) ++ (m ++ ((y ++ []) ++ (g ++ ((z ++ []) ++ []))))) ≡ (h ++ x) ++ (m ++ y) ++ (g ++ z)
cell_parts h m g x y z = simp (append_assoc, append-nil)

pub in_cell_is : (s a b c : ℕ) → IsSize s → a < 5 * s → b < 12 → c < 6 → request_text (dims_said s) (in_cell a b c) ≡ cell_text a b c
in_cell_is s a b c h i j k =
    in_cell_text s a b c
    ∙ ap (λ (z : List ℕ). codes "cell hours branch.region=" ++ ((z ++ []) ++ (codes ", month.month=" ++ ((member_text month 0 b ++ []) ++ (codes ", grade.grade=" ++ ((member_text grade 0 c ++ []) ++ [])))))) (region_text s a h i)
    ∙ ap (λ (z : List ℕ). codes "cell hours branch.region=" ++ ((numbered (codes "r") a ++ []) ++ (codes ", month.month=" ++ ((z ++ []) ++ (codes ", grade.grade=" ++ ((member_text grade 0 c ++ []) ++ [])))))) (month_text b j)
    ∙ ap (λ (z : List ℕ). codes "cell hours branch.region=" ++ ((numbered (codes "r") a ++ []) ++ (codes ", month.month=" ++ ((numbered (codes "m") (b + 1) ++ []) ++ (codes ", grade.grade=" ++ ((z ++ []) ++ [])))))) (grade_text c k)
    ∙ cell_parts (codes "cell hours branch.region=") (codes ", month.month=") (codes ", grade.grade=") (numbered (codes "r") a) (numbered (codes "m") (b + 1)) (numbered (codes "g") c)

range_parts : (h m g e u v w x y z : List ℕ) → h ++ ((u ++ (e ++ v)) ++ (m ++ ((w ++ (e ++ x)) ++ (g ++ ((y ++ (e ++ z)) ++ []))))) ≡ ((h ++ u) ++ (e ++ v)) ++ ((m ++ w) ++ (e ++ x)) ++ ((g ++ y) ++ (e ++ z))
range_parts h m g e u v w x y z = simp (append_assoc, append-nil)

-- both members of a pick by their texts
both_are : (d : NamedDimension) (x y : ℕ) (t u : List ℕ) → member_text d 0 x ≡ t → member_text d 0 y ≡ u → both d x y ≡ t ++ (codes ".." ++ u)
both_are d x y t u e f = rw (e, f) refl

pub in_range_is : (s a b c d e f : ℕ) → IsSize s → a < 40 * s → b < 40 * s → c < 12 → d < 12 → e < 6 → f < 6 → spans_text (dims_said s) (in_range a b c d e f) ≡ range_text a b c d e f
in_range_is s a b c d e f h i j k l m n =
    let p = both_are (branch s) (min a b) (max a b) (numbered (codes "b") (min a b)) (numbered (codes "b") (max a b)) (branch_text s (min a b) h (omega arith)) (branch_text s (max a b) h (omega arith)) in
    let first : member_text month 0 (min c d) ≡ numbered (codes "m") (min (c + 1) (d + 1)) = month_text (min c d) (omega arith) ∙ ap (numbered (codes "m")) (omega arith) in
    let last : member_text month 0 (max c d) ≡ numbered (codes "m") (max (c + 1) (d + 1)) = month_text (max c d) (omega arith) ∙ ap (numbered (codes "m")) (omega arith) in
    let q = both_are month (min c d) (max c d) (numbered (codes "m") (min (c + 1) (d + 1))) (numbered (codes "m") (max (c + 1) (d + 1))) first last in
    let r = both_are grade (min e f) (max e f) (numbered (codes "g") (min e f)) (numbered (codes "g") (max e f)) (grade_text (min e f) (omega arith)) (grade_text (max e f) (omega arith)) in
    in_range_text s a b c d e f
    ∙ ap (λ (z : List ℕ). codes "range hours branch.branch=" ++ (z ++ (codes ", month.month=" ++ (both month (min c d) (max c d) ++ (codes ", grade.grade=" ++ (both grade (min e f) (max e f) ++ [])))))) p
    ∙ ap (λ (z : List ℕ). codes "range hours branch.branch=" ++ ((numbered (codes "b") (min a b) ++ (codes ".." ++ numbered (codes "b") (max a b))) ++ (codes ", month.month=" ++ (z ++ (codes ", grade.grade=" ++ (both grade (min e f) (max e f) ++ [])))))) q
    ∙ ap (λ (z : List ℕ). codes "range hours branch.branch=" ++ ((numbered (codes "b") (min a b) ++ (codes ".." ++ numbered (codes "b") (max a b))) ++ (codes ", month.month=" ++ ((numbered (codes "m") (min (c + 1) (d + 1)) ++ (codes ".." ++ numbered (codes "m") (max (c + 1) (d + 1)))) ++ (codes ", grade.grade=" ++ (z ++ [])))))) r
    ∙ range_parts (codes "range hours branch.branch=") (codes ", month.month=") (codes ", grade.grade=") (codes "..") (numbered (codes "b") (min a b)) (numbered (codes "b") (max a b))
    (numbered (codes "m") (min (c + 1) (d + 1))) (numbered (codes "m") (max (c + 1) (d + 1))) (numbered (codes "g") (min e f)) (numbered (codes "g") (max e f))
