-- The table of the made dimensions has no fault, and says them.
use Rattle.std.proofs.Common.{◌≡◌, ℕ, ◌&&◌, zero, suc, ◌+◌, ◌*◌, ◌/◌, ◌%◌, ◌^◌, ◌<◌, ◌≤◌, ◌∙◌, Bool, true, false, List, [], ◌∷◌, ◌++◌, length, map, codes, Some, None, refl, sym, ap, subst, arith, drop, eqb, le-leb, le-ltb, ne_eqb, eq-eqb}
use Rattle.std.specs.Prelude.{nat_lt, nat_le, not, Option, slice_index_or}
use Rattle.std.specs.Char.{is_ascii_alphanumeric}
use Rattle.std.specs.List.{list_all, list_any}
use Rattle.std.specs.Str.{IsAscii, bytes_eq}
use Rattle.std.proofs.lemmas.Bool.{and_parts, false_from_ne_true, leb-true, not-true}
use Rattle.std.proofs.lemmas.Bool.Decides.{nat_tests}
use Rattle.std.proofs.lemmas.Fmt.{decimal_injective, length-decimal-le}
use Rattle.std.proofs.lemmas.List.{length-map, map-append}
use Rattle.std.proofs.lemmas.Slice.Eq.{bytes_eq-Decides}
use Rattle.std.proofs.lemmas.Str.{IsUtf8-from_ascii, is_utf8-from_IsUtf8}
use Rattle.toml.specs.Data.{Data, string, array}
use Rattle.cube_model.specs.Checks.{in_turn}
use Rattle.cube_model.specs.Cubes.{count_from, cuboid_count}
use Rattle.cube_model.specs.Dims.{NamedDimension, plains}
use Rattle.cube_model.specs.Names.{is_measure_name, is_control, begins_with_mark, is_name, is_level_name}
use Rattle.cube_model.proofs.Parts.{list_any-map}
use Rattle.cube_tables.specs.Tables.{as_list, as_texts, is_empty_array, entry_of}
use Rattle.cube_tables.proofs.Turns.{both_nothing, check_none}
use Rattle.cube_dims.specs.DimsFile.{dimension_of, dimension_faults, dimension_kinds, named_faults, dimensions_faults, measure_of, measure_faults, measures_faults, list_faults, bad_names, names_twice, path_faults, parts_ways, leaf, dims_in, dims_faults}
use Rattle.cube_gen.specs.Made.{numbered}
use Rattle.cube_made.specs.Laws.{IsSize}
use Rattle.cube_made.specs.Values.{branch_path, month_path, grade_path, branch, month, grade, dims_said}
use Rattle.cube_made.proofs.Printed.{items_of, texts, numbered_plain, lacks}
use Rattle.cube_made.proofs.DimsText.{paths_data, dimension_table, pay_table, whole_table, made_table, region_small, branches}

-- ---- what the table of a dimension says

texts_said : (xs : List (List ℕ)) → as_texts (texts xs) ≡ Some xs
texts_said [] = refl
texts_said (x ∷ xs) = rw (texts_said xs) refl

paths_said : (ps : List (List (List ℕ))) → as_list as_texts (paths_data ps) ≡ Some ps
paths_said [] = refl
paths_said (p ∷ ps) = rw (texts_said p, paths_said ps) refl

-- ---- names

plain_ascii : (x : List ℕ) → list_all is_ascii_alphanumeric x ≡ true → IsAscii x
plain_ascii [] h i = omega arith
plain_ascii (c ∷ cs) h zero = let here = (and_parts (is_ascii_alphanumeric c) (list_all is_ascii_alphanumeric cs) h).0 in grind (arith, nat_tests)
plain_ascii (c ∷ cs) h (suc i) = plain_ascii cs (and_parts (is_ascii_alphanumeric c) (list_all is_ascii_alphanumeric cs) h).1 i

no_mark : (x : List ℕ) → list_all is_ascii_alphanumeric x ≡ true → 1 ≤ length x → begins_with_mark x ≡ false
no_mark [] h some = absurd (omega (arith, some))
no_mark (c ∷ cs) h some =
    let here = (and_parts (is_ascii_alphanumeric c) (list_all is_ascii_alphanumeric cs) h).0 in
    let other : eqb 239 c ≡ false = grind (arith, nat_tests) in
    rw other refl

pub plain_name : (x : List ℕ) → list_all is_ascii_alphanumeric x ≡ true → 1 ≤ length x → length x ≤ 128 → is_name x ≡ true
unfolding is_name
plain_name x plain some few =
    let utf8 = is_utf8-from_IsUtf8 x (IsUtf8-from_ascii x (plain_ascii x plain)) in
    let no_control = lacks is_control (λ c k. grind (arith, nat_tests)) x plain in
    rw (utf8, le-leb 1 (length x) some, le-leb (length x) 128 few, no_control, no_mark x plain some) refl

pub numbered_name : (letter n : ℕ) → is_ascii_alphanumeric letter ≡ true → n < 2 ^ 64 → is_name (numbered (letter ∷ []) n) ≡ true
numbered_name letter n h small =
    let short = length-decimal-le 20 n (omega arith) (omega (arith, small)) small in
    plain_name (numbered (letter ∷ []) n) (numbered_plain (letter ∷ []) n (rw h refl) small) (omega arith) (omega (arith, short))

-- ---- items in turn

count_more : (start n : ℕ) → count_from start (suc n) ≡ count_from start n ++ (start + n) ∷ []
count_more start zero = ap (λ k. k ∷ []) (omega arith)
count_more start (suc n) = ap (λ ks. start ∷ ks) (count_more (suc start) n ∙ ap (λ k. count_from (suc start) n ++ k ∷ []) (omega arith))

one_more : {X : Type 0} (make : ℕ → X) (n : ℕ) → map make (count_from 0 (suc n)) ≡ map make (count_from 0 n) ++ make n ∷ []
one_more make n =
    let same : 0 + n ≡ n = omega arith in
    ap (map make) (count_more 0 n ∙ ap (λ k. count_from 0 n ++ k ∷ []) same) ∙ map-append make (count_from 0 n) (n ∷ [])

-- no item of a list that numbers make has a fault behind the earlier ones
pub none_in_turn : {X F : Type 0} (f : List X → X → List F) (make : ℕ → X) (start n : ℕ)
    → ((k : ℕ) → k < start + n → f (map make (count_from 0 k)) (make k) ≡ []) → in_turn f (map make (count_from 0 start)) (map make (count_from start n)) ≡ []
none_in_turn f make start zero h = refl
none_in_turn f make start (suc n) h =
    let more = none_in_turn f make (suc start) n (λ k l. h k (omega (arith, l))) in
    both_nothing _ _ (h start (omega arith)) (subst (λ earlier. in_turn f earlier (map make (count_from (suc start) n)) ≡ []) (one_more make start) more)

-- no item before has it
pub none_before : {X : Type 0} (p : X → Bool) (make : ℕ → X) (start n : ℕ) → ((j : ℕ) → j < start + n → p (make j) ≡ false) → list_any p (map make (count_from start n)) ≡ false
none_before p make start zero h = refl
none_before p make start (suc n) h = rw (h start (omega arith), none_before p make (suc start) n (λ j l. h j (omega (arith, l)))) refl

-- ---- paths that numbers make

module _ (levels : ℕ) (make : ℕ → List (List ℕ)) (n : ℕ)
    (even : (k : ℕ) → length (make k) ≡ levels)
    (names : (k : ℕ) → k < n → list_all is_name (make k) ≡ true)
    (once : (j k : ℕ) → j < k → k < n → bytes_eq (leaf (make k)) (leaf (make j)) ≡ false)
    (agree : (j k : ℕ) → j < k → k < n → parts_ways (make k) (make j) ≡ false) where
  path_none : (entry : List ℕ) (k : ℕ) → k < n → path_faults entry levels (map make (count_from 0 k)) (make k) ≡ []
  path_none entry k l =
      let new = list_any-map leaf (bytes_eq (leaf (make k))) (map make (count_from 0 k)) ∙ none_before (λ q. bytes_eq (leaf (make k)) (leaf q)) make 0 k (λ j h. once j k (omega (arith, h)) l) in
      let apart = none_before (parts_ways (make k)) make 0 k (λ j h. agree j k (omega (arith, h)) l) in
      both_nothing _ _ (both_nothing _ _ (both_nothing _ _
      (check_none _ _ (ap not (eq-eqb (length (make k)) levels (even k))))
      (check_none _ _ (ap not (names k l))))
      (check_none _ _ new))
      (check_none _ _ apart)

  paths_none : (entry : List ℕ) → in_turn (path_faults entry levels) [] (map make (count_from 0 n)) ≡ []
  paths_none entry = none_in_turn (path_faults entry levels) make 0 n (λ k l. path_none entry k (omega (arith, l)))

-- numbers behind a letter differ
apart : (letter j k : ℕ) → j < k → k < 2 ^ 64 → bytes_eq (numbered (letter ∷ []) k) (numbered (letter ∷ []) j) ≡ false
apart letter j k before small = false_from_ne_true _ (λ same. omega (arith, before, decimal_injective k j small (omega (arith, before, small)) (ap (drop 1) ((bytes_eq-Decides (numbered (letter ∷ []) k) (numbered (letter ∷ []) j)).0 same))))

-- ---- the kinds of the table of a dimension

not_empty : (ds : List Data) → 1 ≤ length ds → is_empty_array (array (items_of ds)) ≡ false
not_empty [] h = absurd (omega (arith, h))
not_empty (d ∷ ds) h = ne_eqb _ _ (λ e. omega (arith, e))

list_there : {X : Type 0} (kind : Data → Option X) (key : List ℕ) (d : Data) (x : X) → is_empty_array d ≡ false → kind d ≡ Some x → list_faults kind key (Some d) ≡ []
list_there kind key d x some is = rw (some, is) refl

kinds_none : (entry : List ℕ) (d : NamedDimension) → 1 ≤ length d.levels → 1 ≤ length d.paths → dimension_kinds entry (Some (string d.name)) None (Some (texts d.levels)) (Some (paths_data d.paths)) ≡ []
kinds_none entry d levels paths =
    let long = length-map d.levels string in
    let wide = length-map d.paths texts in
    both_nothing _ _ (both_nothing _ _ (both_nothing _ _ refl refl)
    (list_there as_texts _ (texts d.levels) d.levels (not_empty (map string d.levels) (omega (arith, long, levels))) (texts_said d.levels)))
    (list_there (as_list as_texts) _ (paths_data d.paths) d.paths (not_empty (map texts d.paths) (omega (arith, wide, paths))) (paths_said d.paths))

-- a dimension whose column is its finest level
said : (d : NamedDimension) → d.column ≡ slice_index_or d.levels 0 [] → dimension_of (dimension_table d) ≡ d
unfolding dimension_of
said d column = rw (texts_said d.levels, paths_said d.paths) (ap (λ c. record { name = d.name; column = c; levels = d.levels; paths = d.paths }) (sym column))

table_none : (earlier : List NamedDimension) (d : NamedDimension) → d.column ≡ slice_index_or d.levels 0 [] → 1 ≤ length d.levels → 1 ≤ length d.paths → ((entry : List ℕ) → named_faults entry earlier d ≡ []) → dimension_faults earlier (dimension_table d) ≡ []
unfolding dimension_faults
table_none earlier d column levels paths named =
    let entry = entry_of (codes "dimension") (length earlier + 1) in
    both_nothing _ _ (kinds_none entry d levels paths) (ap (named_faults entry earlier) (said d column) ∙ named entry)

-- ---- the three dimensions

word : (x : List ℕ) → list_all is_ascii_alphanumeric x ≡ true → nat_le 1 (length x) ≡ true → nat_le (length x) 128 ≡ true → is_name x ≡ true
word x plain some few = plain_name x plain (leb-true 1 (length x) some) (leb-true (length x) 128 few)

level : (x : List ℕ) → is_name x ≡ true → bytes_eq x (codes "all") ≡ false → is_level_name x ≡ true
unfolding is_level_name
level x name other = rw (name, other) refl

named_none : (entry : List ℕ) (earlier : List NamedDimension) (d : NamedDimension) → bad_names entry d ≡ [] → names_twice entry earlier d ≡ [] → length d.levels ≤ 5 → length d.paths ≤ 65536 → in_turn (path_faults entry (length d.levels)) [] d.paths ≡ []
    → named_faults entry earlier d ≡ []
unfolding named_faults
named_none entry earlier d names once few small paths =
    both_nothing _ _ (both_nothing _ _ (both_nothing _ _ names once)
    (both_nothing _ _ (check_none _ _ (le-ltb 5 (length d.levels) few)) (check_none _ _ (le-ltb 65536 (length d.paths) small))))
    paths

branch_paths : (s : ℕ) → IsSize s → (entry : List ℕ) → in_turn (path_faults entry 2) [] (map (branch_path s) (count_from 0 (40 * s))) ≡ []
branch_paths s size entry =
    let few = size.1 in
    paths_none 2 (branch_path s) (40 * s)
    (λ k. refl)
    (λ k l. rw (numbered_name 98 k refl (omega (arith, l, few)), numbered_name 114 (k % (5 * s)) refl (region_small s k size)) refl)
    (λ j k before l. apart 98 j k before (omega (arith, l, few)))
    (λ j k before l. rw (apart 98 j k before (omega (arith, l, few))) refl)
    entry

month_paths : (entry : List ℕ) → in_turn (path_faults entry 2) [] (map month_path (count_from 0 12)) ≡ []
month_paths entry =
    paths_none 2 month_path 12
    (λ k. refl)
    (λ k l. rw (numbered_name 109 (k + 1) refl (omega (arith, l)), numbered_name 113 (k / 3 + 1) refl (omega (arith, l))) refl)
    (λ j k before l. apart 109 (j + 1) (k + 1) (omega (arith, before)) (omega (arith, l)))
    (λ j k before l. rw (apart 109 (j + 1) (k + 1) (omega (arith, before)) (omega (arith, l))) refl)
    entry

grade_paths : (entry : List ℕ) → in_turn (path_faults entry 1) [] (map grade_path (count_from 0 6)) ≡ []
grade_paths entry =
    paths_none 1 grade_path 6
    (λ k. refl)
    (λ k l. rw (numbered_name 103 k refl (omega (arith, l))) refl)
    (λ j k before l. apart 103 j k before (omega (arith, l)))
    (λ j k before l. refl)
    entry

-- its words are names
abbrev is_word : List ℕ → Bool
is_word x = list_all is_ascii_alphanumeric x && (nat_le 1 (length x) && (nat_le (length x) 128 && not (bytes_eq x (codes "all"))))

word_level : (x : List ℕ) → is_word x ≡ true → (is_name x ≡ true) × (is_level_name x ≡ true)
word_level x h =
    let first = and_parts _ _ h in
    let second = and_parts _ _ first.1 in
    let third = and_parts _ _ second.1 in
    let name = word x first.0 second.0 third.0 in
    (name, level x name (not-true _ third.1))

two_levels : (entry x y z : List ℕ) (paths : List (List (List ℕ))) → is_word x ≡ true → is_word y ≡ true → is_word z ≡ true → bad_names entry (record { name = x; column = y; levels = y ∷ z ∷ []; paths = paths }) ≡ []
two_levels entry x y z paths a b c = rw ((word_level x a).0, (word_level y b).0, (word_level y b).1, (word_level z c).1) refl

one_level : (entry x y : List ℕ) (paths : List (List (List ℕ))) → is_word x ≡ true → is_word y ≡ true → bad_names entry (record { name = x; column = y; levels = y ∷ []; paths = paths }) ≡ []
one_level entry x y paths a b = rw ((word_level x a).0, (word_level y b).0, (word_level y b).1) refl

branch_none : (s : ℕ) → IsSize s → dimension_faults [] (dimension_table (branch s)) ≡ []
branch_none s size =
    let few = size.1 in
    let some = size.0 in
    let many = branches s in
    table_none [] (branch s) refl (omega arith) (omega (arith, many, some))
    (λ entry. named_none entry [] (branch s) (two_levels entry (codes "branch") (codes "branch") (codes "region") (branch s).paths refl refl refl) refl (omega arith) (omega (arith, many, few)) (branch_paths s size entry))

month_none : (s : ℕ) → dimension_faults (branch s ∷ []) (dimension_table month) ≡ []
month_none s =
    table_none (branch s ∷ []) month refl (omega arith) (omega arith)
    (λ entry. named_none entry (branch s ∷ []) month (two_levels entry (codes "month") (codes "month") (codes "quarter") month.paths refl refl refl) refl (omega arith) (omega arith) (month_paths entry))

grade_none : (s : ℕ) → dimension_faults (branch s ∷ month ∷ []) (dimension_table grade) ≡ []
grade_none s =
    table_none (branch s ∷ month ∷ []) grade refl (omega arith) (omega arith)
    (λ entry. named_none entry (branch s ∷ month ∷ []) grade (one_level entry (codes "grade") (codes "grade") grade.paths refl refl) refl (omega arith) (omega arith) (grade_paths entry))

-- ---- the file

branch_is : (s : ℕ) → dimension_of (dimension_table (branch s)) ≡ branch s
branch_is s = said (branch s) refl

month_is : dimension_of (dimension_table month) ≡ month
month_is = said month refl

grade_is : dimension_of (dimension_table grade) ≡ grade
grade_is = said grade refl

dimensions_none : (s : ℕ) → IsSize s → dimensions_faults (dimension_table (branch s) ∷ dimension_table month ∷ dimension_table grade ∷ []) ≡ []
dimensions_none s size =
    let second = ap (λ b. dimension_faults (b ∷ []) (dimension_table month)) (branch_is s) ∙ month_none s in
    let third = ap (λ b. dimension_faults (b ∷ dimension_of (dimension_table month) ∷ []) (dimension_table grade)) (branch_is s)
    ∙ ap (λ m. dimension_faults (branch s ∷ m ∷ []) (dimension_table grade)) month_is ∙ grade_none s in
    both_nothing _ _ (branch_none s size) (both_nothing _ _ second (both_nothing _ _ third refl))

pub measures_none : (s : ℕ) → measures_faults (dims_in (made_table s)).dimensions (pay_table ∷ whole_table (codes "hours") ∷ whole_table (codes "bonus") ∷ []) ≡ []
unfolding measure_faults measure_of dimension_of is_measure_name
measures_none s =
    let pay = word (codes "pay") refl refl refl in
    let hours = word (codes "hours") refl refl refl in
    let bonus = word (codes "bonus") refl refl refl in
    rw (pay, hours, bonus) refl

cuboids_few : (s : ℕ) → nat_lt 256 (cuboid_count (plains (dims_in (made_table s)))) ≡ false
unfolding dimension_of
cuboids_few s = refl

-- the table has no fault
pub made_none : (s : ℕ) → IsSize s → dims_faults (made_table s) ≡ []
made_none s size =
    both_nothing _ _ (both_nothing _ _ (both_nothing _ _ (both_nothing _ _ refl refl)
    (dimensions_none s size))
    (check_none _ _ (cuboids_few s)))
    (measures_none s)

-- it says the made dimensions and measures
pub made_said : (s : ℕ) → dims_in (made_table s) ≡ dims_said s
unfolding measure_of
made_said s =
    ap (λ (ds : List NamedDimension). record { dimensions = ds; measures = (dims_said s).measures })
    (ap (λ b. b ∷ dimension_of (dimension_table month) ∷ dimension_of (dimension_table grade) ∷ []) (branch_is s)
    ∙ ap (λ m. branch s ∷ m ∷ dimension_of (dimension_table grade) ∷ []) month_is
    ∙ ap (λ g. branch s ∷ month ∷ g ∷ []) grade_is)
