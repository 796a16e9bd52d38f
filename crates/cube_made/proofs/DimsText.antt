-- The made dimension file is the text of a table.
use Rattle.std.proofs.Common.{◌≡◌, ℕ, zero, suc, ◌+◌, ◌*◌, ◌%◌, ◌^◌, ◌<◌, ◌≤◌, max, ◌∙◌, Bool, true, false, List, [], ◌∷◌, ◌++◌, length, map, codes, Some, refl, sym, ap, arith, append_assoc}
use Rattle.std.proofs.Math.Nat.{mod-lt}
use Rattle.std.specs.Prelude.{pos, decimal, nat_lt}
use Rattle.std.specs.Fmt.{digits}
use Rattle.std.specs.List.{flat_map, list_all}
use Rattle.std.specs.Str.{IsAscii, IsUtf8, is_utf8}
use Rattle.std.proofs.lemmas.Bool.{and_parts, ltb-true}
use Rattle.std.proofs.lemmas.Bool.Decides.{nat_tests}
use Rattle.std.proofs.lemmas.Fmt.{IsAscii-decimal}
use Rattle.std.proofs.lemmas.List.{length-map}
use Rattle.std.proofs.lemmas.Str.{IsUtf8-append, IsUtf8-from_ascii, IsUtf8-nil, is_utf8-from_IsUtf8}
use Rattle.toml_parser.specs.Strings.{Key}
use Rattle.toml_writer.specs.Text.{encoding_of, needs_escape, quotes_after, escaped, string_text, key_text}
use Rattle.toml.specs.Data.{Data, string, integer, array, table, Members, no_members, member, items_depth, items_have_valid_dates, items_are_sorted}
use Rattle.toml.specs.Tables.{Expression, key_value, array_table}
use Rattle.toml.specs.Text.{IsValueText, IsLinesText}
use Rattle.toml.specs.Parse.{parse_document}
use Rattle.toml.proofs.ReadBack.{parse_document-printed}
use Rattle.cube_model.specs.Cubes.{count_from}
use Rattle.cube_model.specs.Dims.{NamedDimension}
use Rattle.cube_tables.specs.Tables.{toml_of}
use Rattle.cube_gen.specs.Made.{numbered}
use Rattle.cube_gen.specs.Tables as said
use Rattle.cube_gen.specs.Tables.{branches_head, other_tables, made_dims}
use Rattle.cube_made.specs.Laws.{IsSize}
use Rattle.cube_made.specs.Values.{branch_path, month_path, grade_path, branch, month, grade}
use Rattle.cube_made.proofs.Printed.{items_of, texts, value_text, are_plain, value_printed, lines_text, lines_printed, array_on_lines, name_text, numbered_plain}

-- ---- the table

abbrev pub paths_data : List (List (List ℕ)) → Data
paths_data paths = array (items_of (map texts paths))

abbrev pub dimension_table : NamedDimension → Members
dimension_table d = member (codes "levels") (texts d.levels) (member (codes "name") (string d.name) (member (codes "paths") (paths_data d.paths) no_members))

abbrev pub pay_table : Members
pay_table = member (codes "decimals") (integer (pos 2)) (member (codes "name") (string (codes "pay")) no_members)

abbrev pub whole_table : List ℕ → Members
whole_table name = member (codes "name") (string name) no_members

abbrev pub measure_data : Data
measure_data = array (items_of (table pay_table ∷ table (whole_table (codes "hours")) ∷ table (whole_table (codes "bonus")) ∷ []))

-- the table where the first dimension is this one
abbrev pub table_with : NamedDimension → Members
table_with d =
    member (codes "dimension") (array (items_of (table (dimension_table d) ∷ table (dimension_table month) ∷ table (dimension_table grade) ∷ [])))
    (member (codes "measure") measure_data no_members)

abbrev pub made_table : ℕ → Members
made_table s = table_with (branch s)

-- a dimension of branches with these paths
abbrev with_paths : List (List (List ℕ)) → NamedDimension
with_paths paths = record { name = codes "branch"; column = codes "branch"; levels = codes "branch" ∷ codes "region" ∷ []; paths = paths }

-- ---- its lines

abbrev key : List ℕ → Key
key word = ([], word)

abbrev dimension_lines : List ℕ → List (List ℕ) → Data → List Expression
dimension_lines name levels paths = (key (codes "dimension"), array_table) ∷ (key (codes "levels"), key_value (texts levels)) ∷ (key (codes "name"), key_value (string name)) ∷ (key (codes "paths"), key_value paths) ∷ []

abbrev other_lines : List Expression
other_lines =
    dimension_lines (codes "month") (codes "month" ∷ codes "quarter" ∷ []) (paths_data (map month_path (count_from 0 12)))
    ++ dimension_lines (codes "grade") (codes "grade" ∷ []) (paths_data (map grade_path (count_from 0 6)))
    ++ (key (codes "measure"), array_table) ∷ (key (codes "decimals"), key_value (integer (pos 2))) ∷ (key (codes "name"), key_value (string (codes "pay")))
    ∷ (key (codes "measure"), array_table) ∷ (key (codes "name"), key_value (string (codes "hours")))
    ∷ (key (codes "measure"), array_table) ∷ (key (codes "name"), key_value (string (codes "bonus"))) ∷ []

others : other_tables ≡ codes "\n]\n" ++ lines_text true other_lines
unfolding other_tables encoding_of needs_escape quotes_after escaped string_text key_text digits
others = refl

-- the text with this one in the place of the value of the branches' paths
abbrev text_with : List ℕ → List ℕ
text_with value = codes "[[dimension]]\nlevels = [\n    \"branch\",\n    \"region\",\n]\nname = \"branch\"\npaths = " ++ ((value ++ codes "\n") ++ lines_text true other_lines)

lines_with : (d : Data) (value : List ℕ) → IsValueText true d value → IsLinesText true false (dimension_lines (codes "branch") (codes "branch" ∷ codes "region" ∷ []) d ++ other_lines) (text_with value)
unfolding encoding_of needs_escape quotes_after escaped string_text key_text
lines_with d value h =
    let last = lines_text true other_lines in
    let paths = codes "paths = " ++ ((value ++ codes "\n") ++ last) in
    let name = codes "name = \"branch\"\n" ++ paths in
    let levels = codes "levels = [\n    \"branch\",\n    \"region\",\n]\n" ++ name in
    let two = texts (codes "branch" ∷ codes "region" ∷ []) in (
      codes "[[dimension]]\n",
      levels,
      refl,
      refl,
      (
        codes "levels = [\n    \"branch\",\n    \"region\",\n]\n",
        name,
        refl,
        (value_text two, refl, value_printed two refl),
        (
          codes "name = \"branch\"\n",
          paths,
          refl,
          (codes "\"branch\"", refl, refl),
          (codes "paths = " ++ (value ++ codes "\n"), last, refl, (value, refl, h), lines_printed true other_lines refl),
        ),
      ),
    )

-- ---- paths

plain_texts : (xs : List (List ℕ)) → are_plain (items_of (map string xs)) ≡ true
plain_texts [] = refl
plain_texts (x ∷ xs) = plain_texts xs

abbrev path_text : List (List ℕ) → List ℕ
path_text path = value_text (texts path)

-- a path on lines of its own
abbrev path_lines : List (List ℕ) → List ℕ
path_lines path = codes "\n    " ++ (path_text path ++ codes ",")

flat_texts : (xs : List (List ℕ)) → items_depth (items_of (map string xs)) ≡ 0
flat_texts [] = refl
flat_texts (x ∷ xs) = rw (flat_texts xs) refl

flat_paths : (ps : List (List (List ℕ))) → items_depth (items_of (map texts ps)) ≤ 1
flat_paths [] = omega arith
flat_paths (p ∷ ps) = let here = flat_texts p in let more = flat_paths ps in rw here (grind (arith, nat_tests))

dated_texts : (xs : List (List ℕ)) → items_have_valid_dates (items_of (map string xs)) ≡ true
dated_texts [] = refl
dated_texts (x ∷ xs) = dated_texts xs

dated_paths : (ps : List (List (List ℕ))) → items_have_valid_dates (items_of (map texts ps)) ≡ true
dated_paths [] = refl
dated_paths (p ∷ ps) = rw (dated_texts p, dated_paths ps) refl

sorted_texts : (xs : List (List ℕ)) → items_are_sorted (items_of (map string xs)) ≡ true
sorted_texts [] = refl
sorted_texts (x ∷ xs) = sorted_texts xs

sorted_paths : (ps : List (List (List ℕ))) → items_are_sorted (items_of (map texts ps)) ≡ true
sorted_paths [] = refl
sorted_paths (p ∷ ps) = rw (sorted_texts p, sorted_paths ps) refl

shallow : (n : ℕ) → n ≤ 1 → max (suc (max (suc (max 1 (max 0 (max (suc n) 0)))) 3)) 2 ≤ 80
shallow n h = omega (arith, h)

-- ---- a document with two paths and more

abbrev document_text : List (List (List ℕ)) → List ℕ
document_text ps = text_with (codes "[" ++ (flat_map path_lines ps ++ codes "\n]"))

document_read : (ps : List (List (List ℕ))) → 2 ≤ length ps → parse_document (document_text ps) ≡ Some (table_with (with_paths ps))
document_read [] h = absurd (omega (arith, h))
document_read (p ∷ []) h = absurd (omega (arith, h))
document_read (p ∷ q ∷ ps) h =
    let flat = flat_paths (p ∷ q ∷ ps) in
    let dated = dated_paths (p ∷ q ∷ ps) in
    let sorted = sorted_paths (p ∷ q ∷ ps) in
    parse_document-printed true (table_with (with_paths (p ∷ q ∷ ps))) (document_text (p ∷ q ∷ ps))
    (lines_with (paths_data (p ∷ q ∷ ps)) (codes "[" ++ (flat_map path_lines (p ∷ q ∷ ps) ++ codes "\n]")) (array_on_lines texts path_text (λ path. value_printed (texts path) (plain_texts path)) p q ps))
    (shallow (items_depth (items_of (map texts (p ∷ q ∷ ps)))) flat)
    (rw dated refl)
    (rw sorted refl)

-- ---- the made text

quoted_end : (x more last : List ℕ) → x ++ 34 ∷ (more ++ last) ≡ ((x ++ 34 ∷ []) ++ more) ++ last
quoted_end x more last = sym (append_assoc (x ++ 34 ∷ []) more last ∙ append_assoc x (34 ∷ []) (more ++ last))

-- two texts in quotes, an item a line
pair_lines : (b r : List ℕ) → (codes "\n    [\n    \"b" ++ b) ++ ((codes "\",\n    \"r" ++ r) ++ codes "\",\n],")
    ≡ codes "\n    [\n    \"b" ++ (((b ++ 34 ∷ []) ++ (codes ",\n    \"r" ++ ((r ++ 34 ∷ []) ++ codes ",\n]"))) ++ codes ",")
pair_lines b r =
    ap (λ t. codes "\n    [\n    \"b" ++ t)
    (ap (λ t. b ++ (codes "\",\n    \"r" ++ t)) (quoted_end r (codes ",\n]") (codes ","))
    ∙ quoted_end b (codes ",\n    \"r" ++ ((r ++ 34 ∷ []) ++ codes ",\n]")) (codes ","))

branch_lines : (s k : ℕ) → k < 2 ^ 64 → k % (5 * s) < 2 ^ 64 → said.branch_path s k ≡ path_lines (branch_path s k)
branch_lines s k small below =
    let branch = name_text (numbered (codes "b") k) (numbered_plain (codes "b") k refl small) in
    let region = name_text (numbered (codes "r") (k % (5 * s))) (numbered_plain (codes "r") (k % (5 * s)) refl below) in
    append_assoc (numbered (codes "\n    [\n    \"b") k) (numbered (codes "\",\n    \"r") (k % (5 * s))) (codes "\",\n],")
    ∙ pair_lines (decimal k) (decimal (k % (5 * s)))
    ∙ sym (ap (λ t. codes "\n    " ++ ((codes "[\n    " ++ (t ++ (codes ",\n    " ++ (string_text (numbered (codes "r") (k % (5 * s))) ++ codes ",\n]")))) ++ codes ",")) branch
    ∙ ap (λ t. codes "\n    " ++ ((codes "[\n    " ++ ((34 ∷ numbered (codes "b") k ++ 34 ∷ []) ++ (codes ",\n    " ++ (t ++ codes ",\n]")))) ++ codes ",")) region)

pub region_small : (s k : ℕ) → IsSize s → k % (5 * s) < 2 ^ 64
region_small s k size =
    let some = size.0 in
    let few = size.1 in
    let below : k % (5 * s) < 5 * s = mod-lt k (omega (arith, some)) in
    omega (arith, below, few)

branches_lines : (s start n : ℕ) → IsSize s → start + n < 2 ^ 64 → flat_map (said.branch_path s) (count_from start n) ≡ flat_map path_lines (map (branch_path s) (count_from start n))
branches_lines s start zero size small = refl
branches_lines s start (suc n) size small =
    ap (λ t. t ++ flat_map (said.branch_path s) (count_from (suc start) n)) (branch_lines s start (omega (arith, small)) (region_small s start size))
    ∙ ap (λ t. path_lines (branch_path s start) ++ t) (branches_lines s (suc start) n size (omega (arith, small)))

pub length-count_from : (start n : ℕ) → length (count_from start n) ≡ n
length-count_from start zero = refl
length-count_from start (suc n) = ap suc (length-count_from (suc start) n)

pub branches : (s : ℕ) → length (map (branch_path s) (count_from 0 (40 * s))) ≡ 40 * s
branches s = length-map (count_from 0 (40 * s)) (branch_path s) ∙ length-count_from 0 (40 * s)

joined : (paths last : List ℕ) → paths ++ (codes "\n]\n" ++ last) ≡ ((paths ++ codes "\n]") ++ codes "\n") ++ last
joined paths last = sym (append_assoc (paths ++ codes "\n]") (codes "\n") last ∙ append_assoc paths (codes "\n]") (codes "\n" ++ last))

dims_text : (s : ℕ) → IsSize s → made_dims s ≡ document_text (map (branch_path s) (count_from 0 (40 * s)))
unfolding made_dims
dims_text s size =
    let few = size.1 in
    let paths = flat_map path_lines (map (branch_path s) (count_from 0 (40 * s))) in
    ap (λ t. branches_head ++ (t ++ other_tables)) (branches_lines s 0 (40 * s) size (omega (arith, few)))
    ∙ ap (λ t. branches_head ++ (paths ++ t)) others
    ∙ ap (λ t. branches_head ++ t) (joined paths (lines_text true other_lines))

dims_parsed : (s : ℕ) → IsSize s → parse_document (made_dims s) ≡ Some (made_table s)
dims_parsed s size =
    let some = size.0 in
    let many = branches s in
    ap parse_document (dims_text s size) ∙ document_read (map (branch_path s) (count_from 0 (40 * s))) (omega (arith, many, some))

-- ---- in ASCII

abbrev pub are_ascii : List ℕ → Bool
are_ascii bytes = list_all (λ b. nat_lt b 128) bytes

ascii : (bytes : List ℕ) → are_ascii bytes ≡ true → IsAscii bytes
ascii [] h i = omega arith
ascii (b ∷ bytes) h zero = ltb-true b 128 (and_parts (nat_lt b 128) (are_ascii bytes) h).0
ascii (b ∷ bytes) h (suc i) = ascii bytes (and_parts (nat_lt b 128) (are_ascii bytes) h).1 i

pub ascii_utf8 : (bytes : List ℕ) → are_ascii bytes ≡ true → IsUtf8 bytes
ascii_utf8 bytes h = IsUtf8-from_ascii bytes (ascii bytes h)

numbered_utf8 : (word : List ℕ) (n : ℕ) → are_ascii word ≡ true → n < 2 ^ 64 → IsUtf8 (numbered word n)
numbered_utf8 word n h small = IsUtf8-append word (decimal n) (ascii_utf8 word h) (IsUtf8-from_ascii (decimal n) (IsAscii-decimal n small))

branches_utf8 : (s start n : ℕ) → IsSize s → start + n < 2 ^ 64 → IsUtf8 (flat_map (said.branch_path s) (count_from start n))
branches_utf8 s start zero size small = IsUtf8-nil
branches_utf8 s start (suc n) size small =
    IsUtf8-append (said.branch_path s start) (flat_map (said.branch_path s) (count_from (suc start) n))
    (IsUtf8-append (numbered (codes "\n    [\n    \"b") start ++ numbered (codes "\",\n    \"r") (start % (5 * s))) (codes "\",\n],")
    (IsUtf8-append (numbered (codes "\n    [\n    \"b") start) (numbered (codes "\",\n    \"r") (start % (5 * s)))
    (numbered_utf8 (codes "\n    [\n    \"b") start refl (omega (arith, small)))
    (numbered_utf8 (codes "\",\n    \"r") (start % (5 * s)) refl (region_small s start size)))
    (ascii_utf8 (codes "\",\n],") refl))
    (branches_utf8 s (suc start) n size (omega (arith, small)))

others_utf8 : IsUtf8 other_tables
unfolding other_tables
others_utf8 = ascii_utf8 other_tables refl

dims_utf8 : (s : ℕ) → IsSize s → is_utf8 (made_dims s) ≡ true
unfolding made_dims
dims_utf8 s size =
    let few = size.1 in
    is_utf8-from_IsUtf8 (made_dims s)
    (IsUtf8-append (branches_head ++ flat_map (said.branch_path s) (count_from 0 (40 * s))) other_tables
    (IsUtf8-append branches_head (flat_map (said.branch_path s) (count_from 0 (40 * s))) (ascii_utf8 branches_head refl) (branches_utf8 s 0 (40 * s) size (omega (arith, few))))
    others_utf8)

-- the made dimension file is the text of this table
pub dims_parse : (s : ℕ) → IsSize s → toml_of (made_dims s) ≡ Some (made_table s)
unfolding toml_of
dims_parse s size = rw (dims_utf8 s size) (dims_parsed s size)
