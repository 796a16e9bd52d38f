-- TOML as it is printed: a value of texts and numbers, lines of such values, an array with an item a line, and the text of a name.
use Rattle.std.proofs.Common.{◌≡◌, ℕ, ◌^◌, ◌<◌, ◌==◌, ◌&&◌, ◌∙◌, Bool, true, false, List, [], ◌∷◌, ◌++◌, map, codes, refl, ap, arith, append_assoc}
use Rattle.std.specs.Prelude.{pos, negsuc, nat_le, decimal}
use Rattle.std.specs.Char.{is_ascii_alphanumeric}
use Rattle.std.specs.Fmt.{signed_decimal}
use Rattle.std.specs.List.{flat_map, list_all, list_any}
use Rattle.std.specs.Str.Parse.{AllDigits}
use Rattle.std.proofs.lemmas.Bool.{and_parts, false≢true, leb-true}
use Rattle.std.proofs.lemmas.Bool.Decides.{nat_tests}
use Rattle.std.proofs.lemmas.Fmt.{decimal_is_IsNumeral}
use Rattle.std.proofs.lemmas.List.Folds.{list_all-append}
use Rattle.std.proofs.lemmas.Str.Parse.{digit_from_value}
use Rattle.toml_writer.specs.Text.{is_control, needs_escape, quotes_after, escaped, encoding_of, string_text, dotted_text}
use Rattle.toml.specs.Data.{Data, string, integer, float, boolean, datetime, array, table, Items, no_items, item}
use Rattle.toml.specs.Tables.{Expression, key_value, array_table, std_table}
use Rattle.toml.specs.Text.{IsValueText, IsItemsText, IsLinesText, breaks_lines, before_item, after_item, array_end, gap, header_open, header_close}
use Rattle.cube_gen.specs.Made.{numbered}

abbrev pub items_of : List Data → Items
items_of [] = no_items
items_of (d ∷ ds) = item d (items_of ds)

-- an array of texts
abbrev pub texts : List (List ℕ) → Data
texts xs = array (items_of (map string xs))

-- ---- a value of texts and numbers

abbrev mutual
  pub value_text : Data → List ℕ
  value_text (string s) = string_text s
  value_text (integer z) = signed_decimal z
  value_text (array ds) = codes "[" ++ items_text (breaks_lines true ds) true ds
  value_text _ = []

  pub items_text : Bool → Bool → Items → List ℕ
  items_text lines is_first no_items = array_end lines
  items_text lines is_first (item d ds) = before_item lines is_first ++ (value_text d ++ (after_item lines ++ items_text lines false ds))

-- it has no other values, and its numbers are small
abbrev mutual
  pub is_plain : Data → Bool
  is_plain (string s) = true
  is_plain (integer (pos n)) = nat_le n 6
  is_plain (array ds) = are_plain ds
  is_plain _ = false

  pub are_plain : Items → Bool
  are_plain no_items = true
  are_plain (item d ds) = is_plain d && are_plain ds

mutual
  pub value_printed : (d : Data) → is_plain d ≡ true → IsValueText true d (value_text d)
  value_printed (string s) h = refl
  value_printed (integer (pos n)) h = (refl, let small = leb-true n 6 h in record { sfits = omega (arith, small) })
  value_printed (integer (negsuc n)) h = absurd (false≢true h)
  value_printed (array ds) h = (items_text (breaks_lines true ds) true ds, refl, items_printed (breaks_lines true ds) true ds h)
  value_printed (float x) h = absurd (false≢true h)
  value_printed (boolean x) h = absurd (false≢true h)
  value_printed (datetime x) h = absurd (false≢true h)
  value_printed (table x) h = absurd (false≢true h)

  items_printed : (lines is_first : Bool) (ds : Items) → are_plain ds ≡ true → IsItemsText true lines is_first ds (items_text lines is_first ds)
  items_printed lines is_first no_items h = refl
  items_printed lines is_first (item d ds) h =
      let (here, more) = and_parts (is_plain d) (are_plain ds) h in
      (value_text d, items_text lines false ds, refl, value_printed d here, items_printed lines false ds more)

-- ---- lines

abbrev pub line_text : Bool → Expression → List ℕ
line_text started (key, key_value d) = dotted_text key ++ (codes " = " ++ (value_text d ++ 10 ∷ []))
line_text started (key, std_table) = gap started ++ (header_open false ++ (dotted_text key ++ header_close false))
line_text started (key, array_table) = gap started ++ (header_open true ++ (dotted_text key ++ header_close true))

abbrev pub lines_text : Bool → List Expression → List ℕ
lines_text started [] = []
lines_text started (e ∷ es) = line_text started e ++ lines_text true es

abbrev pub are_plain_lines : List Expression → Bool
are_plain_lines [] = true
are_plain_lines ((key, key_value d) ∷ es) = is_plain d && are_plain_lines es
are_plain_lines ((key, std_table) ∷ es) = are_plain_lines es
are_plain_lines ((key, array_table) ∷ es) = are_plain_lines es

pub lines_printed : (started : Bool) (es : List Expression) → are_plain_lines es ≡ true → IsLinesText true started es (lines_text started es)
lines_printed started [] h = refl
lines_printed started ((key, key_value d) ∷ es) h =
    let (here, more) = and_parts (is_plain d) (are_plain_lines es) h in
    (line_text started (key, key_value d), lines_text true es, refl, (value_text d, refl, value_printed d here), lines_printed true es more)
lines_printed started ((key, std_table) ∷ es) h = (line_text started (key, std_table), lines_text true es, refl, refl, lines_printed true es h)
lines_printed started ((key, array_table) ∷ es) h = (line_text started (key, array_table), lines_text true es, refl, refl, lines_printed true es h)

-- ---- an array with an item a line

module _ {X : Type 0} (f : X → Data) (text : X → List ℕ) (printed : (x : X) → IsValueText true (f x) (text x)) where
  abbrev item_text : X → List ℕ
  item_text x = codes "\n    " ++ (text x ++ codes ",")

  on_lines : (is_first : Bool) (xs : List X) → IsItemsText true true is_first (items_of (map f xs)) (flat_map item_text xs ++ codes "\n]")
  on_lines is_first [] = refl
  on_lines is_first (x ∷ xs) =
      let rest = flat_map item_text xs ++ codes "\n]" in
      let whole : flat_map item_text (x ∷ xs) ++ codes "\n]" ≡ codes "\n    " ++ (text x ++ (codes "," ++ rest)) = append_assoc (item_text x) (flat_map item_text xs) (codes "\n]") ∙ ap (λ t. codes "\n    " ++ t) (append_assoc (text x) (codes ",") rest) in
      (text x, rest, whole, printed x, on_lines false xs)

  pub array_on_lines : (x y : X) (xs : List X) → IsValueText true (array (items_of (map f (x ∷ y ∷ xs)))) (codes "[" ++ (flat_map item_text (x ∷ y ∷ xs) ++ codes "\n]"))
  array_on_lines x y xs = (flat_map item_text (x ∷ y ∷ xs) ++ codes "\n]", refl, on_lines true (x ∷ y ∷ xs))

-- ---- a name of letters and digits

kept : (c : ℕ) → is_ascii_alphanumeric c ≡ true → needs_escape false 0 c ≡ false
unfolding needs_escape
kept c h = grind (arith, nat_tests)

after_kept : (c : ℕ) → is_ascii_alphanumeric c ≡ true → quotes_after false 0 c ≡ 0
unfolding quotes_after needs_escape
after_kept c h = grind (arith, nat_tests)

no_escapes : (s : List ℕ) → list_all is_ascii_alphanumeric s ≡ true → escaped false 0 s ≡ s
unfolding escaped
no_escapes [] h = refl
no_escapes (c ∷ cs) h =
    let (here, more) = and_parts (is_ascii_alphanumeric c) (list_all is_ascii_alphanumeric cs) h in
    rw (kept c here, after_kept c here, no_escapes cs more) refl

-- it has no byte of another kind
pub lacks : (p : ℕ → Bool) → ((c : ℕ) → is_ascii_alphanumeric c ≡ true → p c ≡ false) → (s : List ℕ) → list_all is_ascii_alphanumeric s ≡ true → list_any p s ≡ false
lacks p other [] h = refl
lacks p other (c ∷ cs) h =
    let (here, more) = and_parts (is_ascii_alphanumeric c) (list_all is_ascii_alphanumeric cs) h in
    rw (other c here, lacks p other cs more) refl

pub name_text : (s : List ℕ) → list_all is_ascii_alphanumeric s ≡ true → string_text s ≡ 34 ∷ s ++ 34 ∷ []
unfolding string_text encoding_of
name_text s h =
    let no_control = lacks is_control (λ c k. grind (arith, nat_tests)) s h in
    let no_backslash = lacks (λ c. c == 92) (λ c k. grind (arith, nat_tests)) s h in
    let no_quote = lacks (λ c. c == 34) (λ c k. grind (arith, nat_tests)) s h in
    let no_feed = lacks (λ c. c == 10) (λ c k. grind (arith, nat_tests)) s h in
    rw (no_control, no_backslash, no_quote, no_feed, no_escapes s h) refl

all_digits : (ds : List ℕ) → AllDigits 10 ds → list_all is_ascii_alphanumeric ds ≡ true
all_digits [] h = refl
all_digits (c ∷ cs) h =
    let value = digit_from_value c h.0 in
    let here : is_ascii_alphanumeric c ≡ true = grind (arith, nat_tests) in
    rw (here, all_digits cs h.1) refl

pub numbered_plain : (word : List ℕ) (n : ℕ) → list_all is_ascii_alphanumeric word ≡ true → n < 2 ^ 64 → list_all is_ascii_alphanumeric (numbered word n) ≡ true
numbered_plain word n a b = list_all-append is_ascii_alphanumeric word (decimal n) ∙ rw (a, all_digits (decimal n) (decimal_is_IsNumeral n b).0.1) refl
