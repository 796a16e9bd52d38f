-- How names are written: bare or in quotes in queries, and as fields of CSV.
use Rattle.std.specs.Prelude.{◌≡◌, ◌⊎◌, ◌↔◌, ℕ, Bool, true, false, ◌&&◌, ◌||◌, ◌==◌, nat_le, List, [], ◌∷◌, ◌++◌, length, map, if◌then◌else◌, Option, Some, None, option_map}
use Rattle.std.specs.List.{list_all, list_any, flat_map, join_with_byte}
use Rattle.std.specs.Char.{is_ascii_digit}
use Rattle.cube_model.specs.Names.{is_control}

abbrev pub is_letter : ℕ → Bool
is_letter b = (nat_le 65 b && nat_le b 90) || (nat_le 97 b && nat_le b 122)

-- a byte of a name without quotes
unfoldable pub is_bare : ℕ → Bool
is_bare b = is_letter b || is_ascii_digit b || b == 95 || b == 45

-- there are some bytes, and all are bare
abbrev pub is_bare_name : List ℕ → Bool
is_bare_name x = nat_le 1 (length x) && list_all is_bare x

-- a double quote or a backslash
abbrev pub is_marked : ℕ → Bool
is_marked b = b == 34 || b == 92

-- a byte between quotes
abbrev pub spelled : ℕ → List ℕ
spelled b = if is_marked b then 92 ∷ b ∷ [] else b ∷ []

-- a name in quotes
abbrev pub quoted : List ℕ → List ℕ
quoted x = 34 ∷ flat_map spelled x ++ 34 ∷ []

-- a name as queries and replies print it: in quotes only where it needs them
abbrev pub printed : List ℕ → List ℕ
printed x = if is_bare_name x then x else quoted x

-- the text is a name of the query language, and this is the name
abbrev pub IsNameText : List ℕ → List ℕ → Type 0
IsNameText text x = ((is_bare_name x ≡ true) × (text ≡ x)) ⊎ ((list_any is_control x ≡ false) × (text ≡ quoted x))

abbrev pub onto : ℕ → Option (List ℕ) → Option (List ℕ)
onto b x = option_map (λ bs. b ∷ bs) x

abbrev pub ending : List ℕ → Option (List ℕ)
ending [] = Some []
ending (b ∷ rest) = None

-- what stands before the closing quote, which ends the text; behind a backslash, or not
abbrev pub unspelled : Bool → List ℕ → Option (List ℕ)
unspelled marked [] = None
unspelled true (b ∷ rest) = if is_marked b then onto b (unspelled false rest) else None
unspelled false (b ∷ rest) =
    if b == 34 then ending rest
    else if b == 92 then unspelled true rest
    else if is_control b then None
    else onto b (unspelled false rest)

-- the name that a text is
unfoldable pub unquoted : List ℕ → Option (List ℕ)
unquoted [] = None
unquoted (b ∷ rest) = if b == 34 then unspelled false rest else if is_bare_name (b ∷ rest) then Some (b ∷ rest) else None

abbrev pub is_quoted : List ℕ → Bool
is_quoted [] = false
is_quoted (b ∷ rest) = b == 34

-- what stands behind an opening quote
abbrev pub inside : List ℕ → List ℕ
inside [] = []
inside (b ∷ rest) = if b == 34 then rest else b ∷ rest

-- reading behind an opening quote: the name once its closing quote came, and what is left of the text; where no byte of
-- a name in quotes comes next, no name and what is left from there. `marked` is true right behind a backslash
abbrev pub closing : Bool → List ℕ → List ℕ → Option (List ℕ) × List ℕ
closing marked name [] = (None, [])
closing true name (b ∷ rest) = if is_marked b then closing false (name ++ b ∷ []) rest else (None, b ∷ rest)
closing false name (b ∷ rest) =
    if b == 34 then (Some name, rest)
    else if b == 92 then closing true name rest
    else if is_control b then (None, b ∷ rest)
    else closing false (name ++ b ∷ []) rest

-- the name that was read, where nothing stands behind it
abbrev pub whole_name : Option (List ℕ) × List ℕ → Option (List ℕ)
whole_name (None, rest) = None
whole_name (Some x, []) = Some x
whole_name (Some x, b ∷ rest) = None

-- a byte for which a field of CSV stands in quotes
abbrev pub needs_quotes : ℕ → Bool
needs_quotes b = b == 44 || b == 34 || b == 13 || b == 10

abbrev pub doubled : ℕ → List ℕ
doubled b = if b == 34 then 34 ∷ 34 ∷ [] else b ∷ []

-- a field of CSV
abbrev pub field : List ℕ → List ℕ
field x = if list_any needs_quotes x then 34 ∷ flat_map doubled x ++ 34 ∷ [] else x

-- a line of CSV
abbrev pub csv_line : List (List ℕ) → List ℕ
csv_line fields = join_with_byte 44 (map field fields) ++ 10 ∷ []

-- a text reads as a name exactly where it is that name bare, or that name in quotes
abbrev pub NameTexts : Type 0
NameTexts = (text x : List ℕ) → (unquoted text ≡ Some x) ↔ IsNameText text x

-- a name without control bytes reads back, printed or in quotes
abbrev pub NamesRead : Type 0
NamesRead = (x : List ℕ) → list_any is_control x ≡ false → (unquoted (printed x) ≡ Some x) × (unquoted (quoted x) ≡ Some x)
