-- Tables of TOML, and what is read from them.
use Rattle.std.specs.Prelude.{ℕ, Bool, false, ◌==◌, length, List, [], ◌∷◌, ◌++◌, decimal, if◌then◌else◌, Option, Some, None, option_map, option_and_then, unwrap_or}
use Rattle.std.specs.Str.{is_utf8}
use Rattle.toml.specs.Data.{Data, Items, no_items, item, Members, no_members, member, get_member, as_str, as_array, as_table}
use Rattle.toml.specs.Parse.{parse_document}

-- the table that the bytes are
unfoldable pub toml_of : List ℕ → Option Members
toml_of bytes = if is_utf8 bytes then parse_document bytes else None

-- the value under a key of a table
abbrev pub under : List ℕ → Members → Option Data
under key table = get_member key table

-- the items of an array as a list
abbrev pub items_list : Items → List Data
items_list no_items = []
items_list (item d ds) = d ∷ items_list ds

-- what all items are, where each is of the kind
abbrev pub all_as : {X : Type 0} → (Data → Option X) → List Data → Option (List X)
all_as kind [] = Some []
all_as kind (d ∷ ds) = option_and_then (λ x. option_map (λ xs. x ∷ xs) (all_as kind ds)) (kind d)

-- an array of items of a kind
abbrev pub as_list : {X : Type 0} → (Data → Option X) → Data → Option (List X)
as_list kind d = option_and_then (λ items. all_as kind (items_list items)) (as_array d)

abbrev pub as_texts : Data → Option (List (List ℕ))
as_texts d = as_list as_str d

abbrev pub as_tables : Data → Option (List Members)
as_tables d = as_list as_table d

-- the value is an array without items
abbrev pub is_empty_array : Data → Bool
is_empty_array d = unwrap_or (option_map (λ items. length (items_list items) == 0) (as_array d)) false

-- what the value under a key is, where it is there and of the kind, and else this
abbrev pub value_or : {X : Type 0} → X → (Data → Option X) → Option Data → X
value_or otherwise kind value = unwrap_or (option_and_then kind value) otherwise

-- the items of the array under a key, and the table that an item is
abbrev pub items_at : Option Data → List Data
items_at value = items_list (value_or no_items as_array value)

abbrev pub table_in : Data → Members
table_in d = value_or no_members as_table (Some d)

-- the members of a table as a list, in the order of the bytes of their keys
abbrev pub members_list : Members → List (List ℕ × Data)
members_list no_members = []
members_list (member key d table) = (key, d) ∷ members_list table

-- what all values of a table are with their keys, where each is of the kind
abbrev pub all_named : {X : Type 0} → (Data → Option X) → List (List ℕ × Data) → Option (List (List ℕ × X))
all_named kind [] = Some []
all_named kind (e ∷ es) = option_and_then (λ x. option_map (λ xs. (e.0, x) ∷ xs) (all_named kind es)) (kind e.1)

-- a table of values of a kind
abbrev pub as_named : {X : Type 0} → (Data → Option X) → Data → Option (List (List ℕ × X))
as_named kind d = option_and_then (λ table. all_named kind (members_list table)) (as_table d)

-- the key of a table in a list, counted from 1, of a key of that table, and of an item of the array under it
abbrev pub entry_of : List ℕ → ℕ → List ℕ
entry_of list n = list ++ 32 ∷ decimal n

abbrev pub key_of : List ℕ → List ℕ → List ℕ
key_of entry key = entry ++ 32 ∷ key

abbrev pub item_of : List ℕ → List ℕ → ℕ → List ℕ
item_of entry key n = key_of entry key ++ 32 ∷ decimal n
