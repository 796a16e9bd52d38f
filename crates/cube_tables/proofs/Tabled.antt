-- The tables of an array, item by item.
use Rattle.std.proofs.Common.{◌≡◌, ℕ, ◌<◌, List, length, get_or, map, sym, ap, ◌∙◌, arith}
use Rattle.std.specs.Prelude.{Some, unwrap_or}
use Rattle.std.proofs.lemmas.List.{length-map, get_or-map}
use Rattle.toml.specs.Data.{Data, Members, no_members, as_table}
use Rattle.cube_tables.specs.Tables.{table_in}

-- the table that an item was read as is that of its place
pub table_read : {V : Type 0} (seen : V → Data) (items : List V) (i : ℕ) (item : V) (table : Members) → i < length items → item ≡ get_or items i item → Some table ≡ as_table (seen item) → get_or (map table_in (map seen items)) i no_members ≡ table
table_read seen items i item table l at is =
    get_or-map table_in (map seen items) i (seen item) no_members (let k = length-map items seen in omega (arith, k, l))
    ∙ ap table_in (get_or-map seen items i item (seen item) l ∙ ap seen (sym at))
    ∙ sym (ap (λ o. unwrap_or o no_members) is)

pub length-tables : {V : Type 0} (seen : V → Data) (items : List V) → length (map table_in (map seen items)) ≡ length items
length-tables seen items = length-map (map seen items) table_in ∙ length-map items seen
