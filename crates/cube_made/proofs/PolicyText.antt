-- The made policy is the text of a table.
use Rattle.std.proofs.Common.{◌≡◌, ℕ, true, List, [], ◌∷◌, map, codes, Some, refl}
use Rattle.std.specs.Str.{is_utf8}
use Rattle.std.proofs.lemmas.Str.{is_utf8-from_IsUtf8}
use Rattle.toml.specs.Data.{string, array, table, Members, no_members, member}
use Rattle.toml.specs.Parse.{parse_document}
use Rattle.toml.proofs.OnLiterals.{toml_on_literals}
use Rattle.cube_tables.specs.Tables.{toml_of}
use Rattle.cube_gen.specs.Tables.{made_policy}
use Rattle.cube_made.proofs.Printed.{items_of, texts}
use Rattle.cube_made.proofs.DimsText.{ascii_utf8}

abbrev pub method_table : List ℕ → List ℕ → Members
method_table name method = member (codes "method") (string method) (member (codes "name") (string name) no_members)

abbrev pub below_table : Members
below_table = member (codes "branch") (string (codes "branch")) (member (codes "grade") (string (codes "grade")) (member (codes "month") (string (codes "month")) no_members))

abbrev pub slice_table : Members
slice_table = member (codes "grade") (table (member (codes "level") (string (codes "grade")) (member (codes "members") (texts (codes "g5" ∷ [])) no_members))) no_members

abbrev pub object_table : Members
object_table = member (codes "below") (table below_table) (member (codes "measure") (string (codes "pay")) (member (codes "slice") (table slice_table) no_members))

abbrev pub policy_table : Members
policy_table =
    member (codes "measure") (array (items_of (map table (method_table (codes "pay") (codes "lattice") ∷ method_table (codes "hours") (codes "parity") ∷ method_table (codes "bonus") (codes "open") ∷ []))))
    (member (codes "object") (array (items_of (table object_table ∷ []))) no_members)

policy_parsed : parse_document made_policy ≡ Some policy_table
unfolding toml_on_literals made_policy
policy_parsed = refl

policy_utf8 : is_utf8 made_policy ≡ true
unfolding made_policy
policy_utf8 = is_utf8-from_IsUtf8 made_policy (ascii_utf8 made_policy refl)

-- the made policy is the text of this table
pub policy_parse : toml_of made_policy ≡ Some policy_table
unfolding toml_of
policy_parse = rw policy_utf8 policy_parsed
