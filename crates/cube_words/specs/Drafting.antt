-- The words behind `draft`: a fact file, `--policy` alone, and any number of dimensions, of columns with members and of columns that are
-- left out.
use Rattle.std.specs.Prelude.{ℕ, ◌+◌, ◌==◌, Bool, true, false, not, ◌||◌, ◌&&◌, is_none, List, [], ◌∷◌, ◌++◌, codes, if◌then◌else◌, Option, Some, None, Result, Ok, Err}
use Rattle.std.specs.List.{before_first, after_first, slice_split, list_any}
use Rattle.std.specs.Str.{bytes_eq}
use Rattle.cube_draft.specs.declared.choices.Stated.{Stated}
use Rattle.cube_words.specs.declared.drafting.Begun.{Begun}
use Rattle.cube_words.specs.declared.ordered.Orders.{Orders}
use Rattle.cube_words.specs.declared.ordered.Orders.TheVariants as orders
use Rattle.cube_words.specs.declared.words.Setting.TheVariants.{Facts}
use Rattle.cube_words.specs.declared.words.Usage.{Usage}
use Rattle.cube_words.specs.declared.words.Usage.TheVariants.{Wrong, Missing}

-- before any word
abbrev pub nothing : Begun
nothing = record { facts = None; policy = false; choices = record { dimensions = []; members = []; skipped = [] } }

-- `--policy`, where it has not stood before
abbrev pub is_flag : Begun → List ℕ → Bool
is_flag b word = bytes_eq word (codes "--policy") && not b.policy

-- an option that may stand behind these words
abbrev pub is_free : Begun → List ℕ → Bool
is_free b word = bytes_eq word (codes "--levels") || bytes_eq word (codes "--members") || bytes_eq word (codes "--skip") || (bytes_eq word (codes "--facts") && is_none b.facts)

abbrev pub is_sign : ℕ → Bool
is_sign byte = byte == 61

abbrev pub is_comma : ℕ → Bool
is_comma byte = byte == 44

-- a dimension that is stated without an equals sign
abbrev pub is_wrong_value : List ℕ → List ℕ → Bool
is_wrong_value word value = bytes_eq word (codes "--levels") && not (list_any is_sign value)

-- a name, the equals sign, and columns between commas
abbrev pub stated_in : List ℕ → Stated
stated_in value = record { name = before_first is_sign value; columns = slice_split is_comma (after_first is_sign value) }

-- what is said with this option and its value more
abbrev pub added : Begun → List ℕ → List ℕ → Begun
added b word value =
    if bytes_eq word (codes "--levels") then record { facts = b.facts; policy = b.policy; choices = record { dimensions = b.choices.dimensions ++ stated_in value ∷ []; members = b.choices.members; skipped = b.choices.skipped } }
    else if bytes_eq word (codes "--members") then record { facts = b.facts; policy = b.policy; choices = record { dimensions = b.choices.dimensions; members = b.choices.members ++ value ∷ []; skipped = b.choices.skipped } }
    else if bytes_eq word (codes "--skip") then record { facts = b.facts; policy = b.policy; choices = record { dimensions = b.choices.dimensions; members = b.choices.members; skipped = b.choices.skipped ++ value ∷ [] } }
    else record { facts = Some value; policy = b.policy; choices = b.choices }

abbrev pub flagged : Begun → Begun
flagged b = record { facts = b.facts; policy = true; choices = b.choices }

-- What these words say behind what was said before, the first of them being word `at`; or the number of the first wrong one: no option
-- that may stand there, one without a value, or a wrong value.
abbrev pub said_from : Begun → ℕ → List (List ℕ) → Result Begun ℕ
said_from b at [] = Ok b
said_from b at (word ∷ []) = if is_flag b word then Ok (flagged b) else Err at
said_from b at (word ∷ value ∷ more) =
    if is_flag b word then said_from (flagged b) (at + 1) (value ∷ more)
    else if not (is_free b word) then Err at
    else if is_wrong_value word value then Err (at + 1)
    else said_from (added b word value) (at + 2) more

abbrev pub with_facts : Begun → Option (List ℕ) → Result Orders Usage
with_facts b None = Err (Missing Facts)
with_facts b (Some facts) = Ok (orders.Draft (record { facts = facts; policy = b.policy; choices = b.choices }))

abbrev pub unless_wrong : Result Begun ℕ → Result Orders Usage
unless_wrong (Ok b) = with_facts b b.facts
unless_wrong (Err number) = Err (Wrong number)

-- what the words behind `draft` order, or what is wrong with them
abbrev pub drafted : List (List ℕ) → Result Orders Usage
drafted words = unless_wrong (said_from nothing 1 words)
