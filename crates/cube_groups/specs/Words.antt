-- The words of a fault.
use Rattle.std.specs.Prelude.{ℕ, List, ◌++◌, codes, decimal}
use Rattle.cube_groups.specs.declared.fault.GroupsFault.{GroupsFault}
use Rattle.cube_groups.specs.declared.fault.GroupsFault.TheVariants as fault

abbrev pub limit_words : ℕ → List ℕ
limit_words number = codes "limit groups " ++ decimal number

abbrev pub fault_words : GroupsFault → List ℕ
fault_words fault.NotToml = codes "not toml"
fault_words (fault.Missing key) = codes "missing " ++ key
fault_words (fault.WrongKind key) = codes "wrong kind " ++ key
fault_words (fault.BadName key) = codes "bad name " ++ key
fault_words (fault.NameTwice key) = codes "name twice " ++ key
fault_words (fault.Limit number) = limit_words number
fault_words fault.NoMemory = codes "no memory"
