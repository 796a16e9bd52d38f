-- The words of a fault.
use Rattle.std.specs.Prelude.{ℕ, List, ◌++◌, codes}
use Rattle.cube_model.specs.Limits.{limit_words}
use Rattle.cube_dims.specs.declared.fault.DimsFault.{DimsFault}
use Rattle.cube_dims.specs.declared.fault.DimsFault.TheVariants as fault

abbrev pub fault_words : DimsFault → List ℕ
fault_words fault.NotToml = codes "not toml"
fault_words (fault.Missing key) = codes "missing " ++ key
fault_words (fault.WrongKind key) = codes "wrong kind " ++ key
fault_words (fault.BadName key) = codes "bad name " ++ key
fault_words (fault.NameTwice key) = codes "name twice " ++ key
fault_words (fault.LeafTwice key) = codes "leaf twice " ++ key
fault_words (fault.TwoParents key) = codes "two parents " ++ key
fault_words (fault.Uneven key) = codes "uneven " ++ key
fault_words (fault.Limit which number) = limit_words which number
fault_words fault.NoMemory = codes "no memory"
