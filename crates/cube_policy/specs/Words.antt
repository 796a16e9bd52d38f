-- The words of a fault.
use Rattle.std.specs.Prelude.{ℕ, List, ◌++◌, codes, decimal}
use Rattle.cube_model.specs.Limits.{limit_words}
use Rattle.cube_policy.specs.declared.fault.PolicyFault.{PolicyFault}
use Rattle.cube_policy.specs.declared.fault.PolicyFault.TheVariants as fault

abbrev pub fault_words : PolicyFault → List ℕ
fault_words fault.NotToml = codes "not toml"
fault_words (fault.Missing key) = codes "missing " ++ key
fault_words (fault.WrongKind key) = codes "wrong kind " ++ key
fault_words (fault.Unknown key) = codes "unknown " ++ key
fault_words (fault.MeasureTwice key) = codes "measure twice " ++ key
fault_words (fault.ObjectOnMethod key) = codes "object on method " ++ key
fault_words (fault.OutOfRange key most) = codes "limit " ++ key ++ codes " " ++ decimal most
fault_words (fault.Limit which number) = limit_words which number
fault_words fault.NoMemory = codes "no memory"
