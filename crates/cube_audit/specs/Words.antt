-- The words of a fault.
use Rattle.std.specs.Prelude.{ℕ, List, ◌++◌, codes, decimal}
use Rattle.cube_audit.specs.declared.transcript.TranscriptFault.{TranscriptFault}
use Rattle.cube_audit.specs.declared.transcript.TranscriptFault.TheVariants as fault

abbrev pub fault_words : TranscriptFault → List ℕ
fault_words fault.NotJson = codes "not json"
fault_words fault.NotArray = codes "not an array"
fault_words fault.Limit = codes "limit items 65536"
fault_words (fault.Item n) = codes "item " ++ decimal n
fault_words fault.NoMemory = codes "no memory"
