-- The words of a fault.
use Rattle.std.specs.Prelude.{ℕ, List, [], ◌++◌, codes, decimal}
use Rattle.cube_model.specs.Limits as limits
use Rattle.cube_model.specs.declared.limit.LimitKind.{LimitKind}
use Rattle.cube_model.specs.declared.limit.LimitKind.TheVariants as limit
use Rattle.cube_dims.specs.Words as dims
use Rattle.cube_facts.specs.Words as facts
use Rattle.cube_policy.specs.Words as policy
use Rattle.cube_draft.specs.declared.fault.DraftFault.{DraftFault}
use Rattle.cube_draft.specs.declared.fault.DraftFault.TheVariants as fault

-- what may be done about it
abbrev pub advice : LimitKind → List ℕ
advice limit.Cuboids = codes ", fewer upper levels would do"
advice limit.Dimensions = []
advice limit.Measures = []
advice limit.Levels = []
advice limit.Leaves = []
advice limit.Decimals = []
advice limit.Objects = []
advice limit.Facts = []
advice limit.Points = []
advice limit.File = []

abbrev pub limit_words : LimitKind → ℕ → List ℕ
limit_words which number = limits.limit_words which number ++ advice which

abbrev pub fault_words : DraftFault → List ℕ
fault_words fault.NoRecord = codes "no record"
fault_words fault.NoDimension = codes "no dimension column"
fault_words fault.NoMeasure = codes "no measure column"
fault_words (fault.Columns number) = codes "limit columns " ++ decimal number
fault_words (fault.BadColumn number) = codes "bad name column " ++ decimal number
fault_words (fault.ColumnTwice name) = codes "column " ++ name ++ codes " twice"
fault_words (fault.UnknownColumn name) = codes "missing column " ++ name
fault_words (fault.StatedTwice name) = codes "column " ++ name ++ codes " stated twice"
fault_words (fault.BadMember row column) = codes "row " ++ decimal row ++ codes " column " ++ column ++ codes ": bad name"
fault_words (fault.TwoParents column) = codes "two parents column " ++ column
fault_words (fault.Leaves column) = codes "limit leaves 65536 column " ++ column
fault_words (fault.Limit which number) = limit_words which number
fault_words (fault.Facts fault) = facts.fault_words fault
fault_words (fault.Dims fault) = codes "dims: " ++ dims.fault_words fault
fault_words (fault.Policy fault) = codes "policy: " ++ policy.fault_words fault
fault_words fault.Untrue = codes "untrue"
fault_words fault.NoMemory = codes "no memory"
