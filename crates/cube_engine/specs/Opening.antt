-- Why a book did not start, by the bytes of its log and by the store.
use Rattle.std.specs.Prelude.{◌≡◌, ⊤, ℕ, ◌^◌, ◌<◌, ◌≤◌, List, length, Ok, Err}
use Rattle.std.specs.declared.result.Result.{Result}
use Rattle.cube_model.specs.declared.entry.Entry.{Entry}
use Rattle.cube_io.specs.Causes.{Rose}
use Rattle.cube_journal.specs.declared.fault.OpenFault.{OpenFault}
use Rattle.cube_journal.specs.declared.fault.OpenFault.TheVariants as opened
use Rattle.cube_engine.specs.declared.fault.StartFault.{StartFault}
use Rattle.cube_engine.specs.declared.fault.StartFault.TheVariants.{Failed, TooLong, Damaged, OtherCube, Inadmissible, NoMemory}

abbrev pub of_open : OpenFault → StartFault
of_open opened.Failed = Failed
of_open opened.TooLong = TooLong
of_open (opened.Damaged line) = Damaged line
of_open (opened.OtherCube kept now) = OtherCube kept now
of_open opened.NoMemory = NoMemory

-- `Failed` comes only with a counted fault, and nothing else counts one
abbrev pub StartCause : {T : Type 0} → ℕ → ℕ → Result T StartFault → Type 0
StartCause before now (Ok started) = now ≡ before
StartCause before now (Err Failed) = (before ≤ now) × Rose before now
StartCause before now (Err TooLong) = now ≡ before
StartCause before now (Err (Damaged line)) = now ≡ before
StartCause before now (Err (OtherCube kept here)) = now ≡ before
StartCause before now (Err (Inadmissible line)) = now ≡ before
StartCause before now (Err NoMemory) = now ≡ before

-- A fault by the bytes of the log, given what they recover: too long a log, or their first fault.
abbrev pub IsStartFault : Result (List Entry) StartFault → List ℕ → StartFault → Type 0
IsStartFault said bytes Failed = ⊤
IsStartFault said bytes TooLong = 2 ^ 28 < length bytes
IsStartFault said bytes (Damaged line) = (length bytes ≤ 2 ^ 28) × (said ≡ Err (Damaged line))
IsStartFault said bytes (OtherCube kept now) = (length bytes ≤ 2 ^ 28) × (said ≡ Err (OtherCube kept now))
IsStartFault said bytes (Inadmissible line) = (length bytes ≤ 2 ^ 28) × (said ≡ Err (Inadmissible line))
IsStartFault said bytes NoMemory = ⊤
