-- Why a journal was not opened, by its bytes and by the store.
use Rattle.std.specs.Prelude.{◌≡◌, ⊤, ℕ, ◌^◌, ◌<◌, ◌≤◌, List, length, Ok, Err}
use Rattle.std.specs.declared.result.Result.{Result}
use Rattle.cube_model.specs.declared.entry.Entry.{Entry}
use Rattle.cube_io.specs.Causes.{Rose}
use Rattle.cube_io.specs.declared.faults.ReadFault.{ReadFault}
use Rattle.cube_io.specs.declared.faults.ReadFault.TheVariants as store
use Rattle.cube_journal.specs.declared.fault.JournalFault.{JournalFault}
use Rattle.cube_journal.specs.declared.fault.JournalFault.TheVariants as journal
use Rattle.cube_journal.specs.declared.fault.OpenFault.{OpenFault}
use Rattle.cube_journal.specs.declared.fault.OpenFault.TheVariants.{Failed, TooLong, Damaged, OtherCube, NoMemory}

abbrev pub of_store : ReadFault → OpenFault
of_store store.Failed = Failed
of_store store.TooLong = TooLong
of_store store.NoMemory = NoMemory

abbrev pub of_journal : JournalFault → OpenFault
of_journal (journal.Damaged line) = Damaged line
of_journal (journal.OtherCube kept now) = OtherCube kept now
of_journal journal.NoMemory = NoMemory

-- `Failed` comes only with a counted fault, and nothing else counts one
abbrev pub OpenCause : {T : Type 0} → ℕ → ℕ → Result T OpenFault → Type 0
OpenCause before now (Ok opened) = now ≡ before
OpenCause before now (Err Failed) = (before ≤ now) × Rose before now
OpenCause before now (Err TooLong) = now ≡ before
OpenCause before now (Err (Damaged line)) = now ≡ before
OpenCause before now (Err (OtherCube kept here)) = now ≡ before
OpenCause before now (Err NoMemory) = now ≡ before

-- A fault by the bytes of the log, given what they recover: too long a log, or their first fault.
abbrev pub IsFaultOf : Result (List Entry) JournalFault → List ℕ → OpenFault → Type 0
IsFaultOf said bytes Failed = ⊤
IsFaultOf said bytes TooLong = 2 ^ 28 < length bytes
IsFaultOf said bytes (Damaged line) = (length bytes ≤ 2 ^ 28) × (said ≡ Err (journal.Damaged line))
IsFaultOf said bytes (OtherCube kept now) = (length bytes ≤ 2 ^ 28) × (said ≡ Err (journal.OtherCube kept now))
IsFaultOf said bytes NoMemory = ⊤
