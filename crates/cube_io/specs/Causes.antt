-- Counts of faults, which never fall, and what a call that fails says of them.
use Rattle.std.specs.Prelude.{◌≡◌, ℕ, ◌+◌, ◌-◌, ◌^◌, ◌≤◌, min, List, Ok, Err, Result, OnOk, OnErr}
use Rattle.cube_io.specs.declared.faults.ReadFault.{ReadFault}
use Rattle.cube_io.specs.declared.faults.ReadFault.TheVariants.{Failed, TooLong, NoMemory}

-- the count rose by so many or more between these two, up to the end of its type, where it stays
abbrev pub RoseBy : ℕ → ℕ → ℕ → Type 0
RoseBy many before now = min (before + many) (2 ^ 64 - 1) ≤ now

-- it rose
abbrev pub Rose : ℕ → ℕ → Type 0
Rose before now = RoseBy 1 before now

-- a call that failed was counted, and one that went well left the count as it was
pub record HasCause {T E : Type 0} (before now : ℕ) (result : Result T E) : Type 0 where
  pub later : before ≤ now
  pub steady : OnOk result (now ≡ before)
  pub failed : OnErr result (Rose before now)

-- a read of a file or of a log: `Failed` comes only with a counted fault, and nothing else counts one
abbrev pub ReadCause : ℕ → ℕ → Result (List ℕ) ReadFault → Type 0
ReadCause before now (Ok text) = now ≡ before
ReadCause before now (Err TooLong) = now ≡ before
ReadCause before now (Err NoMemory) = now ≡ before
ReadCause before now (Err Failed) = (before ≤ now) × Rose before now
