-- The seal of values: its line, what the bytes of its log say, and what a crash may leave of them.
use Rattle.std.specs.Prelude.{◌≡◌, ◌≢◌, ◌⊎◌, ⊤, ℕ, ◌-◌, ◌≤◌, Bool, not, ◌&&◌, ◌==◌, nat_le, List, [], ◌∷◌, ◌++◌, length, take, drop, codes, if◌then◌else◌, Ok, Err}
use Rattle.std.specs.declared.result.Result.{Result}
use Rattle.std.specs.List.{list_all}
use Rattle.std.specs.Str.{bytes_eq}
use Rattle.cube_io.specs.Causes.{Rose}
use Rattle.cube_io.specs.States.{State, IsImage}
use Rattle.cube_io.specs.declared.faults.ReadFault.{ReadFault}
use Rattle.cube_io.specs.declared.store.TheConstants.{SEAL_LOG}
use Rattle.cube_io.specs.declared.faults.ReadFault.TheVariants as store
use Rattle.cube_journal.specs.Digests.{is_digest}
use Rattle.cube_seal.specs.declared.fault.SealFault.{SealFault}
use Rattle.cube_seal.specs.declared.fault.SealFault.TheVariants.{Failed, NoMemory, Damaged, OtherValues}
use Rattle.cube_seal.specs.declared.reading.Said.{Said}
use Rattle.cube_seal.specs.declared.reading.Said.TheVariants as said

-- ---- the log, the line of a seal, and what bytes say

-- the log of the seal that stands beside the journal in the log of this number
abbrev pub seal_log : ℕ → ℕ
seal_log journal = SEAL_LOG - journal

-- the line of a seal with these digits
abbrev pub seal_line : List ℕ → List ℕ
seal_line digits = codes "values " ++ digits ++ 10 ∷ []

-- no line feed stands among the bytes
abbrev pub is_in_line : List ℕ → Bool
is_in_line bytes = list_all (λ b. not (b == 10)) bytes

-- the 64 bytes behind the word of a seal
abbrev pub digits_in : List ℕ → List ℕ
digits_in bytes = take 64 (drop 7 bytes)

-- the bytes are the line of a seal
abbrev pub is_seal_line : List ℕ → Bool
is_seal_line bytes = is_digest (digits_in bytes) && bytes_eq bytes (seal_line (digits_in bytes))

-- what bytes without a line feed say: nothing yet, where they are no more than the 72 bytes of a seal
abbrev pub begun_if : Bool → Said
begun_if short = if short then said.Nothing else said.Damaged

-- what bytes with a line feed say: these digits, where they are the line of a seal
abbrev pub sealed_if : Bool → List ℕ → Said
sealed_if is_line digits = if is_line then said.Sealed digits else said.Damaged

-- What the bytes of the log say: nothing yet, the digits of values, or they are damaged.
unfoldable pub seal_in : List ℕ → Said
seal_in bytes = if is_in_line bytes then begun_if (nat_le (length bytes) 72) else sealed_if (is_seal_line bytes) (digits_in bytes)

-- the bytes say nothing yet, or these digits
abbrev pub Agrees : List ℕ → List ℕ → Type 0
Agrees digits bytes = (seal_in bytes ≡ said.Nothing) ⊎ (seal_in bytes ≡ said.Sealed digits)

-- ---- what a crash may leave

-- whatever a crash leaves of the log says these digits
abbrev pub IsSealed : List ℕ → State → Type 0
IsSealed digits s = (bytes : List ℕ) → IsImage s bytes → seal_in bytes ≡ said.Sealed digits

-- whatever a crash leaves of the log says nothing yet, or these digits
abbrev pub IsSealable : List ℕ → State → Type 0
IsSealable digits s = (bytes : List ℕ) → IsImage s bytes → Agrees digits bytes

-- a read gives nothing, and nothing is safe
abbrev pub IsEmptied : State → Type 0
IsEmptied s = (s.now ≡ []) × (s.safe ≡ [])

-- ---- faults

-- the fault of a log that was not read; one that is too long to be read is longer than the line of a seal
abbrev pub of_store : ReadFault → SealFault
of_store store.Failed = Failed
of_store store.TooLong = Damaged
of_store store.NoMemory = NoMemory

-- `Failed` comes only with a counted fault, and nothing else counts one
abbrev pub SealCause : {T : Type 0} → ℕ → ℕ → Result T SealFault → Type 0
SealCause before now (Ok held) = now ≡ before
SealCause before now (Err Failed) = (before ≤ now) × Rose before now
SealCause before now (Err NoMemory) = now ≡ before
SealCause before now (Err Damaged) = now ≡ before
SealCause before now (Err (OtherValues kept)) = now ≡ before

-- A fault by the bytes of the log, given the digits of the values: they are damaged, or say other digits.
abbrev pub IsSealFault : List ℕ → List ℕ → SealFault → Type 0
IsSealFault values bytes Failed = ⊤
IsSealFault values bytes NoMemory = ⊤
IsSealFault values bytes Damaged = seal_in bytes ≡ said.Damaged
IsSealFault values bytes (OtherValues kept) = (seal_in bytes ≡ said.Sealed kept) × (kept ≢ values)
