-- What a disk tells of its files, what its calls leave as it was, and which of its files are the logs of a store.
use Rattle.std.specs.Prelude.{◌≡◌, ◌≢◌, ◌⊎◌, ℕ, ◌^◌, ◌-◌, ◌==◌, Bool, true, false, IsTrue, List, [], ◌++◌, None, if◌then◌else◌, nat_lt, nat_le, codes, decimal}
use Rattle.std.specs.declared.option.Option.{Option}
use Rattle.std.specs.List.{list_any}
use Rattle.cube_io.specs.Seen.{StoreState}
use Rattle.cube_io.specs.declared.store.TheConstants.{SEAL_LOG}
use Rattle.cube_io.specs.States.{State, Log, IsWhole, settled}
use Rattle.cube_io.specs.Whole.{whole_settled}

-- Of a disk: whether it tells what it holds, the one name whose files it then tells, the names that it was asked for, the log in the file
-- of each path, the path that was last seen to stand for its open file, and how many calls it refused, up to the end of its type.
pub record DiskState : Type 0 where
  pub told : Bool
  pub name : List ℕ
  pub names : List (List ℕ)
  pub logs : List ℕ → Log
  pub seen : Option (List ℕ)
  pub refused : ℕ

-- a call that changes no file, and asks for no name
pub record Rests (old new : DiskState) : Type 0 where
  pub told : new.told ≡ old.told
  pub name : new.name ≡ old.name
  pub names : new.names ≡ old.names
  pub logs : IsTrue old.told → (path : List ℕ) → new.logs path ≡ old.logs path

-- a call that changes no file but that of the path, and asks for no name
pub record WorksAt (path : List ℕ) (old new : DiskState) : Type 0 where
  pub told : new.told ≡ old.told
  pub name : new.name ≡ old.name
  pub names : new.names ≡ old.names
  pub others : IsTrue old.told → (other : List ℕ) → other ≢ path → new.logs other ≡ old.logs other

-- a call that changes no file but those of two paths, and asks for no name
pub record WorksAtTwo (one two : List ℕ) (old new : DiskState) : Type 0 where
  pub told : new.told ≡ old.told
  pub name : new.name ≡ old.name
  pub names : new.names ≡ old.names
  pub others : IsTrue old.told → (other : List ℕ) → other ≢ one → other ≢ two → new.logs other ≡ old.logs other

-- a state while one file takes the place of another: what stood there, or what comes there
abbrev pub IsEither : State → State → State → Type 0
IsEither there comes s = (s ≡ there) ⊎ (s ≡ comes)

-- as it was, or just these bytes, all of them on the disk
abbrev pub IsOldOrNew : List ℕ → State → State → Type 0
IsOldOrNew bytes old s = (s ≡ old) ⊎ (s ≡ settled bytes)

-- the path of the journal in the log of this number: the name, and of each other log than 0 that name, a point and the number
abbrev pub journal_path : List ℕ → ℕ → List ℕ
journal_path name log = if log == 0 then name else name ++ codes "." ++ decimal log

-- the last sixteen logs of 32 bits hold the seals of the first sixteen, from the last one down
abbrev pub is_seal_log : ℕ → Bool
is_seal_log log = nat_le (SEAL_LOG - 15) log

-- the path of a log: of a seal that of its journal and `.seal`
abbrev pub path_of : List ℕ → ℕ → List ℕ
path_of name log = if is_seal_log log then journal_path name (SEAL_LOG - log) ++ codes ".seal" else journal_path name log

-- nothing, all of it on the disk
abbrev pub no_log : Log
no_log = record { state = settled []; trail = [] }

-- the logs of the name, by their numbers of 32 bits
abbrev pub logs_of : DiskState → ℕ → Log
logs_of disk log = if nat_lt log (2 ^ 32) then disk.logs (path_of disk.name log) else no_log

-- the file of the log is open: the log is one of these
abbrev pub is_held : ℕ → List ℕ → Bool
is_held log logs = list_any (λ k. k == log) logs

-- what a store tells whose logs are in the files of a disk
abbrev pub store_over : ℕ → Bool → DiskState → StoreState
store_over faults attached disk = record { faults = faults; attached = attached; told = disk.told; logs = logs_of disk; names = disk.names; calls = 0 }

-- a disk that tells nothing
abbrev pub silent_disk : DiskState
silent_disk = record { told = false; name = []; names = []; logs = λ path. no_log; seen = None; refused = 0 }

pub logs_whole : (disk : DiskState) → ((path : List ℕ) → IsWhole (disk.logs path).state) → (log : ℕ) → IsWhole (logs_of disk log).state
logs_whole disk whole log = by_number (nat_lt log (2 ^ 32))
  where
    by_number : (b : Bool) → IsWhole (if b then disk.logs (path_of disk.name log) else no_log).state
    by_number true = whole (path_of disk.name log)
    by_number false = whole_settled []
