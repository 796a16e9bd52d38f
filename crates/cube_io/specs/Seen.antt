-- What an object outside tells of itself, in one value, and how that stands before a run and after it.
use Rattle.std.specs.Prelude.{◌≡◌, ℕ, Bool, List}
use Rattle.std.specs.declared.option.Option.{Option}
use Rattle.cube_io.specs.States.{Log}
use Rattle.cube_io.specs.Wires.{LogEntry, Plan}

-- of a folder: the files by their names, the names that were asked for, and how often it failed
pub record FolderState : Type 0 where
  pub files : Option (List (List ℕ × List ℕ))
  pub asked : Option (List (List ℕ))
  pub faults : ℕ

-- of a source: the bytes that are left, whether the end was given, and how often it failed
pub record SourceState : Type 0 where
  pub left : Option (List ℕ)
  pub ended : Bool
  pub faults : ℕ

-- of a sink: the bytes that were written, how often it failed, and how often a piece was put without a store in sight
pub record SinkState : Type 0 where
  pub written : Option (List ℕ)
  pub faults : ℕ
  pub loose : ℕ

-- of a store: how often it failed, whether it was attached, whether it tells what it holds, its logs, the names that it was asked
-- for, and a number to which each call adds at most one
pub record StoreState : Type 0 where
  pub faults : ℕ
  pub attached : Bool
  pub told : Bool
  pub logs : ℕ → Log
  pub names : List (List ℕ)
  pub calls : ℕ

-- of a wire: how often it failed, and a send on it, whether it tells its log, the log, the addresses that it was asked for, each with the
-- seconds that a connection may be still there, and what it is to play
pub record WireState : Type 0 where
  pub faults : ℕ
  pub send_faults : ℕ
  pub told : Bool
  pub log : List LogEntry
  pub heard : List (List ℕ × ℕ)
  pub plan : Plan

-- An object before a run and after it, and what it told of itself.
pub record Seen (State X : Type 0) : Type 0 where
  pub before : State
  pub after : State
  pub old : X
  pub new : X

-- the object is as it was
abbrev pub Unused : {State X : Type 0} → Seen State X → Type 0
Unused object = object.new ≡ object.old

-- ---- as a call sees it, of what an object tells

abbrev pub seen : {State X : Type 0} → (X → State) → X → X → Seen State X
seen tells old new = record { before = tells old; after = tells new; old = old; new = new }
