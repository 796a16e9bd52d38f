-- What an output tells that is put as a whole into a file, and one that is one of two sinks.
use Rattle.std.specs.Prelude.{◌≡◌, ◌≢◌, ℕ, IsTrue, List, [], ◌++◌, Some, codes}
use Rattle.cube_io.specs.Seen.{SinkState}
use Rattle.cube_io.specs.States.{settled}
use Rattle.cube_edge.specs.Disks.{DiskState}
use Rattle.cube_edge.specs.declared.either_sink.EitherSink.{EitherSink}
use Rattle.cube_edge.specs.declared.either_sink.EitherSink.TheVariants as either

-- of a file: its path, what was put there, and how many puts failed
pub record OutState : Type 0 where
  pub path : List ℕ
  pub written : List ℕ
  pub faults : ℕ

-- nothing was put there yet
abbrev pub no_puts : List ℕ → OutState
no_puts path = record { path = path; written = []; faults = 0 }

-- what it tells as a sink
abbrev pub sink_of : OutState → SinkState
sink_of out = record { written = Some out.written; faults = out.faults; loose = 0 }

-- the path of the file beside, in which the bytes are written first
abbrev pub path_beside : List ℕ → List ℕ
path_beside path = path ++ codes ".new"

-- Where something was put and no put failed, the file holds just what was put, all of it on the disk.
abbrev pub HoldsAll : DiskState → OutState → Type 0
HoldsAll disk out = IsTrue disk.told → out.faults ≡ 0 → out.written ≢ [] → (disk.logs out.path).state ≡ settled out.written

-- one of two sinks tells what that one tells
abbrev pub either_state : {A B : Type 0} → (A → SinkState) → (B → SinkState) → EitherSink A B → SinkState
either_state first second (either.First a) = first a
either_state first second (either.Second b) = second b
