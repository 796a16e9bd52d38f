-- What a disk tells that has two files.
use Rattle.std.specs.Prelude.{ℕ, Bool, true, false, List, [], Option, if◌then◌else◌}
use Rattle.std.specs.Str.{bytes_eq}
use Rattle.cube_io.specs.States.{Log, IsWhole}
use Rattle.cube_io.specs.Whole.{whole_settled}
use Rattle.cube_edge.specs.Disks.{DiskState, no_log}
use Rattle.trial_worlds.specs.declared.file_pair.FilePair.{FilePair}
use Rattle.trial_worlds.specs.Deeds.{log_of, log_whole}

-- what stands behind a path: what has the name, what has the other one, or what isn't there
abbrev pub behind : List ℕ → List ℕ → Log → Log → List ℕ → Log
behind name beside file other path = if bytes_eq path name then file else if bytes_eq path beside then other else no_log

abbrev pub log_at : FilePair → List ℕ → Log
log_at files path = behind files.name files.beside (log_of files.file) (log_of files.other) path

abbrev pub disk_over : FilePair → List (List ℕ) → Option (List ℕ) → ℕ → DiskState
disk_over files names seen refused = record { told = true; name = files.name; names = names; logs = log_at files; seen = seen; refused = refused }

pub files_whole : (files : FilePair) (path : List ℕ) → IsWhole (log_at files path).state
files_whole files path = by (bytes_eq path files.name) (bytes_eq path files.beside)
  where
    by : (b c : Bool) → IsWhole (if b then log_of files.file else if c then log_of files.other else no_log).state
    by true c = log_whole files.file
    by false true = log_whole files.other
    by false false = whole_settled []
