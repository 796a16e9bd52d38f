-- What is written of a script that was played to the groups of a cube.
use Rattle.std.specs.Prelude.{◌≡◌, ◌≢◌, ◌⊎◌, ℕ, Bool, true, false, List, [], ◌∷◌, ◌++◌, length, codes, decimal, if◌then◌else◌, IfSome}
use Rattle.std.specs.declared.result.Result.{Result}
use Rattle.std.specs.declared.result.Result.TheVariants.{Ok, Err}
use Rattle.std.specs.Io.KnownBytes.{Appends}
use Rattle.cube_model.specs.declared.outcome.Outcome.{Outcome}
use Rattle.cube_model.specs.Cores.{Core}
use Rattle.cube_groups.specs.declared.group.GroupFile.{GroupFile}
use Rattle.cube_io.specs.Causes.{Rose}
use Rattle.cube_io.specs.Content.{AppendsPrefix}
use Rattle.cube_io.specs.Seen.{FolderState, SinkState, StoreState, Seen, Unused}
use Rattle.cube_io.specs.Wires.{Arrival, LogEntry, events_in, render}
use Rattle.cube_io.specs.Wires.Arrival.{End}
use Rattle.cube_io.specs.Wires.LogEntry.{Shut}
use Rattle.cube_opening.specs.Opening.{fault_text, faulted, unless_long, FileSays, EndsAt, HasFile}
use Rattle.cube_opening.specs.Reports.{IsReport, IsDone}
use Rattle.cube_opening.specs.Ruling.{HasGroups, MakeGroups, ruled_names}
use Rattle.cube_opening.specs.declared.cube_files.RuledFiles.{RuledFiles}
use Rattle.cube_opening.specs.declared.report.Report.{Report}
use Rattle.cube_opening.specs.declared.ruling.RuledGroup.{RuledGroup}
use Rattle.cube_opening.specs.Outside.{Outside}
use Rattle.cube_script.specs.Playing.{Playing, IsPlaying, Overran, starting, has_torn}
use Rattle.cube_script.specs.Scripts.{script_of}
use Rattle.cube_script.specs.declared.script_wire.SendCapacity.{SendCapacity}
use Rattle.cube_script.specs.declared.script_wire.TheConstants.{MAX_SENDS, MAX_SENT_BYTES}
use Rattle.cube_server.specs.declared.serving.ServeFault.{ServeFault}
use Rattle.cube_server.specs.declared.serving.ServeFault.TheVariants.{WireFailed}
use Rattle.cube_starting.specs.Grouping.{EndsClosedGroups, HaveJournals}
use Rattle.cube_serving.specs.Serving.{ServedUpTo, Unserved, served_status, served_text}

-- ---- the script

-- the events of the bytes of a script, or the text on its first line that is refused
abbrev pub script_said : List ℕ → Result (List Arrival) (List ℕ)
script_said bytes = unless_long (codes "script") bytes (faulted (λ n. fault_text (codes "script") (codes "line " ++ decimal n)) (script_of bytes))

-- the most sends of a script that go well, and the most bytes of them all
abbrev pub room_for_sends : SendCapacity
room_for_sends = record { sends = MAX_SENDS; bytes = MAX_SENT_BYTES }

-- a wire that is to play these events
abbrev pub wire_of : List Arrival → Playing
wire_of script = starting script room_for_sends

-- ---- how a play ended

-- The log ends with a send that would have passed the space for sends, behind all that was sent before it: nothing of it went out, and its
-- connection was closed. It is the only one that failed.
pub record EndsOverrun (most : SendCapacity) (log : List LogEntry) : Type 0 where
  pub overran : Overran most log
  pub last : overran.behind ≡ Shut overran.conn ∷ []

-- a send that would have passed the space for sends ends a play before all else
abbrev pub played_status : Bool → Result (Unit {0}) ServeFault → ℕ
played_status overrun end = if overrun then 10 else served_status end

abbrev pub played_text : Bool → Result (Unit {0}) ServeFault → List Outcome → List LogEntry → List ℕ
played_text overrun end os log =
    if overrun then codes "spent: room for sends, " ++ decimal (length os) ++ codes " requests, " ++ decimal (length (events_in log)) ++ codes " events\n"
    else served_text end

-- the text of a log was put on the sink, and then it is said how the play ended
abbrev pub Writes : {O : Type 0} → Result (Unit {0}) ServeFault → List LogEntry → Seen SinkState O → Report → Type 0
Writes end log out r =
    ((r.status ≡ played_status (has_torn log) end) × (r.text ≡ played_text (has_torn log) end r.outcomes log) × Appends out.before.written out.after.written (render log))
    ⊎ ((r.status ≡ 6) × (r.text ≡ codes "output failed\n") × AppendsPrefix out.before.written out.after.written (render log))

-- ---- the whole

-- the files make a core and groups, and the run ended at the script
pub record Unscripted {F : Type 0} (cube : RuledFiles) (script_name : List ℕ) (files : Seen FolderState F) (r : Report) : Type 0 where
  pub core : Core
  pub listed : List GroupFile
  pub groups : List RuledGroup
  pub files_make : MakeGroups cube files.before core listed groups
  pub ends : EndsAt (ruled_names cube listed) script_said script_name files r

-- The events of the script came over a wire that was served as `Served` says, and what was written is the text of its log. The wire
-- played the script: it gave the first events of it, all of them where the end came, no send passed the space, and nothing went out of a
-- send that failed. A send failed only where it would have passed the space, and it was the last; and the wire failed only behind it.
pub record Replayed {F S O : Type 0} (cube : RuledFiles) (script_name : List ℕ) (stated : ℕ) (files : Seen FolderState F) (store : Seen StoreState S) (out : Seen SinkState O) (r : Report) : Type 0 where
  pub script : List Arrival
  pub wire : Playing
  pub upto : ServedUpTo cube (script_name ∷ []) stated files store true wire.log r
  pub said : IfSome files.before.files (λ known. FileSays script_said script_name known (Ok script))
  pub plays : (wire.script ≡ (wire_of script).script) × (wire.most ≡ room_for_sends)
  pub playing : IsPlaying wire
  pub whole : (u : Unit {0}) → upto.end ≡ Ok u → events_in wire.log ≡ script ++ End ∷ []
  pub cause : has_torn wire.log ≡ true → EndsOverrun room_for_sends wire.log
  pub unfailed : has_torn wire.log ≡ false → upto.end ≢ Err WireFailed
  pub writes : Writes upto.end wire.log out r

-- a run of `replay` ends at the script, or before its groups are open, or for want of memory behind that; or it plays the script and
-- writes the log
abbrev pub ReplayEnds : {F S I O W : Type 0} → RuledFiles → List ℕ → ℕ → Outside F S I O W → Report → Type 0
ReplayEnds cube script_name stated x r =
    (Unscripted cube script_name x.files r × Unused x.store × Unused x.out)
    ⊎ (EndsClosedGroups cube (script_name ∷ []) x.files x.store r × Unused x.out)
    ⊎ (Unserved cube (script_name ∷ []) x.files x.store × IsReport 7 (codes "no memory\n") r × Unused x.out)
    ⊎ Replayed cube script_name stated x.files x.store x.out r

-- where the files, the script and the journals are accepted, no count rose and less was taken than is taken at most, all is done
abbrev pub ReplayCompletes : {F S I O W : Type 0} → RuledFiles → List ℕ → Outside F S I O W → Report → Type 0
ReplayCompletes cube script_name x r = HasGroups cube x.files.before → HasFile script_said script_name x.files.before → HaveJournals cube x.files.before x.store.before → r.status ≢ 10
    → ¬ Rose x.files.before.faults x.files.after.faults → (r.outcomes ≡ [] → ¬ Rose x.store.before.faults x.store.after.faults) → ¬ Rose x.out.before.faults x.out.after.faults → IsDone r
