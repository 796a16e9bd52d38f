-- What the log of a cube recovers, and what stands in it.
use Rattle.std.specs.Prelude.{◌≡◌, ◌⊎◌, ℕ, true, List, [], ◌∷◌, ◌++◌, length, Ok, Err}
use Rattle.std.specs.declared.result.Result.{Result}
use Rattle.cube_model.specs.declared.entry.Entry.{Entry}
use Rattle.cube_model.specs.declared.entry.Entry.TheVariants.{Asked}
use Rattle.cube_model.specs.declared.policy.Policy.{Policy}
use Rattle.cube_model.specs.declared.request.Request.{Request}
use Rattle.cube_model.specs.declared.verdict.Verdict.TheVariants.{Answer}
use Rattle.cube_model.specs.Cores.{Core, shown}
use Rattle.cube_model.specs.Cubes.{Each}
use Rattle.cube_model.specs.Logs.{Left, left}
use Rattle.cube_model.specs.Logs.Left.{Leaves, Stops}
use Rattle.cube_model.specs.Verdicts.{verdict}
use Rattle.cube_query.specs.Canonical.{is_request}
use Rattle.cube_io.specs.States.{State, IsImage}
use Rattle.cube_journal.specs.Digests.{digest_of}
use Rattle.cube_journal.specs.Keeping.{Journal, Fits}
use Rattle.cube_journal.specs.Lines.{IsPrefix, ended_lines}
use Rattle.cube_journal.specs.PublicText.{public_text_of}
use Rattle.cube_journal.specs.Recovery.{recovered}
use Rattle.cube_journal.specs.RequestLines.{request_line}
use Rattle.cube_journal.specs.declared.fault.JournalFault.{JournalFault}
use Rattle.cube_journal.specs.declared.fault.JournalFault.TheVariants as journal
use Rattle.cube_engine.specs.declared.fault.StartFault.{StartFault}
use Rattle.cube_engine.specs.declared.fault.StartFault.TheVariants.{Damaged, OtherCube, Inadmissible, NoMemory}

-- ---- what bytes recover

-- the digest of what is public of a cube
abbrev pub digest_for : Core → Policy → List ℕ
digest_for c p = digest_of (public_text_of c.dims p c.shape)

-- the entries that the bytes of a log write, before they are judged
abbrev pub written : Core → Policy → List ℕ → Result (List Entry) JournalFault
written c p bytes = recovered (digest_for c p) c.dims p (length c.shape.points) bytes

-- the first line of a log has the number 1
abbrev pub first_entry : ℕ
first_entry = 2

abbrev pub by_left : Left → Result (List Entry) StartFault
by_left (Leaves h) = Ok h
by_left (Stops n) = Err (Inadmissible n)

-- the history that entries leave, judged one behind another
abbrev pub judged_in : Core → Policy → Result (List Entry) JournalFault → Result (List Entry) StartFault
judged_in c p (Ok es) = by_left (left (shown c p) [] first_entry es)
judged_in c p (Err (journal.Damaged line)) = Err (Damaged line)
judged_in c p (Err (journal.OtherCube kept now)) = Err (OtherCube kept now)
judged_in c p (Err journal.NoMemory) = Err NoMemory

-- the history that the bytes of a log recover, or their first fault
abbrev pub history_of : Core → Policy → List ℕ → Result (List Entry) StartFault
history_of c p bytes = judged_in c p (written c p bytes)

-- ---- what a crash may leave

-- the bytes give just the history back
abbrev pub GivesHistory : Core → Policy → List Entry → List ℕ → Type 0
GivesHistory c p h b = history_of c p b ≡ Ok h

-- whatever a crash leaves of the log at this state recovers just the history
abbrev pub IsExact : Core → Policy → List Entry → State → Type 0
IsExact c p h s = (b : List ℕ) → IsImage s b → history_of c p b ≡ Ok h

-- it recovers the history, alone or with one more request
abbrev pub RecoversWithin : Core → Policy → List Entry → List ℕ → Type 0
RecoversWithin c p h b = (history_of c p b ≡ Ok h) ⊎ ((r : Request) × (history_of c p b ≡ Ok (h ++ Asked r ∷ [])))

abbrev pub IsWithin : Core → Policy → List Entry → State → Type 0
IsWithin c p h s = (b : List ℕ) → IsImage s b → RecoversWithin c p h b

-- ---- the log of a book

-- a request that may enter behind the history
pub record MayEnter (c : Core) (p : Policy) (h : List Entry) (r : Request) : Type 0 where
  pub valid : is_request c.dims r ≡ true
  pub fresh : verdict (shown c p) h r ≡ Answer true

-- the beginning of the line of a request that may enter
abbrev pub IsTail : Core → Policy → List Entry → List ℕ → Type 0
IsTail c p h tail = (tail ≡ []) ⊎ ((r : Request) × MayEnter c p h r × IsPrefix tail (request_line c.dims r))

-- The log of a history as it stands: what is safe of it recovers the history, and behind it is at most the beginning of one line.
pub record IsKept (c : Core) (p : Policy) (h : List Entry) (j : Journal) (s : State) : Type 0 where
  pub fits : Fits s j
  pub begun : ended_lines s.safe ≡ [] → ⊥
  pub entries : List Entry
  pub written : written c p s.safe ≡ Ok entries
  pub left : left (shown c p) [] first_entry entries ≡ Leaves h
  pub tails : Each (IsTail c p h) s.tails
