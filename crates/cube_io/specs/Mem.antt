-- What a store in memory remembers of its calls, and the logs that this record leaves.
use Rattle.std.specs.Prelude.{◌≡◌, ◌⊎◌, ⊤, ℕ, ◌==◌, ◌+◌, ◌≤◌, Bool, true, List, [], length, ◌∷◌, ◌++◌, take, drop, if◌then◌else◌, slice_index_or}
use Rattle.cube_io.specs.declared.record.Change.{Change}
use Rattle.cube_io.specs.declared.record.Change.TheVariants.{Nothing, Cut, HalfCut, Sync}
use Rattle.cube_io.specs.declared.record.Target.{Target}
use Rattle.cube_io.specs.declared.record.Target.TheVariants.{Names, End}
use Rattle.cube_io.specs.declared.record.Call.{Call}
use Rattle.cube_io.specs.declared.record.Call.TheVariants as call
use Rattle.cube_io.specs.Seen.{StoreState}
use Rattle.cube_io.specs.States.{Log, State, settled, appended, shortened, half_cut}

-- what a call did: a change, or bytes that were written
pub data Deed : Type 0 where
  Did : Change → Deed
  Wrote : Target → List ℕ → Deed

-- the bytes that stand in a buffer from a place on
abbrev pub part : List ℕ → ℕ → ℕ → List ℕ
part bytes start len = take len (drop start bytes)

-- a remembered call, whose bytes stand in a buffer
abbrev pub deed : List ℕ → Call → Deed
deed bytes (call.Did change) = Did change
deed bytes (call.Wrote target start len) = Wrote target (part bytes start len)

-- the bytes of the call stand within the first n
abbrev pub IsWithin : ℕ → Call → Type 0
IsWithin n (call.Did change) = ⊤
IsWithin n (call.Wrote target start len) = start + len ≤ n

-- the log with one state more
abbrev pub moved : Log → State → Log
moved l s = record { state = s; trail = l.trail ++ s ∷ [] }

-- the state that a call on that log leaves
abbrev pub moved_if : Bool → Log → State → Log
moved_if b l s = if b then moved l s else l

-- log k after one call more
abbrev pub stepped : ℕ → Log → Deed → Log
stepped k l (Did Nothing) = l
stepped k l (Did (Cut log len)) = moved_if (log == k) l (shortened l.state len)
stepped k l (Did (HalfCut log len)) = moved_if (log == k) l (half_cut l.state len)
stepped k l (Did (Sync log)) = moved_if (log == k) l (settled l.state.now)
stepped k l (Wrote Names name) = l
stepped k l (Wrote (End log) piece) = moved_if (log == k) l (appended l.state piece)

-- log k after some calls
abbrev pub log_after : ℕ → Log → List Deed → Log
log_after k l [] = l
log_after k l (d ∷ ds) = log_after k (stepped k l d) ds

-- a log as it begins, all of it on the disk
abbrev pub fresh : List ℕ → Log
fresh bytes = record { state = settled bytes; trail = [] }

-- log k as it begins
abbrev pub begun : List (List ℕ) → ℕ → Log
begun contents k = fresh (slice_index_or contents k [])

-- the names that were asked for
abbrev pub names_in : List Deed → List (List ℕ)
names_in [] = []
names_in (Did change ∷ ds) = names_in ds
names_in (Wrote Names name ∷ ds) = name ∷ names_in ds
names_in (Wrote (End log) piece ∷ ds) = names_in ds

-- what a store tells that began with these contents and remembers these calls
abbrev pub store_of : ℕ → Bool → List (List ℕ) → List Deed → StoreState
store_of faults attached contents deeds = record { faults = faults; attached = attached; told = true; logs = λ k. log_after k (begun contents k) deeds; names = names_in deeds; calls = length deeds }

-- how far a failed cut may have gone
abbrev pub IsCutChange : ℕ → ℕ → Change → Type 0
IsCutChange log len change = (change ≡ Nothing) ⊎ ((change ≡ HalfCut log len) ⊎ (change ≡ Cut log len))

-- the call is in the record now, or it is not
abbrev pub HasTried : List Deed → List Deed → Deed → Type 0
HasTried old new d = (new ≡ old) ⊎ (new ≡ old ++ d ∷ [])

-- what a read of log k gives after one call more
abbrev pub now_after : ℕ → List ℕ → Deed → List ℕ
now_after k bytes (Did Nothing) = bytes
now_after k bytes (Did (Cut log len)) = if log == k then take len bytes else bytes
now_after k bytes (Did (HalfCut log len)) = bytes
now_after k bytes (Did (Sync log)) = bytes
now_after k bytes (Wrote Names name) = bytes
now_after k bytes (Wrote (End log) piece) = if log == k then bytes ++ piece else bytes
