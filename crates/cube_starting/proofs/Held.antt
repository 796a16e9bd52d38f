-- What a crash leaves of the log of an open cube: the histories in hand.
use Rattle.std.proofs.Common.{◌⊎◌, inl, inr, ⊎_elim, ℕ, List}
use Rattle.cube_model.specs.declared.entry.Entry.{Entry}
use Rattle.cube_model.specs.declared.policy.Policy.{Policy}
use Rattle.cube_model.specs.Cores.{Core}
use Rattle.cube_model.specs.Rooms.{Room}
use Rattle.cube_io.specs.Desks.{LeavesOf, LeavesAll}
use Rattle.cube_io.specs.Seen.{StoreState, Seen}
use Rattle.cube_io.specs.States.{State, Gained}
use Rattle.cube_io.proofs.Trails.{gained_then, gained_map}
use Rattle.cube_journal.specs.Keeping.{IsInRecovery}
use Rattle.cube_engine.specs.Kept.{history_of, GivesHistory, IsExact}
use Rattle.cube_starting.specs.Starting.{GivesOne, HeldIn}

-- a log that was exact behind its opening, and what asks leave of it
pub held : {S : Type 0} (log : ℕ) (core : Core) (policy : Policy) (first : List Entry) (these : List Entry → Type 0) (gives : List Room → List ℕ → Type 0) (those : List Room → Type 0) (mid : StoreState) (store : Seen StoreState S)
    → these first → ((r : List Room) (bytes : List ℕ) → those r → gives r bytes → (h : List Entry) × these h × GivesHistory core policy h bytes) → IsExact core policy first (mid.logs log).state
    → Gained (IsInRecovery (history_of core policy) (store.before.logs log).state) (store.before.logs log) (mid.logs log) → LeavesAll gives those (mid.logs log) (store.after.logs log) → HeldIn log core policy these store
held {S} log core policy first these gives those mid store is f exact opened leaves = record {
  passed = gained_then both (store.before.logs log) (mid.logs log) (store.after.logs log)
      (gained_map (IsInRecovery (history_of core policy) (store.before.logs log).state) both (store.before.logs log) (mid.logs log) (λ s x. inl x) opened)
      (gained_map (LeavesOf gives those (mid.logs log).state) both (mid.logs log) (store.after.logs log) (λ s l. inr (one s l)) leaves.passed);
  last = one (store.after.logs log).state leaves.last;
}
  where
    both : State → Type 0
    both s = IsInRecovery (history_of core policy) (store.before.logs log).state s ⊎ GivesOne core policy these s

    one : (s : State) → LeavesOf gives those (mid.logs log).state s → GivesOne core policy these s
    one s l bytes image = ⊎_elim (λ before. (first, is, exact bytes before)) (λ r. f r.0 bytes r.1 r.2) (l bytes image)
