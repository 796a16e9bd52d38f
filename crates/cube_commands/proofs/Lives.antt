-- What a crash may leave of the log of a talk.
use Rattle.std.proofs.Common.{◌≡◌, ◌≢◌, ◌∙◌, ◌∷◌, ℕ, IsTrue, List, [], None, inl, inr, refl, sym, subst}
use Rattle.cube_model.specs.declared.entry.Entry.{Entry}
use Rattle.cube_model.specs.declared.outcome.Outcome.{Outcome}
use Rattle.cube_model.specs.declared.policy.Policy.{Policy}
use Rattle.cube_model.specs.Cores.{Core, world}
use Rattle.cube_model.specs.Rooms.{Room, alone}
use Rattle.cube_model.specs.TwoWorlds.{Extends}
use Rattle.cube_io.specs.Desks.{GivesRooms}
use Rattle.cube_io.specs.Seen.{SourceState, SinkState, StoreState, Seen}
use Rattle.cube_io.specs.States.{State, Log, Gained}
use Rattle.cube_io.proofs.Trails.{gained_then, gained_map}
use Rattle.cube_journal.specs.Keeping.{Journal, IsInRecovery}
use Rattle.cube_engine.specs.Kept.{history_of, IsExact, IsWithin}
use Rattle.cube_engine.specs.Steps.{manner}
use Rattle.cube_engine.specs.Worlds.{first_history}
use Rattle.cube_talk.specs.Asks.{rooms_behind}
use Rattle.cube_talk.specs.Moments.{Moment, moment}
use Rattle.cube_talk.specs.declared.talk.TalkEnd.{TalkEnd}
use Rattle.cube_talk.specs.Crashes.{IsOnTheWay, IsLineInHand, IsPassed, Survives, TalkedOver}
use Rattle.cube_starting.specs.NamedBooks.{Groups, HoldsAt, dims_of, places_of, rooms_of}
use Rattle.cube_starting.specs.OneCube.{unnamed, Survived}
use Rattle.cube_starting.specs.Starting.{IsBetween, HeldIn}
use Rattle.cube_engine.proofs.Settled.{settled_leaves}
use Rattle.cube_starting.proofs.Held.{held}
use Rattle.cube_commands.specs.Talks.{IsInLine}
use Rattle.cube_commands.proofs.Worlds.{behind_grows, behind_more}

-- ---- the log while the lines are answered

-- rooms on the way have a history between the first and the last
on_the_way : (core : Core) (policy : Policy) (h : List Entry) (ls : List (List ℕ)) (os : List Outcome) (here : List Room) → IsOnTheWay (manner core.dims) (alone (world core policy) h) ls os here
    → Extends h (first_history here) × Extends (first_history here) (first_history (rooms_behind (manner core.dims) (alone (world core policy) h) ls os))
on_the_way core policy h ls os here w =
    let s = core.dims in
    let v = world core policy in
    let last = λ (l : List (List ℕ)). first_history (rooms_behind (manner s) (alone v h) l os) in (
      subst (λ (rs : List Room). Extends h (first_history rs)) (sym w.are) (behind_grows s v h w.first os),
      subst (λ (rs : List Room). Extends (first_history rs) (last ls)) (sym w.are) (subst (λ (l : List (List ℕ)). Extends (last w.first) (last l)) (sym w.split) (behind_more s v h w.first w.more os)),
    )

pub lived : (core : Core) (policy : Policy) (h : List Entry) (ls : List (List ℕ)) (os : List Outcome) (within : List Room → ℕ → State → Type 0) (old mid new : Log) → ((rooms : List Room) (s : State) → within rooms 0 s → IsWithin core policy (first_history rooms) s)
    → Gained (IsInRecovery (history_of core policy) old.state) old mid → Gained (IsPassed (manner core.dims) (alone (world core policy) h) ls os within 0) mid new
    → Gained (IsBetween core policy old.state h (first_history (rooms_behind (manner core.dims) (alone (world core policy) h) ls os))) old new
lived core policy h ls os within old mid new reads opened passed =
    let last = first_history (rooms_behind (manner core.dims) (alone (world core policy) h) ls os) in
    gained_then (IsBetween core policy old.state h last) old mid new
    (gained_map (IsInRecovery (history_of core policy) old.state) (IsBetween core policy old.state h last) old mid (λ s x. inl x) opened)
    (gained_map (IsPassed (manner core.dims) (alone (world core policy) h) ls os within 0) (IsBetween core policy old.state h last) mid new
    (λ s x. inr (first_history x.0, (on_the_way core policy h ls os x.0 x.1).0, (on_the_way core policy h ls os x.0 x.1).1, reads x.0 s x.2)) passed)

-- ---- what was asked of the group of all users

-- groups that keep a history in the logs of their books, and those that keep it with one more request
abbrev pub exact_of : Groups → List Room → ℕ → State → Type 0
exact_of e rooms log s = HoldsAt IsExact (places_of e.books) rooms log s

abbrev pub within_of : Groups → List Room → ℕ → State → Type 0
within_of e rooms log s = HoldsAt IsWithin (places_of e.books) rooms log s

-- groups and a store at one moment
abbrev pub moment_of : Groups → StoreState → Moment
moment_of e store = moment (λ (x : Groups). manner (dims_of x.books)) (λ (x : Groups). rooms_of x.books) (λ (x : Groups). x.outcomes) (λ (x : Groups). x.left) exact_of within_of e store

-- the one group, with this history in this journal, asked nothing
abbrev pub alone_of : Core → Policy → List Entry → Journal → ℕ → Groups
alone_of core policy h j stated = record { books = unnamed (record { core = core; policy = policy; history = h; waiting = None; journal = j }) ∷ []; outcomes = []; left = stated }

-- what holds of its log is of the history of the first room, in the log of its journal
first_holds : (holds : Core → Policy → List Entry → State → Type 0) (core : Core) (policy : Policy) (n : ℕ) (rooms : List Room) (log : ℕ) (s : State) → HoldsAt holds (record { core = core; policy = policy; log = n } ∷ []) rooms log s → (log ≡ n) × holds core policy (first_history rooms) s
first_holds holds core policy n [] log s x = absurd x
first_holds holds core policy n (r ∷ rooms) log s (inl x) = x
first_holds holds core policy n (r ∷ rooms) log s (inr x) = absurd x

-- of another log it says nothing
pub elsewhere : (core : Core) (policy : Policy) (h : List Entry) (j : Journal) (stated : ℕ) (rooms : List Room) (log : ℕ) (s : State) → j.log ≡ 0 → log ≢ 0 → within_of (alone_of core policy h j stated) rooms log s → ⊥
elsewhere core policy h j stated rooms log s zeroth other x = other ((first_holds IsWithin core policy j.log rooms log s x).0 ∙ zeroth)

-- log 0 of a run in which the group, begun with a history, was asked these lines
pub survived_by : {S : Type 0} (core : Core) (policy : Policy) (h : List Entry) (j : Journal) (stated : ℕ) (last : Groups) (mid : StoreState) (store : Seen StoreState S) (ls : List (List ℕ)) (os : List Outcome)
    → j.log ≡ 0 → IsTrue mid.told → IsExact core policy h (mid.logs 0).state → Gained (IsInRecovery (history_of core policy) (store.before.logs 0).state) (store.before.logs 0) (mid.logs 0)
    → Survives (moment_of (alone_of core policy h j stated) mid) (moment_of last store.after) ls os → rooms_of last.books ≡ rooms_behind (manner core.dims) (alone (world core policy) h) ls os
    → Survived core policy h (first_history (rooms_behind (manner core.dims) (alone (world core policy) h) ls os)) os store
survived_by {S} core policy h j stated last mid store ls os zeroth tells exact opened lives rooms_are =
    let first = alone_of core policy h j stated in
    let around : within_of first (alone (world core policy) h) 0 (mid.logs 0).state = inl (sym zeroth, λ b image. inl (exact b image)) in
    let here : exact_of first (alone (world core policy) h) 0 (mid.logs 0).state = inl (sym zeroth, exact) in
    let s = (store.after.logs 0).state in
    let rooms = rooms_of last.books in
    record {
      passed = lived core policy h ls os (within_of first) (store.before.logs 0) (mid.logs 0) (store.after.logs 0) (λ rooms t x. (first_holds IsWithin core policy j.log rooms 0 t x).1) opened (lives.passed tells 0 around);
      ends = subst (λ (rs : List Room). IsWithin core policy (first_history rs) s) rooms_are (first_holds IsWithin core policy j.log rooms 0 s ((lives.within_stays rooms 0 s).0 (lives.ends_within tells 0 around))).1;
      exact = λ none. subst (λ (rs : List Room). IsExact core policy (first_history rs) s) rooms_are (first_holds IsExact core policy j.log rooms 0 s ((lives.exact_stays rooms 0 s).0 (lives.ends_exact tells none 0 here))).1;
    }

-- and of what is in hand meanwhile
pub held_by : {S : Type 0} (core : Core) (policy : Policy) (h : List Entry) (j : Journal) (stated : ℕ) (last : Groups) (mid : StoreState) (store : Seen StoreState S) (ls : List (List ℕ)) (os : List Outcome)
    → j.log ≡ 0 → IsTrue mid.told → IsExact core policy h (mid.logs 0).state → Gained (IsInRecovery (history_of core policy) (store.before.logs 0).state) (store.before.logs 0) (mid.logs 0)
    → Survives (moment_of (alone_of core policy h j stated) mid) (moment_of last store.after) ls os → HeldIn 0 core policy (IsInLine core policy h ls os) store
held_by {S} core policy h j stated last mid store ls os zeroth tells exact opened lives =
    let first = alone_of core policy h j stated in
    let rooms = alone (world core policy) h in
    let around : within_of first rooms 0 (mid.logs 0).state = inl (sym zeroth, λ b image. inl (exact b image)) in
    held 0 core policy h (IsInLine core policy h ls os) (GivesRooms (exact_of first) 0) (IsLineInHand (manner core.dims) rooms ls os) mid store
    (rooms, inl (record { first = []; more = ls; split = refl; are = refl }), refl)
    (λ r bytes i g. (first_history r, (r, i, refl), (first_holds IsExact core policy j.log r 0 _ g).1 bytes (settled_leaves bytes)))
    exact opened (lives.in_hand tells 0 around)

-- where they are the lines of an input
pub survived : {S I O : Type 0} {input : Seen SourceState I} {out : Seen SinkState O} (core : Core) (policy : Policy) (h : List Entry) (j : Journal) (stated : ℕ) (last : Groups) (end : TalkEnd) (mid : StoreState) (store : Seen StoreState S)
    → j.log ≡ 0 → IsTrue mid.told → IsExact core policy h (mid.logs 0).state → Gained (IsInRecovery (history_of core policy) (store.before.logs 0).state) (store.before.logs 0) (mid.logs 0)
    → (v : TalkedOver (moment_of (alone_of core policy h j stated) mid) (moment_of last store.after) end input out)
    → Survived core policy h (first_history (rooms_behind (manner core.dims) (alone (world core policy) h) v.talked.took.first last.outcomes)) last.outcomes store
survived {S} {I} {O} {input} {out} core policy h j stated last end mid store zeroth tells exact opened v = survived_by core policy h j stated last mid store v.talked.took.first last.outcomes zeroth tells exact opened v.survives v.rooms_are

pub held_lines : {S I O : Type 0} {input : Seen SourceState I} {out : Seen SinkState O} (core : Core) (policy : Policy) (h : List Entry) (j : Journal) (stated : ℕ) (last : Groups) (end : TalkEnd) (mid : StoreState) (store : Seen StoreState S)
    → j.log ≡ 0 → IsTrue mid.told → IsExact core policy h (mid.logs 0).state → Gained (IsInRecovery (history_of core policy) (store.before.logs 0).state) (store.before.logs 0) (mid.logs 0)
    → (v : TalkedOver (moment_of (alone_of core policy h j stated) mid) (moment_of last store.after) end input out) → HeldIn 0 core policy (IsInLine core policy h v.talked.took.first last.outcomes) store
held_lines {S} {I} {O} {input} {out} core policy h j stated last end mid store zeroth tells exact opened v = held_by core policy h j stated last mid store v.talked.took.first last.outcomes zeroth tells exact opened v.survives
