-- Groups on one wire: each is asked by itself, and over a world with the changes for a protected cell of one of them the log is the same.
use Rattle.std.proofs.Common.{◌≡◌, ◌∙◌, refl, sym, ap, ap₂, subst, ℕ, Bool, true, false, cond, List, [], ◌∷◌, map, Some, None, inl, inr}
use Rattle.std.proofs.lemmas.Bool.{false≢true}
use Rattle.cube_model.specs.declared.ask.Question.{Question}
use Rattle.cube_model.specs.declared.cell.Cell.{Cell}
use Rattle.cube_model.specs.declared.entry.Entry.{Entry}
use Rattle.cube_model.specs.declared.reply.Reply.{Reply}
use Rattle.cube_model.specs.Cores.{Core, IsCore, shown, world}
use Rattle.cube_model.specs.Cubes.{Public, World, IsWorld, same, IsIn, Each}
use Rattle.cube_model.specs.Dims.{Dims}
use Rattle.cube_model.specs.Policies.{IsPolicy}
use Rattle.cube_model.specs.Protection.{protected}
use Rattle.cube_model.specs.Rooms.{Room, Call, room_of, goes_to, next_room, next_in, replies_in, end_in, AreApart, turns_to, ended, with_world, IsByItself}
use Rattle.cube_model.specs.Runs.{Stepper, Turn, next, replies, end}
use Rattle.cube_model.specs.Twins.{changes, twin}
use Rattle.cube_model.specs.TwoWorlds.{Extends}
use Rattle.cube_model.specs.Verdicts.{IsAdmissible}
use Rattle.cube_model.proofs.Filled.{cores_are_worlds}
use Rattle.cube_model.proofs.Growth.{extends_refl, extends_trans}
use Rattle.cube_model.proofs.Housed.{rooms_are_by_themselves, other_worlds_are_likewise}
use Rattle.cube_model.proofs.Members.{tested, same_eq, same_refl, map_has}
use Rattle.cube_io.specs.Wires.{Arrival, LogEntry}
use Rattle.cube_engine.specs.Headline.{Hides}
use Rattle.cube_engine.specs.Steps.{by_words, manner}
use Rattle.cube_engine.proofs.Worlds.{Reads, texts_read, question_open, question_grows, question_stays, other_sum}
use Rattle.cube_server.specs.Alike.{SameReplies}
use Rattle.cube_server.specs.Crashes.{after}
use Rattle.cube_server.specs.Logs.{Call as Reached, Luck, log_of, calls_of}
use Rattle.cube_server.proofs.Likeness.{logs_are_alike}
use Rattle.cube_starting.specs.Grouping.{GroupRun, first_room, first_rooms}
use Rattle.cube_serving.specs.Serving.{turn_of}
use Rattle.cube_starting.proofs.Lists.{each_in, head_alike, map_twice, tail_alike}

-- ---- rooms behind some asks

-- each room is where the asks that go to it lead
module _ (st : Stepper Question Reply) where
  make : Room → List Entry → Room
  make room h = record { name = room.name; world = room.world; history = h }

  ended_next : (c : Call Question) (cs : List (Call Question)) (room : Room) → ended st cs (next_room st c room) ≡ ended st (c ∷ cs) room
  unfolding make
  ended_next c cs room = go (goes_to room.name c)
    where
      go : (b : Bool) → make room (end st room.world.shown (cond b (next st room.world.shown room.history c.turn) room.history) (turns_to room.name cs)) ≡ make room (end st room.world.shown room.history (cond b (c.turn ∷ turns_to room.name cs) (turns_to room.name cs)))
      go true = refl
      go false = refl

  all_stay : (rooms : List Room) → rooms ≡ map (ended st []) rooms
  all_stay [] = refl
  all_stay (room ∷ rooms) = ap (λ rs. room ∷ rs) (all_stay rooms)

  pub ends_each : (rooms : List Room) (cs : List (Call Question)) → end_in st rooms cs ≡ map (ended st cs) rooms
  ends_each rooms [] = all_stay rooms
  ends_each rooms (c ∷ cs) = ends_each (next_in st rooms c) cs ∙ map_twice (next_room st c) (ended st cs) (ended st (c ∷ cs)) rooms (ended_next c cs)

pub after_is : (s : Dims) (rooms : List Room) (calls : List Reached) → after (manner s) rooms calls ≡ map (ended (by_words s) (map turn_of calls)) rooms
after_is s rooms calls = go rooms calls ∙ ends_each (by_words s) rooms (map turn_of calls)
  where
    go : (rs : List Room) (cs : List Reached) → after (manner s) rs cs ≡ end_in (by_words s) rs (map turn_of cs)
    go rs [] = refl
    go rs (c ∷ cs) = go (next_in (by_words s) rs (turn_of c)) cs

-- ---- one room

-- the turns of a room lead from a history to one that goes on from it, and leave it admissible
pub turns_grow : (s : Dims) (g : Public) (h : List Entry) (turns : List (Turn Question)) → Extends h (end (by_words s) g h turns)
turns_grow s g h [] = extends_refl h
turns_grow s g h (t ∷ turns) = let k = next (by_words s) g h t in extends_trans h k (end (by_words s) g k turns) (question_grows s g h t.question t.outcome) (turns_grow s g k turns)

pub turns_stay : (s : Dims) (g : Public) (h : List Entry) (turns : List (Turn Question)) → IsAdmissible g h → IsAdmissible g (end (by_words s) g h turns)
turns_stay s g h [] adm = adm
turns_stay s g h (t ∷ turns) adm = turns_stay s g (next (by_words s) g h t) turns (question_stays s g h t.question t.outcome adm)

-- over the world with the changes each turn gets the same reply
turns_open : (s : Dims) (w : World) (h last : List Entry) (turns : List (Turn Question)) (m : ℕ) (t : Cell) → IsWorld w → Reads s w.shown → IsAdmissible w.shown last → Extends (end (by_words s) w.shown h turns) last → IsIn t (protected w.shown m)
    → replies (by_words s) (twin w m (changes w.shown last m t)) h turns ≡ replies (by_words s) w h turns
turns_open s w h last [] m t ok reads adm ext within = refl
turns_open s w h last (x ∷ turns) m t ok reads adm ext within =
    let k = next (by_words s) w.shown h x in
    let on : Extends k last = extends_trans k (end (by_words s) w.shown k turns) last (turns_grow s w.shown k turns) ext in
    ap₂ (λ (r : Reply) (rs : List Reply). r ∷ rs) (question_open s w h last x.question x.outcome m t ok reads adm on within) (turns_open s w k last turns m t ok reads adm ext within)

-- ---- a world in one room alone

not_later : (name : List ℕ) (rooms : List Room) (room : Room) → room_of name rooms ≡ None → IsIn room rooms → same room.name name ≡ false
not_later name [] room e k = absurd k
not_later name (x ∷ rooms) room e k = go (same x.name name) refl e k (λ z q. not_later name rooms room z q)
  where
    go : (b : Bool) → same x.name name ≡ b → cond b (Some x) (room_of name rooms) ≡ None → IsIn room (x ∷ rooms) → (room_of name rooms ≡ None → IsIn room rooms → same room.name name ≡ false) → same room.name name ≡ false
    go true q z k again = absurd (cc)
    go false q z (inl e) again = subst (λ r. same r.name name ≡ false) e q
    go false q z (inr k) again = again z k

same_swap : (x y : List ℕ) → same x y ≡ true → same y x ≡ true
same_swap x y e = subst (λ z. same z x ≡ true) (same_eq x y e) (same_refl x)

in_world : Room → World → Room
in_world room w = record { name = room.name; world = w; history = room.history }

elsewhere : (name : List ℕ) (v : World) (xs : List Room) → ((r : Room) → IsIn r xs → same r.name name ≡ false) → with_world name v xs ≡ xs
unfolding in_world
elsewhere name v [] h = refl
elsewhere name v (x ∷ xs) h = ap₂ (λ (r : Room) (rs : List Room). r ∷ rs) (ap (λ b. in_world x (cond b v x.world)) (h x (inl refl))) (elsewhere name v xs (λ r k. h r (inr k)))

-- its own world changes nothing
own_world : (rooms : List Room) (room : Room) → AreApart rooms → IsIn room rooms → with_world room.name room.world rooms ≡ rooms
unfolding in_world
own_world [] room a k = absurd k
own_world (x ∷ rooms) room a (inl e) = subst (λ (r : Room). with_world r.name r.world (x ∷ rooms) ≡ x ∷ rooms) e
    (ap₂ (λ (r : Room) (rs : List Room). r ∷ rs) (ap (λ b. in_world x (cond b x.world x.world)) (same_refl x.name)) (elsewhere x.name x.world rooms (λ r k. not_later x.name rooms r a.0 k)))
own_world (x ∷ rooms) room a (inr k) =
    let apart : same x.name room.name ≡ false = tested (same x.name room.name) (λ t. absurd (false≢true (sym (not_later x.name rooms room a.0 k) ∙ same_swap x.name room.name t))) (λ f. f) in
    ap₂ (λ (r : Room) (rs : List Room). r ∷ rs) (ap (λ b. in_world x (cond b room.world x.world)) apart) (own_world rooms room a.1 k)

-- replies in turn as a server compares them
stepwise : (s : Dims) (rooms others : List Room) (calls : List Reached) → replies_in (by_words s) others (map turn_of calls) ≡ replies_in (by_words s) rooms (map turn_of calls) → SameReplies (manner s) rooms others calls
stepwise s rooms others [] e = tt
stepwise s rooms others (c ∷ calls) e = (head_alike e, stepwise s (next_in (by_words s) rooms (turn_of c)) (next_in (by_words s) others (turn_of c)) calls (tail_alike e))

-- ---- the log

-- a group's turns among what a log shows
abbrev pub own_turns : Dims → List Reached → GroupRun → List (Turn Question)
own_turns s calls g = turns_to g.name (map turn_of calls)

module _ (core : Core) (gs : List GroupRun) (events : List Arrival) (luck : Luck) (log : List LogEntry) (told : log ≡ log_of (manner core.dims) (first_rooms core gs) events luck) (apart : AreApart (first_rooms core gs)) where
  abbrev s : Dims
  s = core.dims

  abbrev rooms : List Room
  rooms = first_rooms core gs

  abbrev calls : List Reached
  calls = calls_of (manner s) rooms events luck

  pub each_by_itself : Each (λ g. IsByItself (by_words s) rooms (map turn_of calls) (first_room core g)) gs
  each_by_itself = each_in (λ g. IsByItself (by_words s) rooms (map turn_of calls) (first_room core g)) gs (λ g k. rooms_are_by_themselves (by_words s) rooms (map turn_of calls) (first_room core g) apart (map_has (first_room core) g gs k))

  pub group_hides : (g : GroupRun) → IsIn g gs → IsCore core → IsPolicy core.dims g.policy → IsAdmissible (shown core g.policy) g.first → g.last ≡ end (by_words s) (shown core g.policy) g.first (own_turns s calls g)
      → Hides core g.policy g.last (λ w. log ≡ log_of (manner s) (with_world g.name w rooms) events luck)
  group_hides g k is_core is_policy adm last =
      let w = world core g.policy in
      let ok : IsWorld w = cores_are_worlds core g.policy is_core is_policy.methods in
      let turns = own_turns s calls g in
      let room = first_room core g in
      let is_room = map_has (first_room core) g gs k in
      record {
        here = told ∙ ap (λ (rs : List Room). log_of (manner s) rs events luck) (sym (own_world rooms room apart is_room));
        admissible = subst (IsAdmissible w.shown) (sym last) (turns_stay s w.shown g.first turns adm);
        hides = λ later good ext m t within.
            let v = twin w m (changes w.shown later m t) in
            let on : Extends (end (by_words s) w.shown g.first turns) later = subst (λ (h : List Entry). Extends h later) last ext in
            let alike = (other_worlds_are_likewise (by_words s) rooms (map turn_of calls) room v apart is_room refl (turns_open s w g.first later turns m t ok (texts_read core g.policy is_core is_policy) good on within)).same_replies in
            record {
              same = told ∙ sym (logs_are_alike (manner s) rooms (with_world g.name v rooms) events luck (stepwise s rooms (with_world g.name v rooms) calls alike)).same_log;
              other_sum = other_sum w later m t ok good within;
            };
      }
