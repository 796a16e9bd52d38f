-- Rooms: each by itself, and a twin in one alone.
use Rattle.std.proofs.Common.{◌≡◌, ℕ, inl, inr, Bool, true, false, cond, List, [], ◌∷◌, map, Option, Some, None, refl, sym, ap, ap₂, ◌∙◌, subst}
use Rattle.std.proofs.lemmas.Bool.{false≢true}
use Rattle.cube_model.specs.declared.entry.Entry.{Entry}
use Rattle.cube_model.specs.Cubes.{Public, World, same, IsIn, Each}
use Rattle.cube_model.specs.Twins.{changes, twin}
use Rattle.cube_model.specs.Runs.{Stepper, Turn, reply, next, replies, end, by_rules}
use Rattle.cube_model.specs.Rooms.{Room, Call, aim, goes_to, room_of, reply_by_room, reply_in, next_room, next_in, replies_in, end_in, AreApart, alone, plain, OneRoomIsPlain, turns_to, replies_to, ended, RoomsAreByThemselves, other_world, with_world, OtherWorldsAreLikewise, RoomsAreOpen}
use Rattle.cube_model.proofs.Members.{tested, same_eq, same_refl, map_has}
use Rattle.cube_model.proofs.Worlds.{two_worlds}

-- a search by name passes what keeps names
mapped : (Room → Room) → Option Room → Option Room
mapped f None = None
mapped f (Some room) = Some (f room)

found_map : (f : Room → Room) → ((room : Room) → (f room).name ≡ room.name) → (name : List ℕ) (rooms : List Room) → room_of name (map f rooms) ≡ mapped f (room_of name rooms)
unfolding mapped
found_map f keeps name [] = refl
found_map f keeps name (room ∷ rooms) = ap (λ n. cond (same n name) (Some (f room)) (room_of name (map f rooms))) (keeps room) ∙ go (same room.name name) (found_map f keeps name rooms)
  where
    go : (b : Bool) → room_of name (map f rooms) ≡ mapped f (room_of name rooms) → cond b (Some (f room)) (room_of name (map f rooms)) ≡ mapped f (cond b (Some room) (room_of name rooms))
    go true e = refl
    go false e = e

-- a room of the list is found by its name
not_later : (name : List ℕ) (rooms : List Room) (room : Room) → room_of name rooms ≡ None → IsIn room rooms → same room.name name ≡ false
not_later name [] room e k = absurd k
not_later name (x ∷ rooms) room e k = go (same x.name name) refl e k (λ z q. not_later name rooms room z q)
  where
    go : (b : Bool) → same x.name name ≡ b → cond b (Some x) (room_of name rooms) ≡ None → IsIn room (x ∷ rooms) → (room_of name rooms ≡ None → IsIn room rooms → same room.name name ≡ false) → same room.name name ≡ false
    go true q z k again = absurd (cc)
    go false q z (inl e) again = subst (λ r. same r.name name ≡ false) e q
    go false q z (inr k) again = again z k

same_swap : (x y : List ℕ) → same x y ≡ true → same y x ≡ true
same_swap x y e = subst (λ z. same z x ≡ true) (same_eq x y e) (same_refl x)

found : (rooms : List Room) (room : Room) → AreApart rooms → IsIn room rooms → room_of room.name rooms ≡ Some room
found [] room a k = absurd k
found (x ∷ rooms) room a (inl e) = subst (λ r. room_of r.name (x ∷ rooms) ≡ Some r) e (ap (λ b. cond b (Some x) (room_of x.name rooms)) (same_refl x.name))
found (x ∷ rooms) room a (inr k) = tested (same x.name room.name)
    (λ e. absurd (false≢true (sym (not_later x.name rooms room a.0 k) ∙ same_swap x.name room.name e)))
    (λ e. ap (λ b. cond b (Some x) (room_of room.name rooms)) e ∙ found rooms room a.1 k)

-- each room of the name shows the same as the other world
abbrev Shows : List ℕ → World → List Room → Type 0
Shows name v rooms = Each (λ room. same room.name name ≡ true → v.shown ≡ room.world.shown) rooms

shown_by : (v w : World) (b : Bool) → (b ≡ true → v.shown ≡ w.shown) → (cond b v w).shown ≡ w.shown
shown_by v w true h = h refl
shown_by v w false h = refl

-- only the room itself has its name
only_named : (rooms : List Room) (room : Room) (v : World) → AreApart rooms → IsIn room rooms → v.shown ≡ room.world.shown → Shows room.name v rooms
only_named [] room v a k e = tt
only_named (x ∷ rooms) room v a (inl q) e = subst (λ r. v.shown ≡ r.world.shown → Shows r.name v (x ∷ rooms)) q (λ z. ((λ y. z), others x.name rooms a.0)) e
  where
    others : (name : List ℕ) (xs : List Room) → room_of name xs ≡ None → Shows name v xs
    others name xs n = each xs (λ r k y. absurd (false≢true (sym (not_later name xs r n k) ∙ y)))
      where
        each : (ys : List Room) → ((r : Room) → IsIn r ys → same r.name name ≡ true → v.shown ≡ r.world.shown) → Shows name v ys
        each [] h = tt
        each (y ∷ ys) h = (h y (inl refl), each ys (λ r k. h r (inr k)))
only_named (x ∷ rooms) room v a (inr k) e = ((λ y. absurd (false≢true (sym (not_later x.name rooms room a.0 k) ∙ same_swap x.name room.name y))), only_named rooms room v a.1 k e)

head_alike : {X : Type 0} {x y : X} {xs ys : List X} → (x ∷ xs) ≡ (y ∷ ys) → x ≡ y
head_alike e = cc

tail_alike : {X : Type 0} {x y : X} {xs ys : List X} → (x ∷ xs) ≡ (y ∷ ys) → xs ≡ ys
tail_alike e = cc

module _ {Q R : Type 0} (st : Stepper Q R) where
  -- one room
  plain_replies : (w : World) (h : List Entry) (turns : List (Turn Q)) → replies_in st (alone w h) (map plain turns) ≡ replies st w h turns
  plain_replies w h [] = refl
  plain_replies w h (t ∷ rest) = ap (λ x. reply st w h t ∷ x) (plain_replies w (next st w.shown h t) rest)

  plain_end : (w : World) (h : List Entry) (turns : List (Turn Q)) → end_in st (alone w h) (map plain turns) ≡ alone w (end st w.shown h turns)
  plain_end w h [] = refl
  plain_end w h (t ∷ rest) = plain_end w (next st w.shown h t) rest

  pub one_room_is_plain : OneRoomIsPlain st
  one_room_is_plain w h turns = record { same_replies = plain_replies w h turns; same_end = plain_end w h turns }

  -- names stay as they are
  apart_next : (c : Call Q) (rooms : List Room) → AreApart rooms → AreApart (next_in st rooms c)
  unfolding mapped
  apart_next c [] a = tt
  apart_next c (room ∷ rooms) a = (found_map (next_room st c) (λ r. refl) room.name rooms ∙ ap (mapped (next_room st c)) a.0, apart_next c rooms a.1)

  -- the reply to an ask that goes to a room of the list
  reply_of : (rooms : List Room) (room : Room) (c : Call Q) → AreApart rooms → IsIn room rooms → goes_to room.name c ≡ true → reply_in st rooms c ≡ reply st room.world room.history c.turn
  reply_of rooms room c a k e = ap (λ o. reply_by_room st o c) (ap (λ n. room_of n rooms) (same_eq (aim c.group) room.name e) ∙ found rooms room a k)

  by_itself : (rooms : List Room) (cs : List (Call Q)) (room : Room) → AreApart rooms → IsIn room rooms → replies_to room.name cs (replies_in st rooms cs) ≡ replies st room.world room.history (turns_to room.name cs)
  by_itself rooms [] room a k = refl
  by_itself rooms (c ∷ cs) room a k = go (goes_to room.name c) (reply_of rooms room c a k) (by_itself (next_in st rooms c) cs (next_room st c room) (apart_next c rooms a) (map_has (next_room st c) room rooms k))
    where
      go : (b : Bool) → (b ≡ true → reply_in st rooms c ≡ reply st room.world room.history c.turn) → replies_to room.name cs (replies_in st (next_in st rooms c) cs) ≡ replies st room.world (cond b (next st room.world.shown room.history c.turn) room.history) (turns_to room.name cs) → cond b (reply_in st rooms c ∷ replies_to room.name cs (replies_in st (next_in st rooms c) cs)) (replies_to room.name cs (replies_in st (next_in st rooms c) cs)) ≡ replies st room.world room.history (cond b (c.turn ∷ turns_to room.name cs) (turns_to room.name cs))
      go true r e = ap₂ (λ x xs. x ∷ xs) (r refl) e
      go false r e = e

  ended_next : (c : Call Q) (cs : List (Call Q)) (room : Room) → ended st cs (next_room st c room) ≡ ended st (c ∷ cs) room
  ended_next c cs room = go (goes_to room.name c)
    where
      make : List Entry → Room
      make h = record { name = room.name; world = room.world; history = h }

      go : (b : Bool) → make (end st room.world.shown (cond b (next st room.world.shown room.history c.turn) room.history) (turns_to room.name cs)) ≡ make (end st room.world.shown room.history (cond b (c.turn ∷ turns_to room.name cs) (turns_to room.name cs)))
      go true = refl
      go false = refl

  at_end : (rooms : List Room) (cs : List (Call Q)) (room : Room) → IsIn room rooms → IsIn (ended st cs room) (end_in st rooms cs)
  at_end rooms [] room k = k
  at_end rooms (c ∷ cs) room k = subst (λ r. IsIn r (end_in st (next_in st rooms c) cs)) (ended_next c cs room) (at_end (next_in st rooms c) cs (next_room st c room) (map_has (next_room st c) room rooms k))

  pub rooms_are_by_themselves : RoomsAreByThemselves st
  rooms_are_by_themselves rooms cs room a k = record { same_replies = by_itself rooms cs room a k; same_end = at_end rooms cs room k }

  shows_next : (name : List ℕ) (v : World) (c : Call Q) (rooms : List Room) → Shows name v rooms → Shows name v (next_in st rooms c)
  shows_next name v c [] s = tt
  shows_next name v c (room ∷ rooms) s = (s.0, shows_next name v c rooms s.1)

  world_next : (name : List ℕ) (v : World) (c : Call Q) (rooms : List Room) → Shows name v rooms → next_in st (with_world name v rooms) c ≡ with_world name v (next_in st rooms c)
  world_next name v c [] s = refl
  world_next name v c (room ∷ rooms) s = ap₂ (λ x xs. x ∷ xs) (ap make (shown_by v room.world (same room.name name) s.0)) (world_next name v c rooms s.1)
    where
      make : Public → Room
      make g = record { name = room.name; world = cond (same room.name name) v room.world; history = cond (goes_to room.name c) (next st g room.history c.turn) room.history }

  world_end : (name : List ℕ) (v : World) (cs : List (Call Q)) (rooms : List Room) → Shows name v rooms → end_in st (with_world name v rooms) cs ≡ with_world name v (end_in st rooms cs)
  world_end name v [] rooms s = refl
  world_end name v (c ∷ cs) rooms s = ap (λ x. end_in st x cs) (world_next name v c rooms s) ∙ world_end name v cs (next_in st rooms c) (shows_next name v c rooms s)

  -- a reply with another world in one room
  reply_other : (rooms : List Room) (room : Room) (v : World) (c : Call Q) → AreApart rooms → IsIn room rooms → (goes_to room.name c ≡ true → reply st v room.history c.turn ≡ reply st room.world room.history c.turn) → reply_in st (with_world room.name v rooms) c ≡ reply_in st rooms c
  unfolding mapped
  reply_other rooms room v c a k h =
      ap (λ o. reply_by_room st o c) (found_map (other_world room.name v) (λ r. refl) (aim c.group) rooms)
      ∙ tested (goes_to room.name c) here elsewhere
    where
      here : goes_to room.name c ≡ true → reply_by_room st (mapped (other_world room.name v) (room_of (aim c.group) rooms)) c ≡ reply_by_room st (room_of (aim c.group) rooms) c
      here e =
          let f : room_of (aim c.group) rooms ≡ Some room = ap (λ n. room_of n rooms) (same_eq (aim c.group) room.name e) ∙ found rooms room a k in
          ap (λ o. reply_by_room st (mapped (other_world room.name v) o) c) f
          ∙ ap (λ b. reply st (cond b v room.world) room.history c.turn) (same_refl room.name)
          ∙ h e
          ∙ sym (ap (λ o. reply_by_room st o c) f)

      elsewhere : goes_to room.name c ≡ false → reply_by_room st (mapped (other_world room.name v) (room_of (aim c.group) rooms)) c ≡ reply_by_room st (room_of (aim c.group) rooms) c
      elsewhere e = go (room_of (aim c.group) rooms) refl
        where
          named : (xs : List Room) (x : Room) → room_of (aim c.group) xs ≡ Some x → x.name ≡ aim c.group
          named [] x q = absurd (cc)
          named (y ∷ ys) x q = cases (same y.name (aim c.group)) refl q (named ys x)
            where
              cases : (b : Bool) → same y.name (aim c.group) ≡ b → cond b (Some y) (room_of (aim c.group) ys) ≡ Some x → (room_of (aim c.group) ys ≡ Some x → x.name ≡ aim c.group) → x.name ≡ aim c.group
              cases true p z again = let yx : y ≡ x = cc in subst (λ r. r.name ≡ aim c.group) yx (same_eq y.name (aim c.group) p)
              cases false p z again = again z

          go : (o : Option Room) → room_of (aim c.group) rooms ≡ o → reply_by_room st (mapped (other_world room.name v) o) c ≡ reply_by_room st o c
          go None q = refl
          go (Some x) q = ap (λ b. reply st (cond b v x.world) x.history c.turn) (ap (λ n. same n room.name) (named rooms x q) ∙ e)

  replies_other : (rooms : List Room) (cs : List (Call Q)) (room : Room) (v : World) → AreApart rooms → IsIn room rooms → v.shown ≡ room.world.shown → Shows room.name v rooms → replies st v room.history (turns_to room.name cs) ≡ replies st room.world room.history (turns_to room.name cs) → replies_in st (with_world room.name v rooms) cs ≡ replies_in st rooms cs
  replies_other rooms [] room v a k shown s e = refl
  replies_other rooms (c ∷ cs) room v a k shown s e =
      ap₂ (λ x xs. x ∷ xs)
      (reply_other rooms room v c a k (λ q. head (goes_to room.name c) q e))
      (ap (λ x. replies_in st x cs) (world_next room.name v c rooms s)
      ∙ replies_other (next_in st rooms c) cs (next_room st c room) v (apart_next c rooms a) (map_has (next_room st c) room rooms k) shown (shows_next room.name v c rooms s) (tail (goes_to room.name c) e))
    where
      head : (b : Bool) → b ≡ true → replies st v room.history (cond b (c.turn ∷ turns_to room.name cs) (turns_to room.name cs)) ≡ replies st room.world room.history (cond b (c.turn ∷ turns_to room.name cs) (turns_to room.name cs)) → reply st v room.history c.turn ≡ reply st room.world room.history c.turn
      head true q z = head_alike z
      head false q z = absurd (false≢true q)

      tail : (b : Bool) → replies st v room.history (cond b (c.turn ∷ turns_to room.name cs) (turns_to room.name cs)) ≡ replies st room.world room.history (cond b (c.turn ∷ turns_to room.name cs) (turns_to room.name cs)) → replies st v (cond b (next st room.world.shown room.history c.turn) room.history) (turns_to room.name cs) ≡ replies st room.world (cond b (next st room.world.shown room.history c.turn) room.history) (turns_to room.name cs)
      tail true z = subst (λ g. replies st v (next st g room.history c.turn) (turns_to room.name cs) ≡ replies st room.world (next st room.world.shown room.history c.turn) (turns_to room.name cs)) shown (tail_alike z)
      tail false z = z

  pub other_worlds_are_likewise : OtherWorldsAreLikewise st
  other_worlds_are_likewise rooms cs room v a k shown same = record {
    same_replies = replies_other rooms cs room v a k shown (only_named rooms room v a k shown) same;
    same_end = world_end room.name v cs rooms (only_named rooms room v a k shown);
  }

pub rooms_are_open : RoomsAreOpen
rooms_are_open rooms cs room m t a k ok adm is_in =
    let two = two_worlds room.world room.history (turns_to room.name cs) m t ok adm is_in in
    let v : World = twin room.world m (changes room.world.shown (ended by_rules cs room).history m t) in
    record {
      likewise = other_worlds_are_likewise by_rules rooms cs room v a k refl two.same_replies;
      other_sum = two.other_sum;
    }
