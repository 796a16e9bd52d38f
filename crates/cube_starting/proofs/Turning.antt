-- An ask over books: one of them answers it, or none has the name.
use Rattle.std.proofs.Common.{◌≡◌, ◌≢◌, ◌⊎◌, inl, inr, ⊎_elim, ℕ, Bool, true, false, ◌||◌, cond, List, [], ◌∷◌, ◌++◌, get_or, refl, sym, ap, ap₂, subst, ◌∙◌, eqb, eqb-true, eq-eqb, Some, None, IsTrue, arith}
use Rattle.std.specs.List.{position}
use Rattle.std.specs.Prelude.{slice_set}
use Rattle.std.proofs.lemmas.Bool.{false≢true}
use Rattle.std.proofs.Math.Seq.{set-append_seam}
use Rattle.cube_model.specs.declared.ask.Ask.{Ask}
use Rattle.cube_model.specs.declared.entry.Entry.{Entry}
use Rattle.cube_model.specs.declared.outcome.Outcome.{Outcome}
use Rattle.cube_model.specs.declared.outcome.Outcome.TheVariants.{Given, JournalFault}
use Rattle.cube_model.specs.declared.policy.Policy.{Policy}
use Rattle.cube_model.specs.declared.reply.Reply.{Reply}
use Rattle.cube_model.specs.Cores.{Core, shown, world}
use Rattle.cube_model.specs.Cubes.{Each, same}
use Rattle.cube_model.specs.Dims.{Dims}
use Rattle.cube_model.specs.Rooms.{Room, aim, room_of, reply_by_room, next_room, missed_by}
use Rattle.cube_model.specs.Runs.{reply_by, next_by}
use Rattle.cube_model.proofs.Members.{tested}
use Rattle.cube_io.specs.Seen.{StoreState}
use Rattle.cube_io.specs.States.{State, Log, Gained, settled}
use Rattle.cube_io.specs.Desks.{GivesRooms, LeavesAll, IsOneOf}
use Rattle.cube_io.proofs.Leaving.{leaves_all_map, leaves_all_none}
use Rattle.cube_io.proofs.Outcomes.{works_more}
use Rattle.cube_io.proofs.Trails.{gained_none, gained_map}
use Rattle.cube_engine.specs.Books.{book_history, AnswersOne}
use Rattle.cube_engine.specs.Kept.{IsKept, GivesHistory, IsExact, IsWithin}
use Rattle.cube_engine.specs.Steps.{by_words, call, manner}
use Rattle.cube_engine.proofs.Settled.{settled_exact}
use Rattle.cube_starting.specs.NamedBooks.{room, rooms_of, dims_of, is_named, any_failed, IsKeptIn, AreInOrder, place, places_of, HoldsAt, IsTurn}
use Rattle.cube_starting.specs.declared.named.NamedBook.{NamedBook}
use Rattle.cube_starting.proofs.Lists.{head_alike, tail_alike}
use Rattle.cube_starting.proofs.Placed.{flip, none_named, Split, split, after, same_places, same_length, same_dims, apart_keeps, numbered_keeps, each_keeps, each_here, each_maps, front_logs, back_logs, kept_keeps, own_holds, only_holds, other_holds}

-- ---- rooms behind a turn

module _ (s : Dims) (a : Ask) (o : Outcome) where
  stays : (x : NamedBook) → same x.name (aim a.group) ≡ false → next_room (by_words s) (call a o) (room x) ≡ room x
  stays x f = ap (λ b. record { name = x.name; world = world x.book.core x.book.policy; history = cond b (next_by (by_words s) o a.question (shown x.book.core x.book.policy) x.book.history) x.book.history }) (flip (aim a.group) x.name ∙ f)

  pub all_stay : (xs : List NamedBook) → Each (λ x. same x.name (aim a.group) ≡ false) xs → (manner s).next (rooms_of xs) a o ≡ rooms_of xs
  all_stay [] e = refl
  all_stay (x ∷ xs) e = ap₂ (λ r rs. r ∷ rs) (stays x e.0) (all_stay xs e.1)

  pub missing : (xs : List NamedBook) → Each (λ x. same x.name (aim a.group) ≡ false) xs → room_of (aim a.group) (rooms_of xs) ≡ None
  missing [] e = refl
  missing (x ∷ xs) e = ap (λ b. cond b (Some (room x)) (room_of (aim a.group) (rooms_of xs))) e.0 ∙ missing xs e.1

-- the room of a book with another history
abbrev as_room : NamedBook → List Entry → Room
as_room g h = record { name = g.name; world = world g.book.core g.book.policy; history = h }

module _ (g : NamedBook) (back : List NamedBook) where
  seam : (front : List NamedBook) → rooms_of (front ++ g ∷ back) ≡ rooms_of front ++ room g ∷ rooms_of back
  seam [] = refl
  seam (x ∷ front) = ap (λ rs. room x ∷ rs) (seam front)

  -- bytes that give it a history back give that of its room back
  own_gives : (h : List Entry) (bytes : List ℕ) → GivesHistory g.book.core g.book.policy h bytes → (front : List NamedBook)
      → HoldsAt IsExact (places_of (front ++ g ∷ back)) (rooms_of front ++ as_room g h ∷ rooms_of back) g.book.journal.log (settled bytes)
  own_gives h bytes r [] = inl (refl, settled_exact g.book.core g.book.policy bytes h (settled bytes) refl r)
  own_gives h bytes r (x ∷ front) = inr (own_gives h bytes r front)

  own_history : (front : List NamedBook) (r q : Room) → rooms_of front ++ r ∷ rooms_of back ≡ rooms_of front ++ q ∷ rooms_of back → r.history ≡ q.history
  own_history [] r q e = ap (λ (z : Room). z.history) (head_alike e)
  own_history (x ∷ front) r q e = own_history front r q (tail_alike e)

module _ (s : Dims) (a : Ask) (g : NamedBook) (back : List NamedBook) (here : same g.name (aim a.group) ≡ true) where
  found : (front : List NamedBook) → Each (λ x. same x.name (aim a.group) ≡ false) front → room_of (aim a.group) (rooms_of (front ++ g ∷ back)) ≡ Some (room g)
  found [] e = ap (λ b. cond b (Some (room g)) (room_of (aim a.group) (rooms_of back))) here
  found (x ∷ front) e = ap (λ b. cond b (Some (room x)) (room_of (aim a.group) (rooms_of (front ++ g ∷ back)))) e.0 ∙ found front e.1

  abbrev then : Outcome → List Entry
  then o = next_by (by_words s) o a.question (shown g.book.core g.book.policy) g.book.history

  moves : (o : Outcome) → Each (λ x. same x.name (aim a.group) ≡ false) back → (front : List NamedBook) → Each (λ x. same x.name (aim a.group) ≡ false) front
      → (manner s).next (rooms_of (front ++ g ∷ back)) a o ≡ rooms_of front ++ as_room g (then o) ∷ rooms_of back
  moves o f [] e = ap₂ (λ r rs. r ∷ rs) (ap (λ b. as_room g (cond b (then o) g.book.history)) (flip (aim a.group) g.name ∙ here)) (all_stay s a o back f)
  moves o f (x ∷ front) e = ap₂ (λ r rs. r ∷ rs) (stays s a o x e.0) (moves o f front e.1)

-- ---- failed keeps

either_true : (a b : Bool) → b ≡ true → (a || b) ≡ true
either_true true b e = refl
either_true false b e = e

either_left : (a b c : Bool) → (a ≡ true → b ≡ true) → (a || c) ≡ true → (b || c) ≡ true
either_left true b c f t = ap (λ x. x || c) (f refl)
either_left false b c f t = either_true b c t

either_right : (a b c : Bool) → (b ≡ true → c ≡ true) → (a || b) ≡ true → (a || c) ≡ true
either_right true b c f t = refl
either_right false b c f t = f t

module _ (g : NamedBook) (back : List NamedBook) where
  -- a failed keep of one book is one of some book
  failed_here : (front : List NamedBook) → g.book.journal.failed ≡ true → any_failed (front ++ g ∷ back) ≡ true
  failed_here [] e = ap (λ b. b || any_failed back) e
  failed_here (x ∷ front) e = either_true x.book.journal.failed (any_failed (front ++ g ∷ back)) (failed_here front e)

  -- where another stands in its place, whose last keep failed only where its own did
  failed_instead : (h : NamedBook) → (h.book.journal.failed ≡ true → g.book.journal.failed ≡ true) → (front : List NamedBook) → any_failed (front ++ h ∷ back) ≡ true → any_failed (front ++ g ∷ back) ≡ true
  failed_instead h f [] t = either_left h.book.journal.failed g.book.journal.failed (any_failed back) f t
  failed_instead h f (x ∷ front) t = either_right x.book.journal.failed (any_failed (front ++ h ∷ back)) (any_failed (front ++ g ∷ back)) (failed_instead h f front) t

-- ---- one book answers

-- at this state a crash leaves nothing
abbrev nowhere : State
nowhere = record { now = []; safe = []; tails = [] }

decide : {X : Type 0} (m n : ℕ) → (m ≡ n → X) → (m ≢ n → X) → X
decide m n equal other = tested (eqb m n) (λ t. equal (eqb-true m n t)) (λ f. other (λ e. false≢true (sym f ∙ eq-eqb m n e)))

module _ (front back : List NamedBook) (g h : NamedBook) (a : Ask) (reply : Reply) (o : Outcome) (st st' : StoreState)
    (order : AreInOrder (front ++ g ∷ back)) (before : Each (λ x. same x.name (aim a.group) ≡ false) front) (here : same g.name (aim a.group) ≡ true)
    (name : h.name ≡ g.name) (f : AnswersOne g.book h.book a.question reply o st st') where
  abbrev old : List NamedBook
  old = front ++ g ∷ back

  abbrev new : List NamedBook
  new = front ++ h ∷ back

  -- the rooms behind the ask, where it gets its answer
  abbrev with_ask : List Room
  with_ask = (manner (dims_of old)).next (rooms_of old) a Given

  alike : g.book.core.dims ≡ dims_of old
  alike = each_here (λ x. x.book.core.dims ≡ dims_of old) g front back order.alike

  behind : Each (λ x. same x.name (aim a.group) ≡ false) back
  behind = after (aim a.group) front back g here order.apart

  in_front : Each (λ x. x.book.journal.log ≢ g.book.journal.log) front
  in_front = front_logs 0 front back g order.numbered

  in_back : Each (λ x. x.book.journal.log ≢ g.book.journal.log) back
  in_back = back_logs 0 front back g order.numbered

  to_new : (P : Core → Policy → List Entry → State → Type 0) → P g.book.core g.book.policy h.book.history (st'.logs g.book.journal.log).state → P h.book.core h.book.policy h.book.history (st'.logs h.book.journal.log).state
  to_new P p =
      subst (λ (c : Core). P c h.book.policy h.book.history (st'.logs h.book.journal.log).state) (sym f.core)
      (subst (λ (q : Policy). P g.book.core q h.book.history (st'.logs h.book.journal.log).state) (sym f.policy)
      (subst (λ (n : ℕ). P g.book.core g.book.policy h.book.history (st'.logs n).state) (sym f.log) p))

  -- an ask that would leave the rooms would leave the history
  pub entering : (manner (dims_of old)).next (rooms_of old) a Given ≡ rooms_of old → book_history Given g.book a.question ≡ g.book.history
  entering e =
      ap (λ (s : Dims). next_by (by_words s) Given a.question (shown g.book.core g.book.policy) g.book.history) alike
      ∙ own_history g back front (as_room g (then (dims_of old) a g back here Given)) (room g) (sym (moves (dims_of old) a g back here Given behind front before) ∙ e ∙ seam g back front)

  -- bytes that give the book a history back give the rooms back that have it
  in_room : (x : List Entry) (bytes : List ℕ) → GivesHistory g.book.core g.book.policy x bytes → IsOneOf g.book.history (book_history Given g.book a.question) x
      → (rs : List Room) × IsOneOf (rooms_of old) with_ask rs × GivesRooms (HoldsAt IsExact (places_of old)) g.book.journal.log rs bytes
  in_room x bytes gives (inl e) = (
    rooms_of old,
    inl refl,
    subst (λ rs. HoldsAt IsExact (places_of old) rs g.book.journal.log (settled bytes)) (sym (seam g back front))
        (own_gives g back g.book.history bytes (subst (λ (y : List Entry). GivesHistory g.book.core g.book.policy y bytes) e gives) front),
  )
  in_room x bytes gives (inr e) = (
    with_ask,
    inr refl,
    subst (λ rs. HoldsAt IsExact (places_of old) rs g.book.journal.log (settled bytes)) (sym (moves (dims_of old) a g back here Given behind front before))
        (own_gives g back (then (dims_of old) a g back here Given) bytes
        (subst (λ (s : Dims). GivesHistory g.book.core g.book.policy (next_by (by_words s) Given a.question (shown g.book.core g.book.policy) g.book.history) bytes) alike
        (subst (λ (y : List Entry). GivesHistory g.book.core g.book.policy y bytes) e gives)) front),
  )

  new_room : room h ≡ as_room g h.book.history
  new_room =
      ap (λ n. record { name = n; world = world h.book.core h.book.policy; history = h.book.history }) name
      ∙ ap (λ (c : Core). record { name = g.name; world = world c h.book.policy; history = h.book.history }) f.core
      ∙ ap (λ (p : Policy). record { name = g.name; world = world g.book.core p; history = h.book.history }) f.policy

  same_place : place h ≡ place g
  same_place =
      ap (λ (c : Core). record { core = c; policy = h.book.policy; log = h.book.journal.log }) f.core
      ∙ ap (λ (p : Policy). record { core = g.book.core; policy = p; log = h.book.journal.log }) f.policy
      ∙ ap (λ (n : ℕ). record { core = g.book.core; policy = g.book.policy; log = n }) f.log

  new_dims : dims_of new ≡ dims_of old
  new_dims = same_dims g h back f.core front

  new_order : AreInOrder new
  new_order = record {
    few = let l = same_length g h back front in let m = order.few in omega (arith, l, m);
    apart = apart_keeps g h back name front order.apart;
    numbered = numbered_keeps g h back f.log 0 front order.numbered;
    idle = each_keeps g h back (λ x. x.book.waiting ≡ None) f.none front order.idle;
    alike = each_maps (λ x. x.book.core.dims ≡ dims_of old) (λ x. x.book.core.dims ≡ dims_of new) new (λ x e. e ∙ sym new_dims)
        (each_keeps g h back (λ x. x.book.core.dims ≡ dims_of old) (ap (λ (c : Core). c.dims) f.core ∙ alike) front order.alike);
  }

  pub turn_at : (IsTrue st.told → Each (IsKeptIn st.logs) old) → IsTurn old new a reply o st st'
  turn_at kept = record {
    order = new_order;
    dims = new_dims;
    replied = f.replied
        ∙ ap (λ (s : Dims). reply_by (by_words s) o a.question (world g.book.core g.book.policy) g.book.history) alike
        ∙ sym (ap (λ r. reply_by_room (by_words (dims_of old)) r (call a o)) (found (dims_of old) a g back here front before));
    moved = seam h back front
        ∙ ap (λ r. rooms_of front ++ r ∷ rooms_of back) (new_room ∙ ap (as_room g) (f.history ∙ ap (λ (s : Dims). next_by (by_words s) o a.question (shown g.book.core g.book.policy) g.book.history) alike))
        ∙ sym (moves (dims_of old) a g back here o behind front before);
    cause = record { later = f.cause.later; steady = f.cause.steady; failed = λ e. ((f.cause.failed e).0, λ same. (f.cause.failed e).1 (entering same)) };
    works = works_more g.book.journal.failed (any_failed old) st st' (failed_here g back front) f.works;
    quiet = λ fine. failed_instead g back h (f.quiet fine) front;
    kept = λ told. kept_keeps g.book.journal.log st.logs st'.logs (f.others told) g h front back in_front in_back
        (to_new (λ c p k s. IsKept c p k h.book.journal s) (f.kept told)) (kept told);
    places = same_places g h back same_place front;
    others = λ told log foreign. f.others told log (λ is. foreign (rooms_of old) nowhere
        (subst (λ (n : ℕ). HoldsAt IsWithin (places_of old) (rooms_of old) n nowhere) (sym is) (own_holds IsWithin g front back nowhere (λ b image. absurd image.is_tail))));
    passed = λ told log holds. decide log g.book.journal.log
        (λ e. gained_map (IsWithin g.book.core g.book.policy g.book.history) (λ s. HoldsAt IsWithin (places_of old) (rooms_of old) log s ⊎ HoldsAt IsWithin (places_of old) (rooms_of new) log s) (st.logs log) (st'.logs log)
        (λ s w. inl (subst (λ (n : ℕ). HoldsAt IsWithin (places_of old) (rooms_of old) n s) (sym e) (own_holds IsWithin g front back s w)))
        (subst (λ (n : ℕ). Gained (IsWithin g.book.core g.book.policy g.book.history) (st.logs n) (st'.logs n)) (sym e) (f.crash told)))
        (λ n. gained_none (λ s. HoldsAt IsWithin (places_of old) (rooms_of old) log s ⊎ HoldsAt IsWithin (places_of old) (rooms_of new) log s) (st.logs log) (st'.logs log) (f.others told log n));
    within = λ told log holds. decide log g.book.journal.log
        (λ e. subst (λ (n : ℕ). HoldsAt IsWithin (places_of new) (rooms_of new) n (st'.logs n).state) (f.log ∙ sym e)
        (own_holds IsWithin h front back (st'.logs h.book.journal.log).state (to_new IsWithin (f.within told))))
        (λ n. other_holds IsWithin g h front back log (st'.logs log).state n f.log
        (subst (λ (l : Log). HoldsAt IsWithin (places_of old) (rooms_of old) log l.state) (sym (f.others told log n)) holds));
    exact = λ fine told log holds. decide log g.book.journal.log
        (λ e. subst (λ (n : ℕ). HoldsAt IsExact (places_of new) (rooms_of new) n (st'.logs n).state) (f.log ∙ sym e)
        (own_holds IsExact h front back (st'.logs h.book.journal.log).state (to_new IsExact
        (f.exact fine told (only_holds IsExact g front back (st.logs g.book.journal.log).state in_front in_back
        (subst (λ (n : ℕ). HoldsAt IsExact (places_of old) (rooms_of old) n (st.logs n).state) e holds))))))
        (λ n. other_holds IsExact g h front back log (st'.logs log).state n f.log
        (subst (λ (l : Log). HoldsAt IsExact (places_of old) (rooms_of old) log l.state) (sym (f.others told log n)) holds));
    in_hand = λ told log holds. decide log g.book.journal.log
        (λ e. subst (λ (n : ℕ). LeavesAll (GivesRooms (HoldsAt IsExact (places_of old)) n) (IsOneOf (rooms_of old) with_ask) (st.logs n) (st'.logs n)) (sym e)
        (leaves_all_map (GivesHistory g.book.core g.book.policy) (GivesRooms (HoldsAt IsExact (places_of old)) g.book.journal.log) (IsOneOf g.book.history (book_history Given g.book a.question)) (IsOneOf (rooms_of old) with_ask)
        (st.logs g.book.journal.log) (st'.logs g.book.journal.log) (λ x bytes one gives. in_room x bytes gives one) (f.in_hand told)))
        (λ n. leaves_all_none (GivesRooms (HoldsAt IsExact (places_of old)) log) (IsOneOf (rooms_of old) with_ask) (st.logs log) (st'.logs log) (f.others told log n));
    renewed = λ fine told log holds. decide log g.book.journal.log
        (λ e. ⊎_elim
        (λ same. inl (subst (λ (n : ℕ). st'.logs n ≡ st.logs n) (sym e) same))
        (λ exact. inr (subst (λ (n : ℕ). HoldsAt IsExact (places_of new) (rooms_of new) n (st'.logs n).state) (f.log ∙ sym e)
        (own_holds IsExact h front back (st'.logs h.book.journal.log).state (to_new IsExact exact))))
        (f.renewed fine told))
        (λ n. inl (f.others told log n));
  }

-- the same of a list with the book at a place
module _ (gs : List NamedBook) (g h : NamedBook) (k : ℕ) (a : Ask) (reply : Reply) (o : Outcome) (st st' : StoreState)
    (order : AreInOrder gs) (place_is : position (is_named (aim a.group)) gs ≡ Some k) (at : g ≡ get_or gs k g)
    (name : h.name ≡ g.name) (f : AnswersOne g.book h.book a.question reply o st st') where
  parts : Split (aim a.group) gs g k
  parts = split (aim a.group) gs g k place_is at

  set_is : slice_set gs k h ≡ parts.front ++ h ∷ parts.back
  set_is = ap (λ xs. slice_set xs k h) parts.whole ∙ ap (λ (n : ℕ). slice_set (parts.front ++ g ∷ parts.back) n h) (sym parts.long) ∙ set-append_seam parts.front g parts.back h

  pub turned : (IsTrue st.told → Each (IsKeptIn st.logs) gs) → IsTurn gs (slice_set gs k h) a reply o st st'
  turned kept =
      subst (λ xs. IsTurn gs xs a reply o st st') (sym set_is)
      (subst (λ xs. IsTurn xs (parts.front ++ h ∷ parts.back) a reply o st st') (sym parts.whole)
      (turn_at parts.front parts.back g h a reply o st st' (subst AreInOrder parts.whole order) parts.before parts.here name f
      (subst (λ xs. IsTrue st.told → Each (IsKeptIn st.logs) xs) parts.whole kept)))

  pub leaving : (manner (dims_of gs)).next (rooms_of gs) a Given ≡ rooms_of gs → book_history Given g.book a.question ≡ g.book.history
  leaving e = entering parts.front parts.back g h a reply o st st' (subst AreInOrder parts.whole order) parts.before parts.here name f
      (subst (λ xs. (manner (dims_of xs)).next (rooms_of xs) a Given ≡ rooms_of xs) parts.whole e)

-- ---- none has the name

pub missed_turn : (gs : List NamedBook) (a : Ask) (reply : Reply) (o : Outcome) (st : StoreState) → AreInOrder gs → position (is_named (aim a.group)) gs ≡ None → IsTrue st.attached → o ≢ JournalFault → ((s : Dims) → reply ≡ missed_by (by_words s) o a.group)
    → (IsTrue st.told → Each (IsKeptIn st.logs) gs) → IsTurn gs gs a reply o st st
missed_turn gs a reply o st order none attached fine replied kept =
    let other = none_named (aim a.group) gs none in
    record {
      order = order;
      dims = refl;
      replied = replied (dims_of gs) ∙ sym (ap (λ r. reply_by_room (by_words (dims_of gs)) r (call a o)) (missing (dims_of gs) a o gs other));
      moved = sym (all_stay (dims_of gs) a o gs other);
      cause = record { later = omega arith; steady = λ e. refl; failed = λ e. absurd (fine e) };
      works = record { told = refl; attached = attached; names = λ t. refl; calls = λ t. omega arith };
      quiet = λ f t. t;
      kept = kept;
      places = refl;
      others = λ told log foreign. refl;
      passed = λ told log holds. gained_none (λ s. HoldsAt IsWithin (places_of gs) (rooms_of gs) log s ⊎ HoldsAt IsWithin (places_of gs) (rooms_of gs) log s) (st.logs log) (st.logs log) refl;
      within = λ told log holds. holds;
      exact = λ e told log holds. holds;
      in_hand = λ told log holds. leaves_all_none (GivesRooms (HoldsAt IsExact (places_of gs)) log) (IsOneOf (rooms_of gs) ((manner (dims_of gs)).next (rooms_of gs) a Given)) (st.logs log) (st.logs log) refl;
      renewed = λ e told log holds. inl refl;
    }
