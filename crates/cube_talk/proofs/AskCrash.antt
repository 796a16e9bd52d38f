-- What is said to one line, and what a crash leaves meanwhile.
use Rattle.std.proofs.Common.{◌≡◌, ◌≢◌, ◌⊎◌, ◌≤◌, ◌<◌, ℕ, ◌+◌, ◌*◌, Bool, cond, IsTrue, true, false, List, [], ◌∷◌, ◌++◌, drop, length, refl, sym, ap, subst, ◌∙◌, append-nil, arith, inl, inr, ⊎_elim}
use Rattle.std.proofs.lemmas.Bool.Decides.{nat_tests}
use Rattle.cube_io.specs.Causes.{RoseBy}
use Rattle.cube_io.specs.Desks.{IsConstant, Answered, ForeignStay, GivesRooms, LeavesAll, IsOneOf, faults_in, has_fault, most_calls}
use Rattle.cube_io.specs.Seen.{StoreState}
use Rattle.cube_io.specs.States.{State, Log, Gained}
use Rattle.cube_io.proofs.Leaving.{leaves_all_none, leaves_all_map}
use Rattle.cube_io.proofs.Outcomes.{memory_or_not}
use Rattle.cube_io.proofs.Trails.{gained_none, gained_map}
use Rattle.cube_model.specs.declared.outcome.Outcome.{Outcome}
use Rattle.cube_model.specs.declared.outcome.Outcome.TheVariants.{Given, JournalFault, NoMemory}
use Rattle.cube_model.specs.declared.reply.Fixed.TheVariants as constant
use Rattle.cube_model.specs.declared.reply.Reply.{Reply}
use Rattle.cube_model.specs.declared.reply.Reply.TheVariants.{Fixed}
use Rattle.cube_model.specs.Rooms.{Room}
use Rattle.cube_talk.specs.AskLaws.{asks_one, rooms_one, said_one, within_one}
use Rattle.cube_talk.specs.Asks.{ask_of, is_too_long, too_large, AnswersAsks}
use Rattle.cube_talk.specs.Crashes.{IsLineInHand, IsSame, IsPassed, Survives, AnswersDurably}
use Rattle.cube_talk.specs.Moments.{Moment}
use Rattle.cube_talk.specs.Replies.{reply_text}
use Rattle.cube_talk.proofs.AskTalk.{too_long_said, too_long_adds}

-- a line that is too long leaves all as it was
too_long_survives : (x : Moment) (ls : List (List ℕ)) → Survives x x ls []
too_long_survives x ls = record {
  told_stays = refl;
  names_stay = λ t. refl;
  exact_stays = λ r log s. (λ h. h, λ h. h);
  within_stays = λ r log s. (λ h. h, λ h. h);
  passed = λ t log w. gained_none (IsPassed x.manner x.rooms ls [] x.within log) (x.store.logs log) (x.store.logs log) refl;
  ends_within = λ t log w. w;
  ends_exact = λ t none log e. e;
  in_hand = λ t log w. leaves_all_none (GivesRooms x.exact log) (IsLineInHand x.manner x.rooms ls []) (x.store.logs log) (x.store.logs log) refl;
  others = λ t log no. refl;
  calls = λ t. omega arith;
}

pub too_long_serves : (x : Moment) (line : List ℕ) → 65536 < length line → 1 ≤ x.capacity → AnswersDurably x x (line ∷ []) too_large
too_long_serves x line h some = (
  too_long_said x line h some,
  subst (λ (added : List Outcome). Survives x x (line ∷ []) added) (sym (too_long_adds x line h some)) (too_long_survives x (line ∷ [])),
)

last_is : (os : List Outcome) (a b : Outcome) → os ++ a ∷ [] ≡ os ++ b ∷ [] → a ≡ b
last_is [] a b e = cc
last_is (o ∷ os) a b e = last_is os a b (ap (λ (l : List Outcome). drop 1 l) e)

short_line : (line : List ℕ) → length line ≤ 65536 → is_too_long line ≡ false
short_line line h = grind (arith, nat_tests)

-- how often the journal failed in one ask
no_fault : (o : Outcome) → faults_in (o ∷ []) ≡ 0 → o ≢ JournalFault
no_fault Given none = λ e. cc
no_fault JournalFault none = absurd (omega (arith, none))
no_fault NoMemory none = λ e. cc

risen_by : (o : Outcome) (before now : ℕ) → before ≤ now → (o ≡ JournalFault → RoseBy 1 before now) → RoseBy (faults_in (o ∷ [])) before now
risen_by Given before now later rose = omega (arith, later)
risen_by JournalFault before now later rose = rose refl
risen_by NoMemory before now later rose = omega (arith, later)

-- two calls or four
at_most_four : (b : Bool) (x y : ℕ) → y ≤ x + cond b 4 2 → y ≤ x + 4 * 1
at_most_four true x y f = omega (arith, f)
at_most_four false x y f = omega (arith, f)

answered_one : (x y : Moment) (line : List ℕ) (reply : Reply) → length line ≤ 65536 → y.manner ≡ x.manner → 1 ≤ x.capacity → y.capacity + 1 ≡ x.capacity
    → (a : Answered x.manner (ask_of line) x.rooms y.rooms x.outcomes y.outcomes x.store.faults y.store.faults reply) → AnswersAsks x y (line ∷ []) (reply_text reply)
answered_one x y line reply short same some left a =
    let f = short_line line short in
    record {
      manner = same;
      added = a.outcome ∷ [];
      outcomes_are = a.added;
      matched = sym (asks_one line [] f);
      rooms_are = a.moved ∙ sym (rooms_one x.manner x.rooms line [] a.outcome [] f);
      text_is = ap reply_text a.replied ∙ sym (append-nil (reply_text (x.manner.reply x.rooms (ask_of line) a.outcome))) ∙ sym (said_one x.manner x.rooms line [] a.outcome [] f);
      capacity_left = rw (asks_one line [] f) left;
      within = within_one x.capacity line some;
      later = a.later;
      steady = λ none. a.steady (no_fault a.outcome none);
      risen = risen_by a.outcome x.store.faults y.store.faults a.later (λ is. (a.failed is).0);
      fresh = (λ long. tt, λ ask. (λ is. (a.failed is).1, tt));
    }

-- what a desk says of one ask is what is said of its line
pub one_serves : (x y : Moment) (line : List ℕ) (reply : Reply)
    → length line ≤ 65536 → y.manner ≡ x.manner → 1 ≤ x.capacity → y.capacity + 1 ≡ x.capacity → (a : Answered x.manner (ask_of line) x.rooms y.rooms x.outcomes y.outcomes x.store.faults y.store.faults reply)
    → y.store.told ≡ x.store.told → (IsTrue x.store.told → y.store.names ≡ x.store.names) → IsSame y.exact x.exact → IsSame y.within x.within
    → (IsTrue x.store.told → (log : ℕ) → x.within x.rooms log (x.store.logs log).state → Gained (λ s. x.within x.rooms log s ⊎ x.within y.rooms log s) (x.store.logs log) (y.store.logs log))
    → (IsTrue x.store.told → (log : ℕ) → x.within x.rooms log (x.store.logs log).state → y.within y.rooms log (y.store.logs log).state)
    → (y.outcomes ≢ x.outcomes ++ JournalFault ∷ [] → IsTrue x.store.told → (log : ℕ) → x.exact x.rooms log (x.store.logs log).state → y.exact y.rooms log (y.store.logs log).state)
    → ForeignStay x.within x.store y.store
    → (IsTrue x.store.told → (log : ℕ) → x.within x.rooms log (x.store.logs log).state → LeavesAll (GivesRooms x.exact log) (IsOneOf x.rooms (x.manner.next x.rooms (ask_of line) Given)) (x.store.logs log) (y.store.logs log))
    → (y.outcomes ≡ x.outcomes ++ NoMemory ∷ [] → y.store ≡ x.store) → (IsTrue x.store.told → y.store.calls ≤ x.store.calls + most_calls x.outcomes) → AnswersDurably x y (line ∷ []) (reply_text reply)
unfolding answered_one
one_serves x y line reply short same some left a tells named exactly wholly passed ends only others hand spared called =
    let answers = answered_one x y line reply short same some left a in (
      answers,
      record {
        told_stays = tells;
        names_stay = named;
        exact_stays = exactly;
        within_stays = wholly;
        passed = λ t log w. gained_map (λ s. x.within x.rooms log s ⊎ x.within y.rooms log s) (IsPassed x.manner x.rooms (line ∷ []) (a.outcome ∷ []) x.within log) (x.store.logs log) (y.store.logs log) (λ s p. by_side log s p) (passed t log w);
        ends_within = ends;
        ends_exact = λ t none log e. only (λ bad. no_fault a.outcome none (last_is x.outcomes a.outcome JournalFault (sym a.added ∙ bad))) t log e;
        in_hand = λ t log w. ⊎_elim
            (λ is. leaves_all_none (GivesRooms x.exact log) (IsLineInHand x.manner x.rooms (line ∷ []) (a.outcome ∷ [])) (x.store.logs log) (y.store.logs log)
            (ap (λ (s : StoreState). s.logs log) (spared (a.added ∙ ap (λ (o : Outcome). x.outcomes ++ o ∷ []) is))))
            (λ found. leaves_all_map (GivesRooms x.exact log) (GivesRooms x.exact log) (IsOneOf x.rooms (x.manner.next x.rooms (ask_of line) Given)) (IsLineInHand x.manner x.rooms (line ∷ []) (a.outcome ∷ [])) (x.store.logs log) (y.store.logs log)
            (λ r bytes one g. (r, in_turn found r one, g)) (hand t log w))
            (memory_or_not a.outcome);
        others = others;
        calls = λ t. at_most_four (has_fault x.outcomes) x.store.calls y.store.calls (called t);
      },
    )
  where
    in_turn : a.outcome ≢ NoMemory → (r : List Room) → IsOneOf x.rooms (x.manner.next x.rooms (ask_of line) Given) r → IsLineInHand x.manner x.rooms (line ∷ []) (a.outcome ∷ []) r
    in_turn found r (inl e) = inl (record { first = []; more = line ∷ []; split = refl; are = e })
    in_turn found r (inr e) = inr (record { first = []; line = line; more = []; split = refl; short = short_line line short; earlier = []; outcome = a.outcome; later = []; outcomes_split = refl; in_turn = refl; found = found; are = e })

    by_side : (log : ℕ) (s : State) → x.within x.rooms log s ⊎ x.within y.rooms log s → IsPassed x.manner x.rooms (line ∷ []) (a.outcome ∷ []) x.within log s
    by_side log s (inl p) = (x.rooms, record { first = []; more = line ∷ []; split = refl; are = refl }, p)
    by_side log s (inr p) = (y.rooms, record { first = line ∷ []; more = []; split = refl; are = a.moved ∙ sym (rooms_one x.manner x.rooms line [] a.outcome [] (short_line line short)) }, p)

-- an ask that found no memory
pub missed : (x y : Moment) (line : List ℕ) (reply : Reply) → y.store ≡ x.store → IsConstant x.manner → reply ≡ Fixed constant.NoMemory → y.outcomes ≡ x.outcomes ++ NoMemory ∷ [] → y.rooms ≡ x.rooms
    → Answered x.manner (ask_of line) x.rooms y.rooms x.outcomes y.outcomes x.store.faults y.store.faults reply
missed x y line reply idle always is added stays = record {
  outcome = NoMemory;
  added = added;
  replied = is ∙ sym (always.memory x.rooms (ask_of line)).0;
  moved = stays ∙ sym (always.memory x.rooms (ask_of line)).1;
  later = let same = faults_stay in omega (arith, same);
  steady = λ n. faults_stay;
  failed = λ e. absurd (unlike e);
}
  where
    faults_stay : y.store.faults ≡ x.store.faults
    faults_stay = ap (λ (s : StoreState). s.faults) idle

    unlike : NoMemory ≡ JournalFault → ⊥
    unlike e = cc

pub missed_serves : (x y : Moment) (line : List ℕ) (reply : Reply) → y.store ≡ x.store
    → length line ≤ 65536 → y.manner ≡ x.manner → 1 ≤ x.capacity → y.capacity + 1 ≡ x.capacity → IsConstant x.manner → reply ≡ Fixed constant.NoMemory → y.outcomes ≡ x.outcomes ++ NoMemory ∷ [] → y.rooms ≡ x.rooms → IsSame y.exact x.exact → IsSame y.within x.within
    → AnswersDurably x y (line ∷ []) (reply_text reply)
missed_serves x y line reply idle short same some left always is added stays exactly wholly =
    let logs = λ (log : ℕ). ap (λ (s : StoreState). s.logs log) idle in
    one_serves x y line reply short same some left (missed x y line reply idle always is added stays)
    (ap (λ (s : StoreState). s.told) idle) (λ t. ap (λ (s : StoreState). s.names) idle) exactly wholly
    (λ t log w. gained_none (λ s. x.within x.rooms log s ⊎ x.within y.rooms log s) (x.store.logs log) (y.store.logs log) (logs log))
    (λ t log w. subst (λ (l : Log). y.within y.rooms log l.state) (sym (logs log)) ((wholly y.rooms log (x.store.logs log).state).1 (subst (λ (rs : List Room). x.within rs log (x.store.logs log).state) (sym stays) w)))
    (λ none t log e. subst (λ (l : Log). y.exact y.rooms log l.state) (sym (logs log)) ((exactly y.rooms log (x.store.logs log).state).1 (subst (λ (rs : List Room). x.exact rs log (x.store.logs log).state) (sym stays) e)))
    (λ t log no. logs log)
    (λ t log w. leaves_all_none (GivesRooms x.exact log) (IsOneOf x.rooms (x.manner.next x.rooms (ask_of line) Given)) (x.store.logs log) (y.store.logs log) (logs log))
    (λ e. idle) (λ t. let same = ap (λ (s : StoreState). s.calls) idle in omega (arith, same))
