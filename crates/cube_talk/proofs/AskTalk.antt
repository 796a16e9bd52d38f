-- A talk by asks is the talk of a desk.
use Rattle.std.proofs.Common.{◌≡◌, ◌≢◌, ◌≤◌, ◌<◌, ℕ, ◌+◌, true, false, List, [], ◌∷◌, ◌++◌, length, refl, sym, ap, ◌∙◌, append-nil, arith, inl, inr, ◌==◌}
use Rattle.std.specs.declared.option.Option.{Option}
use Rattle.std.specs.Str.Lines.{lines}
use Rattle.std.proofs.lemmas.Bool.Decides.{nat_tests}
use Rattle.cube_model.specs.declared.outcome.Outcome.{Outcome}
use Rattle.cube_io.proofs.Told.{appends_same}
use Rattle.cube_talk.specs.AskLaws.{asks_long, said_long, rooms_long, asks_append, said_append, up_to_over, within_one}
use Rattle.cube_talk.specs.Asks.{is_too_long, too_large, asks_in, up_to_asks, said, rooms_behind, talk, AnswersAsks, Says}
use Rattle.cube_talk.specs.Lines.{ended_lines}
use Rattle.cube_talk.specs.Moments.{Moment}
use Rattle.cube_talk.specs.Talk.{Puts, Goes}
use Rattle.cube_talk.specs.declared.talk.Ending.{Ending}
use Rattle.cube_talk.specs.declared.talk.Ending.TheVariants.{Ended, InputFailed, OutputFailed, NoMemory, Spent}
use Rattle.cube_talk.proofs.Spoken.{broken_before}

no_capacity : (capacity : ℕ) → (capacity == 0) ≡ true → capacity ≡ 0
no_capacity capacity e = grind (arith, nat_tests)

pub some_capacity : (capacity : ℕ) → (capacity == 0) ≡ false → 1 ≤ capacity
some_capacity capacity e = grind (arith, nat_tests)

none_left : (ls : List (List ℕ)) → up_to_asks 0 ls ≡ []
none_left ls = refl

-- a line that is too long is no ask
pub too_long_said : (x : Moment) (line : List ℕ) → 65536 < length line → 1 ≤ x.capacity → AnswersAsks x x (line ∷ []) too_large
too_long_said x line h some =
    let l : is_too_long line ≡ true = grind (arith, nat_tests) in
    record {
      manner = refl;
      added = [];
      outcomes_are = sym (append-nil x.outcomes);
      matched = sym (asks_long line [] l);
      rooms_are = sym (rooms_long x.manner x.rooms line [] [] l);
      text_is = sym (append-nil too_large) ∙ sym (said_long x.manner x.rooms line [] [] l);
      capacity_left = rw (asks_long line [] l) (omega arith);
      within = within_one x.capacity line some;
      later = omega arith;
      steady = λ e. refl;
      risen = omega arith;
      fresh = tt;
    }

pub too_long_adds : (x : Moment) (line : List ℕ) (h : 65536 < length line) (some : 1 ≤ x.capacity) → (too_long_said x line h some).added ≡ []
unfolding too_long_said
too_long_adds x line h some = refl

-- all outcomes are of these lines
pub added_are : (x y : Moment) (first : List (List ℕ)) (text : List ℕ) → x.outcomes ≡ [] → (a : AnswersAsks x y first text) → y.outcomes ≡ a.added
added_are x y first text fresh a = a.outcomes_are ∙ ap (λ (o : List Outcome). o ++ a.added) fresh

-- all the lines were answered
said_all : (x y : Moment) (first ls : List (List ℕ)) (text : List ℕ) → x.outcomes ≡ [] → first ≡ ls → AnswersAsks x y first text → text ≡ talk x.manner x.rooms ls y.outcomes x.capacity
said_all x y first ls text fresh is a =
    a.text_is ∙ ap (λ (l : List (List ℕ)). said x.manner x.rooms l a.added) (sym a.within ∙ ap (up_to_asks x.capacity) is)
    ∙ ap (λ (o : List Outcome). said x.manner x.rooms (up_to_asks x.capacity ls) o) (sym (added_are x y first text fresh a))

-- the first of the lines were answered
said_first : (x y : Moment) (first more ls : List (List ℕ)) (text : List ℕ) → x.outcomes ≡ [] → ls ≡ first ++ more → (a : AnswersAsks x y first text)
    → talk x.manner x.rooms ls y.outcomes x.capacity ≡ text ++ said x.manner (rooms_behind x.manner x.rooms first a.added) (up_to_asks y.capacity more) []
said_first x y first more ls text fresh is a =
    ap (λ (l : List (List ℕ)). said x.manner x.rooms (up_to_asks x.capacity l) y.outcomes) is
    ∙ ap (λ (l : List (List ℕ)). said x.manner x.rooms l y.outcomes) (up_to_over x.capacity y.capacity first more a.within (sym a.capacity_left))
    ∙ ap (λ (o : List Outcome). said x.manner x.rooms (first ++ up_to_asks y.capacity more) o) (added_are x y first text fresh a ∙ sym (append-nil a.added))
    ∙ said_append x.manner first (up_to_asks y.capacity more) [] x.rooms a.added a.matched
    ∙ ap (λ (l : List ℕ). l ++ said x.manner (rooms_behind x.manner x.rooms first a.added) (up_to_asks y.capacity more) []) (sym a.text_is)

many : (x y : Moment) (first : List (List ℕ)) (text : List ℕ) → x.outcomes ≡ [] → AnswersAsks x y first text → length y.outcomes ≡ asks_in first
many x y first text fresh a = ap length (added_are x y first text fresh a) ∙ a.matched

-- what was written of the talk, by how it ended
pub said_of : (ending : Ending) (x y : Moment) (text spoken : List ℕ) (first more : List (List ℕ)) (w w' : Option (List ℕ)) → ending ≢ NoMemory → x.outcomes ≡ []
    → lines text ≡ first ++ more → AnswersAsks x y first spoken → Puts ending w w' spoken → Goes ending text first more (y.capacity == 0) → Says ending x.manner x.rooms x.capacity y.outcomes text w w'
said_of Ended x y text spoken first more w w' n fresh split a put (none, going, short) =
    let all : first ≡ lines text = sym (split ∙ rw none (append-nil first)) in
    let count = many x y first spoken fresh a in
    let left = some_capacity y.capacity going in
    (rw (sym all) count, omega (arith, count, left, a.capacity_left), short, appends_same w w' spoken (talk x.manner x.rooms (lines text) y.outcomes x.capacity) (said_all x y first (lines text) spoken fresh all a) put)
said_of InputFailed x y text spoken first more w w' n fresh split a put (ended, going, short) =
    let count = many x y first spoken fresh a in
    let left = some_capacity y.capacity going in
    (rw (sym ended) count, omega (arith, count, left, a.capacity_left), short, appends_same w w' spoken (talk x.manner x.rooms (ended_lines text) y.outcomes x.capacity) (said_all x y first (ended_lines text) spoken fresh ended a) put)
said_of OutputFailed x y text spoken first more w w' n fresh split a put goes =
    rw (said_first x y first more (lines text) spoken fresh split a) (broken_before spoken (said x.manner (rooms_behind x.manner x.rooms first a.added) (up_to_asks y.capacity more) []) w w' put)
said_of NoMemory x y text spoken first more w w' n fresh split a put goes = absurd (n refl)
said_of Spent x y text spoken first more w w' n fresh split a put (inl done) =
    let none = no_capacity y.capacity done in
    let count = many x y first spoken fresh a in
    let whole = said_first x y first more (lines text) spoken fresh split a in
    let all : talk x.manner x.rooms (lines text) y.outcomes x.capacity ≡ spoken = whole ∙ ap (λ (k : ℕ). spoken ++ said x.manner (rooms_behind x.manner x.rooms first a.added) (up_to_asks k more) []) none ∙ append-nil spoken in
    let asks : asks_in (lines text) ≡ asks_in first + asks_in more = ap asks_in split ∙ asks_append first more in
    inl (omega (arith, count, none, a.capacity_left), omega (arith, asks, none, a.capacity_left), appends_same w w' spoken (talk x.manner x.rooms (lines text) y.outcomes x.capacity) (sym all) put)
said_of Spent x y text spoken first more w w' n fresh split a put (inr (ended, going, full)) =
    let count = many x y first spoken fresh a in
    let left = some_capacity y.capacity going in
    inr (rw (sym ended) count, omega (arith, count, left, a.capacity_left), full, appends_same w w' spoken (talk x.manner x.rooms (ended_lines text) y.outcomes x.capacity) (said_all x y first (ended_lines text) spoken fresh ended a) put)
