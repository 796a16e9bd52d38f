-- A script cut at its line feeds and its spaces, part by part.
use Rattle.std.proofs.Common.{◌≡◌, ℕ, ◌+◌, ◌<◌, List, [], ◌∷◌, ◌++◌, length, take, drop, Bool, true, false, cond, Option, Some, None, Result, Ok, Err, arith, refl, sym, ◌∙◌, ap, nat_lt, ◌==◌, append_assoc, append-nil, if◌then◌else◌}
use Rattle.std.specs.List.{position, position_or_len, slice_split}
use Rattle.std.proofs.lemmas.List.Splits.{slice_split_first, slice_split_none, length-slice_split}
use Rattle.std.proofs.lemmas.List.Sums.{fails_before_first}
use borrow.Author.Tests.{ltb-true, ltb-false}
use Rattle.cube_io.specs.Wires.{Arrival}
use Rattle.cube_script.specs.Scripts.{event_of, words, lines, with_event, events_of, script_of}

some_is : (b : Bool) (n at : ℕ) → cond b (Some n) None ≡ Some at → (b ≡ true) × (n ≡ at)
some_is true n at h = (refl, cc)
some_is false n at h = absurd (cc)

none_is : (b : Bool) (n : ℕ) → cond b (Some n) None ≡ None → b ≡ false
none_is true n h = absurd (cc)
none_is false n h = refl

-- ---- parts at a byte

parts_some : (p : ℕ → Bool) (rest : List ℕ) (at : ℕ) → position p rest ≡ Some at → slice_split p rest ≡ take at rest ∷ slice_split p (drop (at + 1) rest)
parts_some p rest at h =
    let e = some_is (nat_lt (position_or_len p rest) (length rest)) (position_or_len p rest) at h in
    let lt = ltb-true (position_or_len p rest) (length rest) e.0 in
    rw (← e.1) (slice_split_first p rest 0 lt)

parts_none : (p : ℕ → Bool) (rest : List ℕ) → position p rest ≡ None → slice_split p rest ≡ rest ∷ []
parts_none p rest h =
    let e = none_is (nat_lt (position_or_len p rest) (length rest)) (position_or_len p rest) h in
    let all = ltb-false (position_or_len p rest) (length rest) e in
    slice_split_none p rest (λ k d lt. fails_before_first p rest k d (omega (arith, all, lt)))

pub words_some : (rest : List ℕ) (at : ℕ) → position (λ b. b == 32) rest ≡ Some at → words rest ≡ take at rest ∷ words (drop (at + 1) rest)
words_some rest at h = parts_some (λ b. b == 32) rest at h

pub words_none : (rest : List ℕ) → position (λ b. b == 32) rest ≡ None → words rest ≡ rest ∷ []
words_none rest h = parts_none (λ b. b == 32) rest h

pub lines_some : (rest : List ℕ) (at : ℕ) → position (λ b. b == 10) rest ≡ Some at → lines rest ≡ take at rest ∷ lines (drop (at + 1) rest)
lines_some rest at h = parts_some (λ b. b == 10) rest at h

pub lines_none : (rest : List ℕ) → position (λ b. b == 10) rest ≡ None → lines rest ≡ rest ∷ []
lines_none rest h = parts_none (λ b. b == 10) rest h

-- ---- words

many : (a b c : List ℕ) (ds : List (List ℕ)) → 0 < length ds → event_of (a ∷ b ∷ c ∷ ds) ≡ None
many a b c [] h = absurd (omega (arith, h))
many a b c (d ∷ ds) h = refl

-- a line of more than three words names no event
pub many_words : (a b c line : List ℕ) → event_of (a ∷ b ∷ c ∷ words line) ≡ None
many_words a b c line = many a b c (words line) (omega (arith, length-slice_split (λ b. b == 32) line))

-- ---- lines

-- events that were read, and what is read behind them
abbrev pub behind : List Arrival → Result (List Arrival) ℕ → Result (List Arrival) ℕ
behind es (Ok more) = Ok (es ++ more)
behind es (Err n) = Err n

pub nothing_read : (r : Result (List Arrival) ℕ) → r ≡ behind [] r
nothing_read (Ok es) = refl
nothing_read (Err n) = refl

more_by : (n : ℕ) (line : List ℕ) (ls : List (List ℕ)) → 0 < length ls → events_of n (line ∷ ls) ≡ with_event n (event_of (words line)) (events_of (n + 1) ls)
more_by n line [] h = absurd (omega (arith, h))
more_by n line (l ∷ ls) h = refl

-- what is read of a line and the others
more_lines : (n : ℕ) (line text : List ℕ) → events_of n (line ∷ lines text) ≡ with_event n (event_of (words line)) (events_of (n + 1) (lines text))
more_lines n line text = more_by n line (lines text) (omega (arith, length-slice_split (λ b. b == 10) text))

event_read : (n : ℕ) (es : List Arrival) (e : Arrival) (r : Result (List Arrival) ℕ) → behind es (with_event n (Some e) r) ≡ behind (es ++ e ∷ []) r
event_read n es e (Ok more) = ap Ok (sym (append_assoc es (e ∷ []) more))
event_read n es e (Err m) = refl

-- one line more
pub line_read : (n : ℕ) (script rest line more : List ℕ) (es : List Arrival) (e : Arrival) → script_of script ≡ behind es (events_of n (lines rest)) → lines rest ≡ line ∷ lines more → event_of (words line) ≡ Some e → script_of script ≡ behind (es ++ e ∷ []) (events_of (n + 1) (lines more))
line_read n script rest line more es e so_far cut is =
    so_far ∙ ap (λ (x : List (List ℕ)). behind es (events_of n x)) cut ∙ ap (behind es) (more_lines n line more)
    ∙ ap (λ (x : Option Arrival). behind es (with_event n x (events_of (n + 1) (lines more)))) is ∙ event_read n es e (events_of (n + 1) (lines more))

-- a line that names no event
pub line_refused : (n : ℕ) (script rest line more : List ℕ) (es : List Arrival) → script_of script ≡ behind es (events_of n (lines rest)) → lines rest ≡ line ∷ lines more → event_of (words line) ≡ None → script_of script ≡ Err n
line_refused n script rest line more es so_far cut is =
    so_far ∙ ap (λ (x : List (List ℕ)). behind es (events_of n x)) cut ∙ ap (behind es) (more_lines n line more)
    ∙ ap (λ (x : Option Arrival). behind es (with_event n x (events_of (n + 1) (lines more)))) is

last_is : (t : Bool) (n : ℕ) (es : List Arrival) → (t ≡ true → behind es (if t then Ok [] else Err n) ≡ Ok es) × (t ≡ false → behind es (if t then Ok [] else Err n) ≡ Err n)
last_is true n es = (λ _. ap Ok (append-nil es), λ h. absurd (cc))
last_is false n es = (λ h. absurd (cc), λ _. refl)

-- nothing stands behind the last line feed
pub text_ends : (n : ℕ) (script rest : List ℕ) (es : List Arrival) → script_of script ≡ behind es (events_of n (lines rest)) → lines rest ≡ rest ∷ [] → (length rest == 0) ≡ true → script_of script ≡ Ok es
text_ends n script rest es so_far cut none = so_far ∙ ap (λ (x : List (List ℕ)). behind es (events_of n x)) cut ∙ (last_is (length rest == 0) n es).0 none

-- something stands there
pub line_open : (n : ℕ) (script rest : List ℕ) (es : List Arrival) → script_of script ≡ behind es (events_of n (lines rest)) → lines rest ≡ rest ∷ [] → (length rest == 0) ≡ false → script_of script ≡ Err n
line_open n script rest es so_far cut some = so_far ∙ ap (λ (x : List (List ℕ)). behind es (events_of n x)) cut ∙ (last_is (length rest == 0) n es).1 some
