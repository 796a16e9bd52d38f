-- A talk by sums is the talk over the rows.
use Rattle.std.proofs.Common.{◌≡◌, ◌<◌, ◌≤◌, ℕ, ◌-◌, List, [], ◌∷◌, ◌++◌, length, take, true, false, refl, sym, ap, ◌∙◌, append-nil, length-append, arith, inl, inr}
use Rattle.std.specs.declared.option.Option.{Option}
use Rattle.std.specs.Str.Lines.{lines}
use Rattle.std.proofs.lemmas.Bool.Decides.{nat_tests}
use Rattle.cube_facts.specs.Flat.{Flat}
use Rattle.cube_io.specs.Seen.{SourceState, SinkState, Seen}
use Rattle.cube_io.proofs.Told.{appends_same}
use Rattle.cube_talk.specs.Lines.{ended_lines}
use Rattle.cube_talk.specs.Sums.{AnswersSums, answers, talk, max_lines, is_done, SumsSay, Talked}
use Rattle.cube_talk.specs.SumLaws.{answers_append}
use Rattle.cube_talk.specs.Talk.{up_to, Puts, Goes, Conversed}
use Rattle.cube_talk.specs.declared.sums.Sums.{Sums}
use Rattle.cube_talk.specs.declared.talk.Ending.{Ending}
use Rattle.cube_talk.specs.declared.talk.Ending.TheVariants.{Ended, InputFailed, OutputFailed, NoMemory, Spent}
use Rattle.cube_talk.specs.declared.talk.TalkEnd.{TalkEnd}
use Rattle.cube_talk.proofs.Kept.{up_to_all, up_to_long, take_past, below}
use Rattle.cube_talk.proofs.Spoken.{broken_before}

take_front : {X : Type 0} (xs ys : List X) → take (length xs) (xs ++ ys) ≡ xs
take_front [] ys = refl
take_front {X} (x ∷ xs) ys = ap (λ (l : List X). x ∷ l) (take_front xs ys)

-- so many at the front are all that count
up_to_front : {X : Type 0} (n : ℕ) (all xs ys : List X) → all ≡ xs ++ ys → length xs ≡ n → up_to n all ≡ xs
up_to_front n all xs [] is long = up_to_all n all (rw (is, append-nil) (omega (arith, long))) ∙ is ∙ append-nil xs
up_to_front n all xs (y ∷ ys) is long =
    let longer : n < length all = rw (is, length-append) (omega (arith, long)) in
    up_to_long n all longer ∙ rw (is, sym long) (take_front xs (y ∷ ys))

-- what stands at the front, and is not too much, stands at the front of what counts
up_to_begins : {X : Type 0} (n : ℕ) (all xs ys : List X) → all ≡ xs ++ ys → length xs ≤ n → (more : List X) × (up_to n all ≡ xs ++ more)
up_to_begins n all xs ys is few = below n (length all)
    (λ long. (take (n - length xs) ys, up_to_long n all long ∙ rw is (take_past xs ys n few)))
    (λ short. (ys, up_to_all n all short ∙ is))

-- who was done has answered as many lines as are answered
full : (y : Sums) → is_done y ≡ true → max_lines ≤ y.lines
full y e = grind (arith, nat_tests)

open_yet : (y : Sums) → is_done y ≡ false → y.lines < max_lines
open_yet y e = grind (arith, nat_tests)

-- what was written of the first lines, by how the talk ended
said_of : (ending : Ending) (flat : Flat) (x y : Sums) (text said : List ℕ) (first more : List (List ℕ)) (w w' : Option (List ℕ)) → x.lines ≡ 0 → x.flat ≡ flat → lines text ≡ first ++ more
    → AnswersSums x y first said → Puts ending w w' said → Goes ending text first more (is_done y) → SumsSay flat ending text y.lines w w'
said_of Ended flat x y text said first more w w' zero_lines is split a put (none, open_, short) =
    let all : lines text ≡ first = split ∙ rw none (append-nil first) in
    let few = open_yet y open_ in
    let count : y.lines ≡ length (lines text) = rw all (omega (arith, a.counted, zero_lines)) in
    (count, few, short, appends_same w w' said (talk flat text) (a.text_is ∙ rw is (ap (answers flat) (sym (up_to_all max_lines (lines text) (omega (arith, count, few)) ∙ all)))) put)
said_of InputFailed flat x y text said first more w w' zero_lines is split a put (ended, open_, short) =
    let few = open_yet y open_ in
    (rw (sym ended) (omega (arith, a.counted, zero_lines, few)), short, appends_same w w' said (answers flat (ended_lines text)) (a.text_is ∙ rw (is, ended) refl) put)
said_of OutputFailed flat x y text said first more w w' zero_lines is split a put goes =
    let few = a.few (omega (arith, zero_lines)) in
    let begins = up_to_begins max_lines (lines text) first more split (omega (arith, a.counted, zero_lines, few)) in
    let whole : talk flat text ≡ said ++ answers flat begins.0 = ap (answers flat) begins.1 ∙ answers_append flat first begins.0 ∙ ap (λ (l : List ℕ). l ++ answers flat begins.0) (sym (a.text_is ∙ rw is refl)) in
    rw whole (broken_before said (answers flat begins.0) w w' put)
said_of NoMemory flat x y text said first more w w' zero_lines is split a put goes =
    let few = a.few (omega (arith, zero_lines)) in
    let begins = up_to_begins max_lines (lines text) first more split (omega (arith, a.counted, zero_lines, few)) in
    (first, begins.0, begins.1, appends_same w w' said (answers flat first) (a.text_is ∙ rw is refl) put)
said_of Spent flat x y text said first more w w' zero_lines is split a put (inl over) =
    let few = a.few (omega (arith, zero_lines)) in
    let many = full y over in
    let count : y.lines ≡ max_lines = omega (arith, few, many) in
    let long : length first ≡ max_lines = omega (arith, a.counted, zero_lines, count) in
    let all = up_to_front max_lines (lines text) first more split long in
    inl (count, rw (split, length-append) (omega (arith, long)), appends_same w w' said (talk flat text) (a.text_is ∙ rw is (ap (answers flat) (sym all))) put)
said_of Spent flat x y text said first more w w' zero_lines is split a put (inr (ended, open_, full_input)) =
    inr (rw (sym ended) (omega (arith, a.counted, zero_lines)), open_yet y open_, full_input, appends_same w w' said (answers flat (ended_lines text)) (a.text_is ∙ rw (is, ended) refl) put)

-- a talk by sums is the talk over the rows
pub talked : {S I O : Type 0} (end : TalkEnd) (flat : Flat) (x y : Sums) (s t : S) (input : Seen SourceState I) (out : Seen SinkState O) → x.lines ≡ 0 → x.flat ≡ flat
    → Conversed (λ (x : Sums) (s : S) (ls : List (List ℕ)) (y : Sums) (t : S) (text : List ℕ). AnswersSums x y ls text × (t ≡ s)) x y s t (is_done y) end input out
    → Talked flat end y.lines input out
talked end flat x y s t input out zero_lines is c = record {
  text = c.took.text;
  taken = c.took.taken;
  counted = c.took.counted;
  said = said_of end.ending flat x y c.took.text c.said c.took.first c.took.more out.before.written out.after.written zero_lines is c.took.split c.answered.0 c.puts c.goes;
}
