-- How a talk stands between two reads of its input, and what was answered where it ends.
use Rattle.std.proofs.Common.{◌≡◌, ◌≢◌, inl, inr, ◌<◌, ℕ, ◌+◌, List, [], ◌∷◌, ◌++◌, length, map, Bool, true, false, refl, sym, ap, ◌∙◌, append_assoc, append-nil, length-append, arith, if◌then◌else◌, ◌==◌, subst}
use Rattle.std.specs.declared.option.Option.{Option}
use Rattle.std.specs.Str.Lines.{strip_carriage_return, lines, lines_of_parts}
use Rattle.std.specs.Io.KnownBytes.{Appends, Consumes}
use Rattle.std.proofs.lemmas.List.{map-append, length-take-le}
use Rattle.std.proofs.lemmas.Bool.Decides.{nat_tests}
use Rattle.cube_io.specs.Seen.{SourceState, SinkState, Seen}
use Rattle.cube_io.proofs.Told.{consumes_then, consumes_none, appends_then, appends_none}
use Rattle.cube_talk.specs.Lines.{front, last_part, parts, ended_lines, open_line}
use Rattle.cube_talk.specs.Talk.{up_to, kept_bytes, max_input, IsKept, Puts, Goes, Conversed}
use Rattle.cube_talk.specs.Piece.{HeardLine, HeardAll, HeardSome, Stops}
use Rattle.cube_talk.specs.declared.talk.Ending.{Ending}
use Rattle.cube_talk.specs.declared.talk.Ending.TheVariants.{Ended, InputFailed, OutputFailed, NoMemory, Spent}
use Rattle.cube_talk.proofs.Cuts.{IsSome, some_parts, parts_append, front_behind}
use Rattle.cube_talk.proofs.Kept.{up_to_all, up_to_long, below, answered_front}
use Rattle.cube_talk.proofs.Pieces.{none_kept}
use Rattle.cube_talk.proofs.Speech.{Speech}
use Rattle.cube_talk.proofs.Spoken.{broken_behind}

-- ---- lines

-- the line that is open, by whether it is empty
abbrev pub last_lines : List ℕ → List (List ℕ)
last_lines line = if length line == 0 then [] else line ∷ []

-- the lines of a text are its ended lines, and its open line where that isn't empty
lines_by_parts : (ps : List (List ℕ)) → IsSome ps → lines_of_parts ps ≡ map strip_carriage_return (front ps) ++ last_lines (last_part ps)
lines_by_parts [] h = absurd h
lines_by_parts (x ∷ []) h = refl
lines_by_parts (x ∷ y ∷ more) h = ap (λ (l : List (List ℕ)). strip_carriage_return x ∷ l) (lines_by_parts (y ∷ more) tt)

pub lines_are : (text : List ℕ) → lines text ≡ ended_lines text ++ last_lines (open_line text)
lines_are text = lines_by_parts (parts text) (some_parts text)

-- behind a text, more bytes end lines with what was open
ended_append : (text more : List ℕ) → ended_lines (text ++ more) ≡ ended_lines text ++ ended_lines (open_line text ++ more)
ended_append text more =
    ap (λ (ps : List (List ℕ)). map strip_carriage_return (front ps)) (parts_append text more)
    ∙ ap (map strip_carriage_return) ((front_behind (front (parts text)) (parts (open_line text ++ more)) (some_parts (open_line text ++ more))).0)
    ∙ map-append strip_carriage_return (front (parts text)) (front (parts (open_line text ++ more)))

open_append : (text more : List ℕ) → open_line (text ++ more) ≡ open_line (open_line text ++ more)
open_append text more = ap last_part (parts_append text more) ∙ (front_behind (front (parts text)) (parts (open_line text ++ more)) (some_parts (open_line text ++ more))).1

-- what is kept is empty just where the open line is
kept_empty : (carry line : List ℕ) → carry ≡ up_to kept_bytes line → (length carry == 0) ≡ (length line == 0)
kept_empty carry line e = below 65538 (length line)
    (λ long. let c : length carry ≡ 65538 = rw (e, up_to_long 65538 line long) (length-take-le 65538 line (omega (arith, long))) in
    let a : (length carry == 0) ≡ false = grind (arith, nat_tests) in
    let b : (length line == 0) ≡ false = grind (arith, nat_tests) in
    a ∙ sym b)
    (λ short. ap (λ (l : List ℕ). length l == 0) (e ∙ up_to_all 65538 line short))

-- ---- the talk

-- How a talk stands: of the bytes that were taken, all ended lines are answered, and what is open is kept.
pub record Stands {A B : Type 0} (says : A → B → List (List ℕ) → A → B → List ℕ → Type 0) (a a' : A) (b b' : B) (left left' w w' : Option (List ℕ)) (carry : List ℕ) (bytes : ℕ) : Type 0 where
  pub text : List ℕ
  pub taken : Consumes left left' text
  pub counted : bytes ≡ length text
  pub kept : IsKept carry (open_line text)
  pub said : List ℕ
  pub answered : says a b (ended_lines text) a' b' said
  pub put : Appends w w' said

pub stands_start : {A B : Type 0} (sp : Speech A B) (a : A) (b : B) (left w : Option (List ℕ)) (carry : List ℕ) → carry ≡ [] → Stands sp.says a a b b left left w w carry 0
stands_start sp a b left w carry none = record {
  text = [];
  taken = consumes_none left;
  counted = refl;
  kept = rw none none_kept;
  said = [];
  answered = sp.silent a b;
  put = appends_none w;
}

-- all lines that end in one more piece are answered
pub stands_more : {A B : Type 0} (sp : Speech A B) (a a' a'' : A) (b b' b'' : B) (left mid left' w x y : Option (List ℕ)) (carry carry' piece : List ℕ) (bytes n : ℕ)
    → (s : Stands sp.says a a' b b' left mid w x carry bytes) → Consumes mid left' piece → n ≡ length piece → HeardAll sp.says (Appends x y) a' a'' b' b'' (open_line s.text) piece carry'
    → Stands sp.says a a'' b b'' left left' w y carry' (bytes + n)
stands_more sp a a' a'' b b' b'' left mid left' w x y carry carry' piece bytes n s read long h = record {
  text = s.text ++ piece;
  taken = consumes_then left mid left' s.text piece s.taken read;
  counted = rw (length-append s.text piece) (omega (arith, s.counted, long));
  kept = rw (open_append s.text piece) h.kept;
  said = s.said ++ h.text;
  answered = rw (ended_append s.text piece) (sp.onward a a' a'' b b' b'' (ended_lines s.text) (ended_lines (open_line s.text ++ piece)) s.said h.text s.answered h.answered);
  put = appends_then w x y s.said h.text s.put h.went;
}

-- what was written, and then more
puts_then : (e : Ending) (w x y : Option (List ℕ)) (a b : List ℕ) → Appends w x a → Puts e x y b → Puts e w y (a ++ b)
puts_then Ended w x y a b h k = appends_then w x y a b h k
puts_then InputFailed w x y a b h k = appends_then w x y a b h k
puts_then OutputFailed w x y a b h k = broken_behind a b w x y h k
puts_then NoMemory w x y a b h k = appends_then w x y a b h k
puts_then Spent w x y a b h k = appends_then w x y a b h k

goes_on : (e : Ending) (text : List ℕ) (first more : List (List ℕ)) (done lacks : Bool) → Stops e done lacks → Goes e text first more done
goes_on Ended text first more done lacks h = absurd h
goes_on InputFailed text first more done lacks h = absurd h
goes_on OutputFailed text first more done lacks h = tt
goes_on NoMemory text first more done lacks h = tt
goes_on Spent text first more done lacks h = inl h

-- the talk ends in one more piece
pub piece_ends : {A B I O : Type 0} (sp : Speech A B) (e : Ending) (done lacks : Bool) (a a' a'' : A) (b b' b'' : B) (input : Seen SourceState I) (out : Seen SinkState O) (mid x : Option (List ℕ)) (carry piece : List ℕ) (bytes n : ℕ)
    → (s : Stands sp.says a a' b b' input.before.left mid out.before.written x carry bytes) → Consumes mid input.after.left piece → n ≡ length piece
    → HeardSome sp.says (Puts e x out.after.written) a' a'' b' b'' (open_line s.text) piece → Stops e done lacks
    → Conversed sp.says a a'' b b'' done (record { ending = e; bytes = bytes + n }) input out
piece_ends sp e done lacks a a' a'' b b' b'' input out mid x carry piece bytes n s read long h stops =
    let first = map strip_carriage_return h.first in
    let last = last_lines (open_line (s.text ++ piece)) in
    record {
      took = record {
        text = s.text ++ piece;
        taken = consumes_then input.before.left mid input.after.left s.text piece s.taken read;
        counted = rw (length-append s.text piece) (omega (arith, s.counted, long));
        first = ended_lines s.text ++ first;
        more = map strip_carriage_return h.more ++ last;
        split = lines_are (s.text ++ piece)
            ∙ ap (λ (l : List (List ℕ)). l ++ last)
            (ended_append s.text piece ∙ ap (λ (l : List (List ℕ)). ended_lines s.text ++ map strip_carriage_return l) h.split ∙ ap (λ (l : List (List ℕ)). ended_lines s.text ++ l) (map-append strip_carriage_return h.first h.more))
            ∙ simp append_assoc;
      };
      said = s.said ++ h.text;
      answered = sp.onward a a' a'' b b' b'' (ended_lines s.text) first s.said h.text s.answered h.answered;
      puts = puts_then e out.before.written x out.after.written s.said h.text s.put h.went;
      goes = goes_on e (s.text ++ piece) (ended_lines s.text ++ first) (map strip_carriage_return h.more ++ last) done lacks stops;
    }

-- nothing was read
taken_none : (left mid left' : Option (List ℕ)) (text : List ℕ) → Consumes left mid text → Consumes mid left' [] → Consumes left left' text
taken_none left mid left' text h k = subst (λ (l : List ℕ). Consumes left left' l) (append-nil text) (consumes_then left mid left' text [] h k)

pub input_failed : {A B I O : Type 0} (sp : Speech A B) (done : Bool) (a a' : A) (b b' : B) (input : Seen SourceState I) (out : Seen SinkState O) (mid : Option (List ℕ)) (carry : List ℕ) (bytes : ℕ)
    → Stands sp.says a a' b b' input.before.left mid out.before.written out.after.written carry bytes
    → Consumes mid input.after.left [] → done ≡ false → bytes < max_input → Conversed sp.says a a' b b' done (record { ending = InputFailed; bytes = bytes }) input out
input_failed sp done a a' b b' input out mid carry bytes s read going short = record {
  took = record {
    text = s.text;
    taken = taken_none input.before.left mid input.after.left s.text s.taken read;
    counted = s.counted;
    first = ended_lines s.text;
    more = last_lines (open_line s.text);
    split = lines_are s.text;
  };
  said = s.said;
  answered = s.answered;
  puts = s.put;
  goes = (refl, going, omega (arith, s.counted, short));
}

pub input_spent : {A B I O : Type 0} (sp : Speech A B) (done : Bool) (a a' : A) (b b' : B) (input : Seen SourceState I) (out : Seen SinkState O) (carry : List ℕ) (bytes : ℕ)
    → Stands sp.says a a' b b' input.before.left input.after.left out.before.written out.after.written carry bytes
    → done ≡ false → bytes ≡ max_input → Conversed sp.says a a' b b' done (record { ending = Spent; bytes = bytes }) input out
input_spent sp done a a' b b' input out carry bytes s going full = record {
  took = record {
    text = s.text;
    taken = s.taken;
    counted = s.counted;
    first = ended_lines s.text;
    more = last_lines (open_line s.text);
    split = lines_are s.text;
  };
  said = s.said;
  answered = s.answered;
  puts = s.put;
  goes = inr (refl, going, sym s.counted ∙ full);
}

-- ---- the end of the input

-- how the end of the input was answered
pub record Finished {A B : Type 0} (says : A → B → List (List ℕ) → A → B → List ℕ → Type 0) (e : Ending) (done : Bool) (a a' : A) (b b' : B) (carry : List ℕ) (x y : Option (List ℕ)) : Type 0 where
  pub none : carry ≡ [] → (e ≡ Ended) × (a' ≡ a) × (b' ≡ b) × (y ≡ x)
  pub said : carry ≢ [] → e ≢ NoMemory → HeardLine says (Puts e x y) a a' b b' carry
  pub memory : e ≡ NoMemory → (a' ≡ a) × (b' ≡ b) × Appends x y []
  pub ended : e ≡ Ended → done ≡ false
  pub spent : e ≡ Spent → done ≡ true
  pub others : e ≢ InputFailed

-- the last line was answered
last_answered : {A B I O : Type 0} (sp : Speech A B) (e : Ending) (done : Bool) (a a' a'' : A) (b b' b'' : B) (input : Seen SourceState I) (out : Seen SinkState O) (mid x : Option (List ℕ)) (carry : List ℕ) (bytes : ℕ)
    → (s : Stands sp.says a a' b b' input.before.left mid out.before.written x carry bytes)
    → Consumes mid input.after.left [] → (length carry == 0) ≡ false → HeardLine sp.says (Puts e x out.after.written) a' a'' b' b'' carry → Goes e s.text (ended_lines s.text ++ open_line s.text ∷ []) [] done
    → Conversed sp.says a a'' b b'' done (record { ending = e; bytes = bytes }) input out
last_answered sp e done a a' a'' b b' b'' input out mid x carry bytes s read some h goes =
    let some_line : (length (open_line s.text) == 0) ≡ false = sym (kept_empty carry (open_line s.text) s.kept.kept) ∙ some in
    let line : last_lines (open_line s.text) ≡ open_line s.text ∷ [] = rw some_line refl in
    let one = answered_front sp a' a'' b' b'' (open_line s.text) h.text (subst (λ (k : List ℕ). sp.says a' b' (k ∷ []) a'' b'' h.text) s.kept.kept h.answered) in
    record {
      took = record {
        text = s.text;
        taken = taken_none input.before.left mid input.after.left s.text s.taken read;
        counted = s.counted;
        first = ended_lines s.text ++ open_line s.text ∷ [];
        more = [];
        split = lines_are s.text ∙ ap (λ (l : List (List ℕ)). ended_lines s.text ++ l) line ∙ sym (append-nil (ended_lines s.text ++ open_line s.text ∷ []));
      };
      said = s.said ++ h.text;
      answered = sp.onward a a' a'' b b' b'' (ended_lines s.text) (open_line s.text ∷ []) s.said h.text s.answered one;
      puts = puts_then e out.before.written x out.after.written s.said h.text s.put h.went;
      goes = goes;
    }

some_bytes : (c : ℕ) (cs : List ℕ) → (length (c ∷ cs) == 0) ≡ false
some_bytes c cs = grind (arith, nat_tests)

-- what was answered where the input ended
pub finished : {A B I O : Type 0} (sp : Speech A B) (e : Ending) (done : Bool) (a a' a'' : A) (b b' b'' : B) (input : Seen SourceState I) (out : Seen SinkState O) (mid x : Option (List ℕ)) (carry : List ℕ) (bytes : ℕ)
    → Stands sp.says a a' b b' input.before.left mid out.before.written x carry bytes
    → Consumes mid input.after.left [] → bytes < max_input → Finished sp.says e done a' a'' b' b'' carry x out.after.written → Conversed sp.says a a'' b b'' done (record { ending = e; bytes = bytes }) input out
finished sp e done a a' a'' b b' b'' input out mid x [] bytes s read short f =
    let (ee, ea, eb, ey) = f.none refl in
    let none : (length (open_line s.text) == 0) ≡ true = sym (kept_empty [] (open_line s.text) s.kept.kept) in
    let line : last_lines (open_line s.text) ≡ [] = rw none refl in
    rw (ee, ea, eb) (record {
      took = record {
        text = s.text;
        taken = taken_none input.before.left mid input.after.left s.text s.taken read;
        counted = s.counted;
        first = ended_lines s.text;
        more = [];
        split = lines_are s.text ∙ ap (λ (l : List (List ℕ)). ended_lines s.text ++ l) line;
      };
      said = s.said;
      answered = s.answered;
      puts = subst (λ (y : Option (List ℕ)). Appends out.before.written y s.said) (sym ey) s.put;
      goes = (refl, f.ended ee, omega (arith, s.counted, short));
    })
finished sp Ended done a a' a'' b b' b'' input out mid x (c ∷ cs) bytes s read short f =
    last_answered sp Ended done a a' a'' b b' b'' input out mid x (c ∷ cs) bytes s read (some_bytes c cs) (f.said (λ e. cc) (λ e. cc)) (refl, f.ended refl, omega (arith, s.counted, short))
finished sp OutputFailed done a a' a'' b b' b'' input out mid x (c ∷ cs) bytes s read short f =
    last_answered sp OutputFailed done a a' a'' b b' b'' input out mid x (c ∷ cs) bytes s read (some_bytes c cs) (f.said (λ e. cc) (λ e. cc)) tt
finished sp Spent done a a' a'' b b' b'' input out mid x (c ∷ cs) bytes s read short f =
    last_answered sp Spent done a a' a'' b b' b'' input out mid x (c ∷ cs) bytes s read (some_bytes c cs) (f.said (λ e. cc) (λ e. cc)) (inl (f.spent refl))
finished sp NoMemory done a a' a'' b b' b'' input out mid x (c ∷ cs) bytes s read short f =
    let (ea, eb, put) = f.memory refl in
    rw (ea, eb) (record {
      took = record {
        text = s.text;
        taken = taken_none input.before.left mid input.after.left s.text s.taken read;
        counted = s.counted;
        first = ended_lines s.text;
        more = last_lines (open_line s.text);
        split = lines_are s.text;
      };
      said = s.said;
      answered = s.answered;
      puts = subst (λ (l : List ℕ). Appends out.before.written out.after.written l) (append-nil s.said) (appends_then out.before.written x out.after.written s.said [] s.put put);
      goes = tt;
    })
finished sp InputFailed done a a' a'' b b' b'' input out mid x (c ∷ cs) bytes s read short f = absurd (f.others refl)
