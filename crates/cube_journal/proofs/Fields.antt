-- A text cut at its blanks and at its line feeds, part by part.
use Rattle.std.proofs.Common.{◌≡◌, ℕ, zero, suc, ◌+◌, ◌<◌, ◌≤◌, List, [], ◌∷◌, ◌++◌, length, take, drop, if◌then◌else◌, Bool, true, false, not, cond, Option, Some, None, arith, refl, sym, ◌∙◌, ap, nat_lt, ◌==◌, append_assoc}
use Rattle.std.specs.List.{position, position_or_len}
use Rattle.std.specs.Option.{option_map}
use Rattle.std.proofs.lemmas.List.Splits.{slice_split_first, slice_split_none}
use Rattle.std.proofs.lemmas.List.Sums.{fails_before_first}
use borrow.Author.Tests.{ltb-true, ltb-false}
use Rattle.cube_journal.specs.Lines.{onto, ended_lines}
use Rattle.cube_journal.specs.Recovery.{fields, numbers_of, with_number, number_of}

some_is : (b : Bool) (n at : ℕ) → cond b (Some n) None ≡ Some at → (b ≡ true) × (n ≡ at)
some_is true n at h = (refl, cc)
some_is false n at h = absurd (cc)

none_is : (b : Bool) (n : ℕ) → cond b (Some n) None ≡ None → b ≡ false
none_is true n h = absurd (cc)
none_is false n h = refl

pub fields_some : (rest : List ℕ) (at : ℕ) → position (λ b. b == 32) rest ≡ Some at → fields rest ≡ take at rest ∷ fields (drop (at + 1) rest)
fields_some rest at h =
    let e = some_is (nat_lt (position_or_len (λ b. b == 32) rest) (length rest)) (position_or_len (λ b. b == 32) rest) at h in
    let lt = ltb-true (position_or_len (λ b. b == 32) rest) (length rest) e.0 in
    rw (← e.1) (slice_split_first (λ b. b == 32) rest 0 lt)

pub fields_none : (rest : List ℕ) → position (λ b. b == 32) rest ≡ None → fields rest ≡ rest ∷ []
fields_none rest h =
    let e = none_is (nat_lt (position_or_len (λ b. b == 32) rest) (length rest)) (position_or_len (λ b. b == 32) rest) h in
    let all = ltb-false (position_or_len (λ b. b == 32) rest) (length rest) e in
    slice_split_none (λ b. b == 32) rest (λ k d lt. fails_before_first (λ b. b == 32) rest k d (omega (arith, all, lt)))

-- numbers that were read, and what is read behind them
abbrev pub read_behind : List ℕ → Option (List ℕ) → Option (List ℕ)
read_behind ns more = option_map (λ ms. ns ++ ms) more

pub nothing_read : (more : Option (List ℕ)) → more ≡ read_behind [] more
nothing_read None = refl
nothing_read (Some ms) = refl

number_read : (n : ℕ) (ns : List ℕ) (more : Option (List ℕ)) → read_behind ns (with_number (Some n) more) ≡ read_behind (ns ++ n ∷ []) more
number_read n ns None = refl
number_read n ns (Some ms) = ap Some (sym (append_assoc ns (n ∷ []) ms))

-- a field more
pub field_read : (whole rest field more ns : List ℕ) (n : ℕ) → numbers_of (fields whole) ≡ read_behind ns (numbers_of (fields rest)) → fields rest ≡ field ∷ fields more → Some n ≡ number_of field → numbers_of (fields whole) ≡ read_behind (ns ++ n ∷ []) (numbers_of (fields more))
field_read whole rest field more ns n so_far cut is =
    so_far ∙ ap (λ (x : List (List ℕ)). read_behind ns (numbers_of x)) cut ∙ ap (λ (x : Option ℕ). read_behind ns (with_number x (numbers_of (fields more)))) (sym is) ∙ number_read n ns (numbers_of (fields more))

pub field_last : (whole rest field ns : List ℕ) (n : ℕ) → numbers_of (fields whole) ≡ read_behind ns (numbers_of (fields rest)) → fields rest ≡ field ∷ [] → Some n ≡ number_of field → Some (ns ++ n ∷ []) ≡ numbers_of (fields whole)
field_last whole rest field ns n so_far cut is =
    sym (so_far ∙ ap (λ (x : List (List ℕ)). read_behind ns (numbers_of x)) cut ∙ ap (λ (x : Option ℕ). read_behind ns (with_number x (Some []))) (sym is))

-- a field that is no number
pub field_fails : (whole rest field ns : List ℕ) (others : List (List ℕ)) → numbers_of (fields whole) ≡ read_behind ns (numbers_of (fields rest)) → fields rest ≡ field ∷ others → None ≡ number_of field → None ≡ numbers_of (fields whole)
field_fails whole rest field ns others so_far cut is =
    sym (so_far ∙ ap (λ (x : List (List ℕ)). read_behind ns (numbers_of x)) cut ∙ ap (λ (x : Option ℕ). read_behind ns (with_number x (numbers_of others))) (sym is))

-- ---- lines

line_step : (t : Bool) (b at : ℕ) (bs : List ℕ) → cond (not t) (1 + position_or_len (λ b. b == 10) bs) 0 ≡ at → at < suc (length bs) → ((at' : ℕ) → position_or_len (λ b. b == 10) bs ≡ at' → at' < length bs → ended_lines bs ≡ take at' bs ∷ ended_lines (drop (suc at') bs))
    → (if t then [] ∷ ended_lines bs else onto b (ended_lines bs)) ≡ take at (b ∷ bs) ∷ ended_lines (drop (suc at) (b ∷ bs))
line_step true b zero bs e lt more = refl
line_step true b (suc at) bs e lt more = absurd (omega (arith, e))
line_step false b zero bs e lt more = absurd (omega (arith, e))
line_step false b (suc at) bs e lt more = ap (onto b) (more at (omega (arith, e)) (omega (arith, lt)))

line_at : (bytes : List ℕ) (at : ℕ) → position_or_len (λ b. b == 10) bytes ≡ at → at < length bytes → ended_lines bytes ≡ take at bytes ∷ ended_lines (drop (suc at) bytes)
line_at [] at e lt = absurd (omega (arith, lt))
line_at (b ∷ bs) at e lt = line_step (b == 10) b at bs e (omega (arith, lt)) (line_at bs)

pub line_some : (bytes : List ℕ) (at : ℕ) → position (λ b. b == 10) bytes ≡ Some at → ended_lines bytes ≡ take at bytes ∷ ended_lines (drop (at + 1) bytes)
line_some bytes at h =
    let e = some_is (nat_lt (position_or_len (λ b. b == 10) bytes) (length bytes)) (position_or_len (λ b. b == 10) bytes) at h in
    let lt = ltb-true (position_or_len (λ b. b == 10) bytes) (length bytes) e.0 in
    let more : suc at ≡ at + 1 = omega arith in
    line_at bytes at e.1 (omega (arith, lt, e.1)) ∙ ap (λ (n : ℕ). take at bytes ∷ ended_lines (drop n bytes)) more

no_line_step : (t : Bool) (b : ℕ) (bs : List ℕ) → suc (length bs) ≤ cond (not t) (1 + position_or_len (λ b. b == 10) bs) 0 → (length bs ≤ position_or_len (λ b. b == 10) bs → ended_lines bs ≡ []) → (if t then [] ∷ ended_lines bs else onto b (ended_lines bs)) ≡ []
no_line_step true b bs all more = absurd (omega (arith, all))
no_line_step false b bs all more = ap (onto b) (more (omega (arith, all)))

no_line : (bytes : List ℕ) → length bytes ≤ position_or_len (λ b. b == 10) bytes → ended_lines bytes ≡ []
no_line [] all = refl
no_line (b ∷ bs) all = no_line_step (b == 10) b bs (omega (arith, all)) (no_line bs)

pub line_none : (bytes : List ℕ) → position (λ b. b == 10) bytes ≡ None → ended_lines bytes ≡ []
line_none bytes h =
    let e = none_is (nat_lt (position_or_len (λ b. b == 10) bytes) (length bytes)) (position_or_len (λ b. b == 10) bytes) h in
    no_line bytes (ltb-false (position_or_len (λ b. b == 10) bytes) (length bytes) e)
