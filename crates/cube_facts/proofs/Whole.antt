-- The records that a reader gives in turn are all the records of the text.
use Rattle.std.proofs.Common.{ℕ, zero, suc, ◌+◌, ◌<◌, ◌≤◌, ◌≡◌, ◌⊎◌, List, [], ◌∷◌, ◌++◌, length, Option, Some, None, Bool, true, false, inl, inr, sym, ◌∙◌, ap, refl, arith, if◌then◌else◌, ◌==◌, ◌||◌}
use Rattle.std.proofs.lemmas.Bool.{cases_Bool, false≢true}
use Rattle.csv.specs.Machine.{Read, next_record, is_end, step, fields_after, field_after, ends_at_end, in_field, start_field, start_record}
use Rattle.csv.specs.Reading.{AreRecords, ReadRecord, Reached, default_config, records, records_from, source_of}
use Rattle.csv.specs.declared.reader.Reader.{Reader}
use Rattle.csv.proofs.ReadFacts.{rows-end, rows-more}
use Rattle.cube_facts.proofs.Left.{left_from}
use Rattle.csv.specs.declared.parser.Action.{Action}
use Rattle.csv.specs.declared.parser.Action.TheVariants as act
use Rattle.csv.specs.declared.parser.Config.{Config}
use Rattle.csv.specs.declared.parser.State.{State}
use Rattle.csv.specs.declared.parser.State.TheVariants as st

-- as many turns as there are records, and one more, read them all
records_from-Reached : (cfg : Config) (n : ℕ) (s s2 : State) (xs ys : List ℕ) (rows : List (List (List ℕ)))
    → length rows < n → Reached cfg s xs rows s2 ys → next_record cfg s2 [] [] ys ≡ None → records_from cfg n s xs ≡ rows
unfolding Reached records_from
records_from-Reached cfg zero s s2 xs ys rows few reached end = absurd (omega (arith, few))
records_from-Reached cfg (suc n) s s2 xs ys [] few reached end = rw (reached.0, reached.1, end) refl
records_from-Reached cfg (suc n) s s2 xs ys (r ∷ rs) few reached end =
    let (p, read, same, more) = reached in
    rw (read, same) (ap (λ (t : List (List (List ℕ))). p.0 ∷ t) (records_from-Reached cfg n p.1 s2 p.2 ys rs (omega (arith, few)) more end))

-- where the action ends a record, the state is one between records
abbrev EndsBetween : State × Action → Type 0
EndsBetween p = is_end p.1 ≡ true → ends_at_end p.0 ≡ false

between-if : (b : Bool) (p q : State × Action) → EndsBetween p → EndsBetween q → EndsBetween (if b then p else q)
between-if true p q f g = f
between-if false p q f g = g

between-return : (b : Bool) → ends_at_end (if b then st.AfterCr else st.StartRecord) ≡ false
between-return true = refl
between-return false = refl

between-skip : (s : State) → EndsBetween (s, act.Skip)
between-skip s h = absurd (false≢true h)

between-copy : (s : State) → EndsBetween (s, act.Copy)
between-copy s h = absurd (false≢true h)

between-in_field : (c : ℕ) → EndsBetween (in_field default_config c)
between-in_field c =
    between-if (c == 44) _ _ (λ h. absurd (false≢true h))
    (between-if ((c == 13) || (c == 10)) ((if c == 13 then st.AfterCr else st.StartRecord), act.EndRecord) _ (λ h. between-return (c == 13)) (between-copy st.InField))

between-start_field : (c : ℕ) → EndsBetween (start_field default_config c)
between-start_field c = between-if (c == 34) _ _ (between-skip st.InQuoted) (between-in_field c)

between-start_record : (c : ℕ) → EndsBetween (start_record default_config c)
between-start_record c = between-if ((c == 13) || (c == 10)) _ _ (between-skip st.StartRecord) (between-start_field c)

-- a byte that ends a record leaves a state between records
between-step : (s : State) (c : ℕ) → EndsBetween (step default_config s c)
between-step st.InField c = between-in_field c
between-step st.StartField c = between-start_field c
between-step st.StartRecord c = between-start_record c
between-step st.AfterCr c = between-if (c == 10) _ _ (between-skip st.StartRecord) (between-start_record c)
between-step st.InQuoted c = between-if (c == 34) _ _ (between-skip st.AfterQuote) (between-copy st.InQuoted)
between-step st.InEscape c = between-copy st.InQuoted
between-step st.AfterQuote c = between-if (c == 34) _ _ (between-copy st.InQuoted) (between-in_field c)
between-step st.InComment c = between-if (c == 10) _ _ (between-skip st.StartRecord) (between-skip st.InComment)

-- what a read leaves: a state between records, and no more than the text
abbrev Leaves : List ℕ → Read → Type 0
Leaves xs p = (ends_at_end p.1 ≡ false) × (length p.2 ≤ length xs)

read_or : Option Read → Read → Read
read_or None q = q
read_or (Some p) q = p

Leaves-same : (xs : List ℕ) (o : Option Read) (p q : Read) → o ≡ Some p → o ≡ Some q → Leaves xs q → Leaves xs p
unfolding read_or
Leaves-same xs o p q e f h =
    let same : p ≡ q = ap (λ (r : Option Read). read_or r q) (sym e ∙ f) in
    rw same h

-- a read leaves no more than the text, in a state between records
next_record-leaves : (s : State) (fields : List (List ℕ)) (field xs : List ℕ) (p : Read) → next_record default_config s fields field xs ≡ Some p → Leaves xs p
unfolding next_record
next_record-leaves s fields field [] p h =
    elim (cases_Bool (ends_at_end s)) [
      | inl ends ↦ Leaves-same [] _ p (fields ++ field ∷ [], st.StartRecord, []) h (rw ends refl) (refl, omega arith)
      | inr goes ↦ cc (rw goes at h)
    ]
next_record-leaves s fields field (c ∷ rest) p h =
    elim (cases_Bool (is_end (step default_config s c).1)) [
      | inl ends ↦
          Leaves-same (c ∷ rest) _ p (fields_after (step default_config s c).1 fields field, (step default_config s c).0, rest) h (rw ends refl) (between-step s c ends, omega arith)
      | inr goes ↦
          let left = next_record-leaves (step default_config s c).0 (fields_after (step default_config s c).1 fields field) (field_after (step default_config s c).1 c field) rest p (rw goes at h) in
          (left.0, omega (arith, left.1))
    ]

-- from a state between records it leaves less
next_record-less : (s : State) (xs : List ℕ) (p : Read) → ends_at_end s ≡ false → next_record default_config s [] [] xs ≡ Some p → (ends_at_end p.1 ≡ false) × (length p.2 < length xs)
unfolding next_record
next_record-less s [] p between h = cc (rw between at h)
next_record-less s (c ∷ rest) p between h =
    elim (cases_Bool (is_end (step default_config s c).1)) [
      | inl ends ↦
          let left = Leaves-same rest _ p (fields_after (step default_config s c).1 [] [], (step default_config s c).0, rest) h (rw ends refl) (between-step s c ends, omega arith) in
          (left.0, omega (arith, left.1))
      | inr goes ↦
          let left = next_record-leaves (step default_config s c).0 (fields_after (step default_config s c).1 [] []) (field_after (step default_config s c).1 c []) rest p (rw goes at h) in
          (left.0, omega (arith, left.1))
    ]

-- a text has no more records than bytes
length-Reached : (s s2 : State) (xs ys : List ℕ) (rows : List (List (List ℕ)))
    → ends_at_end s ≡ false → Reached default_config s xs rows s2 ys → length rows ≤ length xs
unfolding Reached
length-Reached s s2 xs ys [] between reached = omega arith
length-Reached s s2 xs ys (r ∷ rs) between reached =
    let (p, read, same, more) = reached in
    let less = next_record-less s xs p between read in
    let rest = length-Reached p.1 s2 p.2 ys rs less.0 more in
    omega (arith, less.1, rest)

-- what `AreRecords` relates to a text is the list `records`
pub records-AreRecords : (xs : List ℕ) (rows : List (List (List ℕ))) → AreRecords default_config st.StartRecord xs rows → records default_config xs ≡ rows
records-AreRecords xs rows all =
    let (s2, ys, reached, end) = all in
    let few = length-Reached st.StartRecord s2 xs ys rows refl reached in
    records_from-Reached default_config (length xs + 1) st.StartRecord s2 xs ys rows (omega (arith, few)) reached end

next_cases : (o : Option Read) → (o ≡ None) ⊎ ((p : Read) × (o ≡ Some p))
next_cases None = inl refl
next_cases (Some p) = inr (p, refl)

-- more turns than bytes read the same records
records_from-enough : (n m : ℕ) (s : State) (xs : List ℕ) → ends_at_end s ≡ false → length xs < n → length xs < m
    → records_from default_config n s xs ≡ records_from default_config m s xs
unfolding records_from
records_from-enough zero m s xs between few most = absurd (omega (arith, few))
records_from-enough (suc n) zero s xs between few most = absurd (omega (arith, most))
records_from-enough (suc n) (suc m) s xs between few most =
    elim (next_cases (next_record default_config s [] [] xs)) [
      | inl end ↦ rw end refl
      | inr found ↦
          let (p, read) = found in
          let less = next_record-less s xs p between read in
          rw read (ap (λ (t : List (List (List ℕ))). p.0 ∷ t) (records_from-enough n m p.1 p.2 less.0 (omega (arith, less.1, few)) (omega (arith, less.1, most))))
    ]

-- the records of a text are those that are left at its start
pub records-left : (xs : List ℕ) → records default_config xs ≡ left_from st.StartRecord xs
records-left xs = records_from-enough (length xs + 1) (suc (length xs)) st.StartRecord xs refl (omega arith) (omega arith)

left-step : (s s2 : State) (y z : List ℕ) (f : List (List ℕ)) (p : Read) → ends_at_end s ≡ false → next_record default_config s [] [] y ≡ Some p
    → f ≡ p.0 → p.1 ≡ s2 → p.2 ≡ z → (ends_at_end s2 ≡ false) × (left_from s y ≡ f ∷ left_from s2 z)
unfolding records_from
left-step s s2 y z f p between next same state rest =
    let less = next_record-less s y p between next in
    let more = records_from-enough (length y) (suc (length p.2)) p.1 p.2 less.0 less.1 (omega arith) in
    (rw (← state) less.0, rw (next, more, same, state, rest) refl)

-- a read that found a record took the first of those that are left
pub left-more : {R : Type 0} (rem : R → Option (List ℕ)) (a b : Reader R) (f : List (List ℕ)) (y : List ℕ)
    → a.config ≡ default_config → source_of rem a ≡ Some y → ends_at_end a.state ≡ false → ReadRecord rem a b true f
    → (z : List ℕ) × (source_of rem b ≡ Some z) × (ends_at_end b.state ≡ false) × (left_from a.state y ≡ f ∷ left_from b.state z)
unfolding Reached
left-more rem a b f y config source between read =
    let (z, at_z, step) = rows-more rem a b f default_config a.state y y [] config source (refl, refl) read in
    let next = left-step a.state b.state y z f step.0 between step.1 step.2 step.3.0 step.3.1 in
    (z, at_z, next.0, next.1)

-- and one that found none came to their end
pub left-end : {R : Type 0} (rem : R → Option (List ℕ)) (a b : Reader R) (f : List (List ℕ)) (y : List ℕ)
    → a.config ≡ default_config → source_of rem a ≡ Some y → ReadRecord rem a b false f → left_from a.state y ≡ []
unfolding records_from
left-end rem a b f y config source read = rw (rows-end rem a b f default_config y config source read) refl

-- the first read of a text
pub first-more : {R : Type 0} (rem : R → Option (List ℕ)) (a b : Reader R) (f : List (List ℕ)) (text : List ℕ)
    → a.config ≡ default_config → source_of rem a ≡ Some text → a.state ≡ st.StartRecord → ReadRecord rem a b true f
    → (z : List ℕ) × (source_of rem b ≡ Some z) × (ends_at_end b.state ≡ false) × (records default_config text ≡ f ∷ left_from b.state z)
first-more rem a b f text config source start read =
    let (z, at_z, between, step) = left-more rem a b f text config source (rw start refl) read in
    (z, at_z, between, records-left text ∙ ap (λ (s : State). left_from s text) (sym start) ∙ step)

pub first-end : {R : Type 0} (rem : R → Option (List ℕ)) (a b : Reader R) (f : List (List ℕ)) (text : List ℕ)
    → a.config ≡ default_config → source_of rem a ≡ Some text → a.state ≡ st.StartRecord → ReadRecord rem a b false f → records default_config text ≡ []
first-end rem a b f text config source start read = records-left text ∙ ap (λ (s : State). left_from s text) (sym start) ∙ left-end rem a b f text config source read
