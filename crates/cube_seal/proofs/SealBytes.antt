-- What the line of a seal says, its beginnings, and longer bytes.
use Rattle.std.proofs.Common.{◌≡◌, inl, inr, ℕ, ◌^◌, ◌<◌, ◌≤◌, ◌==◌, nat_le, Bool, true, false, not, ◌&&◌, if◌then◌else◌, List, [], ◌∷◌, ◌++◌, length, codes, refl, sym, ◌∙◌, ap, subst, arith, length-append}
use Rattle.std.specs.List.{list_all}
use Rattle.std.specs.Str.{bytes_eq}
use Rattle.std.proofs.lemmas.Bool.Decides.{nat_tests}
use Rattle.std.proofs.lemmas.List.{append-nil, take_at}
use Rattle.std.proofs.lemmas.List.Folds.{list_all-append}
use Rattle.std.proofs.lemmas.Slice.Eq.{bytes_eq-Decides}
use Rattle.cube_io.specs.declared.faults.ReadFault.{ReadFault}
use Rattle.cube_io.specs.declared.faults.ReadFault.TheVariants as store
use Rattle.cube_journal.specs.Digests.{is_digit, is_digest}
use Rattle.cube_seal.specs.Laws.{LinesSayDigits, SealsAreLines, BeginningsSayNothing}
use Rattle.cube_seal.specs.Seals.{seal_line, is_in_line, digits_in, is_seal_line, begun_if, sealed_if, seal_in, Agrees, of_store, IsSealFault}
use Rattle.cube_seal.specs.declared.reading.Said.{Said}
use Rattle.cube_seal.specs.declared.reading.Said.TheVariants.{Nothing, Sealed, Damaged}

both : (a b : Bool) → (a && b) ≡ true → (a ≡ true) × (b ≡ true)
both true b t = (refl, t)
both false b t = absurd (cc)

together : (a b : Bool) → a ≡ true → b ≡ true → (a && b) ≡ true
together true b s t = t
together false b s t = absurd (cc)

and_no : (a : Bool) → (a && false) ≡ false
and_no true = refl
and_no false = refl

-- ---- what bytes say, by the three tests

abbrev Saying : Bool → Bool → Bool → List ℕ → Said
Saying open_line short line digits = if open_line then begun_if short else sealed_if line digits

nothing_is : (open_line short line : Bool) (digits : List ℕ) → Saying open_line short line digits ≡ Nothing → (open_line ≡ true) × (short ≡ true)
nothing_is true true line digits e = (refl, refl)
nothing_is true false line digits e = absurd (cc)
nothing_is false short true digits e = absurd (cc)
nothing_is false short false digits e = absurd (cc)

nothing_by : (open_line short line : Bool) (digits : List ℕ) → open_line ≡ true → short ≡ true → Saying open_line short line digits ≡ Nothing
nothing_by true true line digits o s = refl
nothing_by true false line digits o s = absurd (cc)
nothing_by false short line digits o s = absurd (cc)

sealed_is : (open_line short line : Bool) (found digits : List ℕ) → Saying open_line short line found ≡ Sealed digits → (line ≡ true) × (found ≡ digits)
sealed_is true true line found digits e = absurd (cc)
sealed_is true false line found digits e = absurd (cc)
sealed_is false short true found digits e = (refl, cc)
sealed_is false short false found digits e = absurd (cc)

sealed_by : (open_line short line : Bool) (found digits : List ℕ) → open_line ≡ false → line ≡ true → found ≡ digits → Saying open_line short line found ≡ Sealed digits
sealed_by true short line found digits o l e = absurd (cc)
sealed_by false short true found digits o l e = ap Sealed e
sealed_by false short false found digits o l e = absurd (cc)

damaged_by : (open_line short line : Bool) (digits : List ℕ) → short ≡ false → line ≡ false → Saying open_line short line digits ≡ Damaged
damaged_by true true line digits s l = absurd (cc)
damaged_by true false line digits s l = refl
damaged_by false short true digits s l = absurd (cc)
damaged_by false short false digits s l = refl

-- ---- lengths and line feeds

digest_length : (digits : List ℕ) → is_digest digits ≡ true → length digits ≡ 64
digest_length digits lower = let long : (length digits == 64) ≡ true = (both (length digits == 64) (list_all is_digit digits) lower).0 in grind (arith, nat_tests)

pub line_length : (digits : List ℕ) → is_digest digits ≡ true → length (seal_line digits) ≡ 72
line_length digits lower = omega (arith, digest_length digits lower, length-append (codes "values " ++ digits) (10 ∷ []), length-append (codes "values ") digits)

no_feed : (b : ℕ) (t : Bool) → (b == 10) ≡ t → is_digit b ≡ true → not t ≡ true
no_feed b true e digit = absurd (let feed : b ≡ 10 = grind (arith, nat_tests) in let is : is_digit 10 ≡ true = subst (λ (n : ℕ). is_digit n ≡ true) feed digit in cc)
no_feed b false e digit = refl

digits_in_line : (digits : List ℕ) → list_all is_digit digits ≡ true → is_in_line digits ≡ true
digits_in_line [] all = refl
digits_in_line (b ∷ digits) all =
    let here = both (is_digit b) (list_all is_digit digits) all in
    together (not (b == 10)) (is_in_line digits) (no_feed b (b == 10) refl here.0) (digits_in_line digits here.1)

text_in_line : (digits : List ℕ) → is_digest digits ≡ true → is_in_line (codes "values " ++ digits) ≡ true
text_in_line digits lower = digits_in_line digits (both (length digits == 64) (list_all is_digit digits) lower).1

ended_not_in_line : (text : List ℕ) → is_in_line (text ++ 10 ∷ []) ≡ false
ended_not_in_line [] = refl
ended_not_in_line (b ∷ text) = ap (λ (t : Bool). not (b == 10) && t) (ended_not_in_line text) ∙ and_no (not (b == 10))

front_in_line : (front rest : List ℕ) → is_in_line (front ++ rest) ≡ true → is_in_line front ≡ true
front_in_line front rest all = (both (is_in_line front) (is_in_line rest) (sym (list_all-append (λ b. not (b == 10)) front rest) ∙ all)).0

no_rest : (front rest : List ℕ) → front ++ rest ≡ [] → rest ≡ []
no_rest [] rest e = e
no_rest (b ∷ front) rest e = absurd (cc)

-- the beginning of a line without its line feed
torn_in_line : (text front rest : List ℕ) → is_in_line text ≡ true → (rest ≡ [] → ⊥) → front ++ rest ≡ text ++ 10 ∷ [] → is_in_line front ≡ true
torn_in_line text [] rest clean some e = refl
torn_in_line [] (b ∷ front) rest clean some e = absurd (some (no_rest front rest (let none : front ++ rest ≡ [] = cc in none)))
torn_in_line (x ∷ text) (b ∷ front) rest clean some e =
    let here : b ≡ x = cc in
    let there : front ++ rest ≡ text ++ 10 ∷ [] = cc in
    let h = both (not (x == 10)) (is_in_line text) clean in
    together (not (b == 10)) (is_in_line front) (subst (λ (n : ℕ). not (n == 10) ≡ true) (sym here) h.0) (torn_in_line text front rest h.1 some there)

-- ---- laws

digits_back : (digits : List ℕ) → length digits ≡ 64 → digits_in (seal_line digits) ≡ digits
digits_back digits long = take_at digits (10 ∷ []) 64 long

pub lines_say_digits : LinesSayDigits
unfolding seal_in
lines_say_digits digits lower =
    let back = digits_back digits (digest_length digits lower) in
    let is : is_seal_line (seal_line digits) ≡ true = subst (λ (l : List ℕ). (is_digest l && bytes_eq (seal_line digits) (seal_line l)) ≡ true) (sym back)
    (together (is_digest digits) (bytes_eq (seal_line digits) (seal_line digits)) lower ((bytes_eq-Decides (seal_line digits) (seal_line digits)).1 refl)) in
    sealed_by (is_in_line (seal_line digits)) (nat_le (length (seal_line digits)) 72) (is_seal_line (seal_line digits)) (digits_in (seal_line digits)) digits
    (ended_not_in_line (codes "values " ++ digits)) is back

line_of_digits : (bytes : List ℕ) → is_seal_line bytes ≡ true → (is_digest (digits_in bytes) ≡ true) × (bytes ≡ seal_line (digits_in bytes))
line_of_digits bytes is =
    let h = both (is_digest (digits_in bytes)) (bytes_eq bytes (seal_line (digits_in bytes))) is in
    (h.0, (bytes_eq-Decides bytes (seal_line (digits_in bytes))).0 h.1)

pub seals_are_lines : SealsAreLines
unfolding seal_in
seals_are_lines digits bytes e =
    let f = sealed_is (is_in_line bytes) (nat_le (length bytes) 72) (is_seal_line bytes) (digits_in bytes) digits e in
    let h = line_of_digits bytes f.0 in
    (subst (λ (l : List ℕ). is_digest l ≡ true) f.1 h.0, h.1 ∙ ap seal_line f.1)

pub beginnings_say_nothing : BeginningsSayNothing
unfolding seal_in
beginnings_say_nothing digits front rest lower some e =
    let clean = torn_in_line (codes "values " ++ digits) front rest (text_in_line digits lower) some e in
    let long = ap length e ∙ line_length digits lower in
    let within : length front ≤ 72 = omega (arith, long, length-append front rest) in
    let short : nat_le (length front) 72 ≡ true = grind (arith, nat_tests) in
    nothing_by (is_in_line front) (nat_le (length front) 72) (is_seal_line front) (digits_in front) clean short

-- ---- what the beginnings of bytes say, and long bytes

pub nothing_says_nothing : seal_in [] ≡ Nothing
unfolding seal_in
nothing_says_nothing = refl

front_says_nothing : (bytes front rest : List ℕ) → front ++ rest ≡ bytes → seal_in bytes ≡ Nothing → seal_in front ≡ Nothing
unfolding seal_in
front_says_nothing bytes front rest e none =
    let h = nothing_is (is_in_line bytes) (nat_le (length bytes) 72) (is_seal_line bytes) (digits_in bytes) none in
    let clean = front_in_line front rest (subst (λ (l : List ℕ). is_in_line l ≡ true) (sym e) h.0) in
    let whole : length bytes ≤ 72 = (let t : nat_le (length bytes) 72 ≡ true = h.1 in grind (arith, nat_tests)) in
    let within : length front ≤ 72 = omega (arith, whole, ap length e, length-append front rest) in
    let short : nat_le (length front) 72 ≡ true = grind (arith, nat_tests) in
    nothing_by (is_in_line front) (nat_le (length front) 72) (is_seal_line front) (digits_in front) clean short

pub front_agrees : (digits bytes front rest : List ℕ) → front ++ rest ≡ bytes → Agrees digits bytes → Agrees digits front
front_agrees digits bytes front rest e (inl none) = inl (front_says_nothing bytes front rest e none)
front_agrees digits bytes front [] e (inr is) = inr (subst (λ (l : List ℕ). seal_in l ≡ Sealed digits) (sym (sym (append-nil front) ∙ e)) is)
front_agrees digits bytes front (x ∷ rest) e (inr is) =
    let h = seals_are_lines digits bytes is in
    inl (beginnings_say_nothing digits front (x ∷ rest) h.0 (λ f. cc) (e ∙ h.1))

is_no : (t : Bool) → (t ≡ true → ⊥) → t ≡ false
is_no true never = absurd (never refl)
is_no false never = refl

pub long_is_damaged : (bytes : List ℕ) → 72 < length bytes → seal_in bytes ≡ Damaged
unfolding seal_in
long_is_damaged bytes long =
    let short : nat_le (length bytes) 72 ≡ false = grind (arith, nat_tests) in
    let line = is_no (is_seal_line bytes) (λ is. let h = line_of_digits bytes is in let many = ap length h.1 ∙ line_length (digits_in bytes) h.0 in omega (arith, many, long)) in
    damaged_by (is_in_line bytes) (nat_le (length bytes) 72) (is_seal_line bytes) (digits_in bytes) short line

pub read_fault : (values bytes : List ℕ) (fault : ReadFault) → (fault ≡ store.TooLong → 2 ^ 28 < length bytes) → IsSealFault values bytes (of_store fault)
read_fault values bytes store.Failed long = tt
read_fault values bytes store.TooLong long = long_is_damaged bytes (let many : 2 ^ 28 < length bytes = long refl in omega (arith, many))
read_fault values bytes store.NoMemory long = tt
