-- The digits of bytes.
use Rattle.std.proofs.Common.{◌≡◌, ◌≢◌, ℕ, zero, suc, ◌<◌, ◌/◌, ◌%◌, ◌==◌, Bool, true, false, ◌&&◌, List, [], ◌∷◌, ◌++◌, length, refl, subst, arith, length-append}
use Rattle.std.specs.Prelude.{slice_index}
use Rattle.std.specs.List.{list_all}
use Rattle.std.proofs.lemmas.Bool.Decides.{nat_tests}
use Rattle.hex.specs.Hex.{lower_digits, encode_with, encode_lower, IsBytes}
use Rattle.hex.proofs.HexLemmas.{length-encode_with}
use Rattle.cube_io.proofs.Trails.{each_append}
use Rattle.cube_journal.specs.Digests.{is_digit, is_digest}
use Rattle.cube_journal.specs.Lines.{IsLine, IsInLine}
use Rattle.cube_journal.specs.Recovery.{head_words, head_line}
use Rattle.cube_journal.specs.declared.first.Version.{Version}
use Rattle.cube_journal.specs.declared.first.Version.TheVariants.{One, Two}
use Rattle.cube_journal.proofs.LineFacts.{clean_text}

pub both : (a b : Bool) → (a && b) ≡ true → (a ≡ true) × (b ≡ true)
both true b t = (refl, t)
both false b t = absurd (cc)

pub at_each : (p : ℕ → Bool) (xs : List ℕ) (n : ℕ) → list_all p xs ≡ true → n < length xs → p (slice_index xs n) ≡ true
at_each p [] n all lt = absurd (omega arith)
at_each p (x ∷ xs) zero all lt = (both (p x) (list_all p xs) all).0
at_each p (x ∷ xs) (suc n) all lt = at_each p xs n (both (p x) (list_all p xs) all).1 (omega arith)

lower_all : (bytes : List ℕ) → IsBytes bytes → list_all is_digit (encode_with lower_digits bytes) ≡ true
unfolding encode_with
lower_all [] fit = refl
lower_all (b ∷ rest) fit =
    let small : b < 256 = fit 0 in
    let high : is_digit (slice_index lower_digits (b / 16)) ≡ true = at_each is_digit lower_digits (b / 16) refl (omega arith) in
    let low : is_digit (slice_index lower_digits (b % 16)) ≡ true = at_each is_digit lower_digits (b % 16) refl (omega arith) in
    rw (high, low) (lower_all rest (λ k. fit (suc k)))

pub are_digits : (bytes : List ℕ) → IsBytes bytes → length bytes ≡ 32 → is_digest (encode_lower bytes) ≡ true
are_digits bytes fit long =
    let many : (length (encode_lower bytes) == 64) ≡ true = (let e = length-encode_with lower_digits bytes in grind (arith, nat_tests)) in
    rw many (lower_all bytes fit)

-- no digit is a line feed
pub digits_clean : (text : List ℕ) → list_all is_digit text ≡ true → IsInLine text
digits_clean [] all = tt
digits_clean (b ∷ text) all =
    let here = both (is_digit b) (list_all is_digit text) all in
    ((λ is. absurd (let e : is_digit 10 ≡ true = subst (λ (n : ℕ). is_digit n ≡ true) is here.0 in cc)), digits_clean text here.1)

-- ---- the first line of a version

words_clean : (version : Version) → IsInLine (head_words version)
words_clean One = clean_text (head_words One) refl
words_clean Two = clean_text (head_words Two) refl

words_length : (version : Version) → length (head_words version) ≡ 15
words_length One = refl
words_length Two = refl

pub head_clean : (version : Version) (digest : List ℕ) → is_digest digest ≡ true → IsInLine (head_words version ++ digest)
head_clean version digest lower = each_append (λ b. b ≢ 10) (head_words version) digest (words_clean version) (digits_clean digest (both (length digest == 64) (list_all is_digit digest) lower).1)

pub head_length : (version : Version) (digest : List ℕ) → is_digest digest ≡ true → length (head_line version digest) ≡ 80
head_length version digest lower =
    let long : (length digest == 64) ≡ true = (both (length digest == 64) (list_all is_digit digest) lower).0 in
    let many : length digest ≡ 64 = grind (arith, nat_tests) in
    omega (arith, many, words_length version, length-append (head_words version ++ digest) (10 ∷ []), length-append (head_words version) digest)

pub head_is_line : (version : Version) (digest : List ℕ) → is_digest digest ≡ true → IsLine (head_line version digest)
head_is_line version digest lower = record { text = head_words version ++ digest; ended = refl; clean = head_clean version digest lower }
