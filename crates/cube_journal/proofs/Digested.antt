-- The digest of a text is one.
use Rattle.std.proofs.Common.{◌≡◌, ℕ, zero, suc, ◌<◌, ◌/◌, ◌%◌, true, List, [], ◌∷◌, ◌++◌, arith}
use Rattle.std.specs.Prelude.{slice_index}
use Rattle.std.specs.Int.{to_be_bytes, w32}
use Rattle.sha2.specs.Sha256.{digest_bytes, final_hash, initial_hash_256, sha256}
use Rattle.sha2.proofs.Facts256.{length-sha256}
use Rattle.hex.specs.Hex.{IsBytes}
use Rattle.cube_journal.specs.Digests.{digest_of, is_digest}
use Rattle.cube_journal.proofs.Digits.{are_digits}

four_bytes : (a b c d : ℕ) → a < 256 → b < 256 → c < 256 → d < 256 → IsBytes (a ∷ b ∷ c ∷ d ∷ [])
four_bytes a b c d p q r s zero = p
four_bytes a b c d p q r s (suc zero) = q
four_bytes a b c d p q r s (suc (suc zero)) = r
four_bytes a b c d p q r s (suc (suc (suc zero))) = s
four_bytes a b c d p q r s (suc (suc (suc (suc i)))) = omega arith

word_bytes : (n : ℕ) → IsBytes (to_be_bytes w32 n)
word_bytes n = four_bytes (n / 16777216 % 256) (n / 65536 % 256) (n / 256 % 256) (n % 256) (omega arith) (omega arith) (omega arith) (omega arith)

append_bytes : (xs ys : List ℕ) → IsBytes xs → IsBytes ys → IsBytes (xs ++ ys)
append_bytes [] ys p q i = q i
append_bytes (x ∷ xs) ys p q zero = p 0
append_bytes (x ∷ xs) ys p q (suc i) = append_bytes xs ys (λ k. p (suc k)) q i

hash_bytes : (h : List ℕ) (n : ℕ) → IsBytes (digest_bytes h n)
unfolding digest_bytes
hash_bytes h zero = λ i. omega arith
hash_bytes h (suc n) = append_bytes (digest_bytes h n) (to_be_bytes w32 (slice_index h n)) (hash_bytes h n) (word_bytes (slice_index h n))

pub digests_are : (text : List ℕ) → is_digest (digest_of text) ≡ true
unfolding digest_of sha256
digests_are text = are_digits (sha256 text) (hash_bytes (final_hash initial_hash_256 text) 8) (length-sha256 text)
