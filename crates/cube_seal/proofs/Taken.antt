-- The digits that are taken of a hash are those of a digest.
use Rattle.std.proofs.Common.{◌≡◌, ◌∙◌, ℕ, Bool, true, false, List, refl, ap}
use Rattle.hex.specs.Hex.{encode_lower}
use Rattle.sha2.specs.Sha256.{sha256}
use Rattle.cube_journal.specs.Digests.{digest_of, is_digest}
use Rattle.cube_journal.proofs.Digested.{digests_are}

hex_of : (text : List ℕ) → encode_lower (sha256 text) ≡ digest_of text
unfolding digest_of
hex_of text = refl

pub digits_taken : (text hash digits : List ℕ) → hash ≡ sha256 text → digits ≡ encode_lower hash → digits ≡ digest_of text
digits_taken text hash digits hashed is = is ∙ ap encode_lower hashed ∙ hex_of text

true_not_false : (b : Bool) → b ≡ true → b ≡ false → ⊥
true_not_false true is other = absurd (cc)
true_not_false false is other = absurd (cc)

pub always_taken : (text digits : List ℕ) → digits ≡ digest_of text → is_digest digits ≡ false → ⊥
always_taken text digits is other = true_not_false (is_digest digits) (ap is_digest is ∙ digests_are text) other
