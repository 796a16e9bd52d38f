-- Digests of texts, as their digits.
use Rattle.std.specs.Prelude.{ℕ, Bool, ◌&&◌, ◌||◌, ◌==◌, nat_le, List, length}
use Rattle.std.specs.List.{list_all}
use Rattle.sha2.specs.Sha256.{sha256}
use Rattle.hex.specs.Hex.{encode_lower}

-- the digest of a text, in 64 digits
unfoldable pub digest_of : List ℕ → List ℕ
digest_of text = encode_lower (sha256 text)

-- a hexadecimal digit in lower case
abbrev pub is_digit : ℕ → Bool
is_digit b = (nat_le 48 b && nat_le b 57) || (nat_le 97 b && nat_le b 102)

-- the text is 64 such digits
abbrev pub is_digest : List ℕ → Bool
is_digest text = (length text == 64) && list_all is_digit text
