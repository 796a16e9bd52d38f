-- What the line of a seal says, and its beginnings.
use Rattle.std.specs.Prelude.{◌≡◌, ◌≢◌, ℕ, List, [], ◌++◌, true}
use Rattle.cube_journal.specs.Digests.{is_digest}
use Rattle.cube_seal.specs.Seals.{seal_line, seal_in}
use Rattle.cube_seal.specs.declared.reading.Said.TheVariants.{Nothing, Sealed}

-- the line of a digest says its digits
abbrev pub LinesSayDigits : Type 0
LinesSayDigits = (digits : List ℕ) → is_digest digits ≡ true → seal_in (seal_line digits) ≡ Sealed digits

-- bytes that say digits are the line of these, which are a digest
abbrev pub SealsAreLines : Type 0
SealsAreLines = (digits bytes : List ℕ) → seal_in bytes ≡ Sealed digits → (is_digest digits ≡ true) × (bytes ≡ seal_line digits)

-- the beginning of such a line, without its end, says nothing yet
abbrev pub BeginningsSayNothing : Type 0
BeginningsSayNothing = (digits front rest : List ℕ) → is_digest digits ≡ true → rest ≢ [] → front ++ rest ≡ seal_line digits → seal_in front ≡ Nothing
