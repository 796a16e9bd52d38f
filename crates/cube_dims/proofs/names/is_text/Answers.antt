use Rattle.std.proofs.Common.{◌≡◌, ℕ, List, Result, Ok, Err, MatchResult, inl, inr, sym}
use Rattle.std.specs.Result.{is_ok}
use Rattle.std.specs.Str.{is_utf8, IsUtf8}
use Rattle.std.proofs.lemmas.Bool.{cases_Bool}
use Rattle.std.proofs.lemmas.Str.{is_utf8-from_IsUtf8, IsUtf8-from_is_utf8}
use Rattle.cube_dims.proofs.names.is_text.Goals as goal

told : {T E : Type 0} (P : T → Type 0) (Q : E → Type 0) (bytes : List ℕ) (r : Result T E) → MatchResult r (λ s. P s × IsUtf8 bytes) (λ e. (¬ (IsUtf8 bytes)) × Q e) → is_ok r ≡ is_utf8 bytes
told P Q bytes (Ok s) h = sym (is_utf8-from_IsUtf8 bytes h.1)
told P Q bytes (Err e) h = elim (cases_Bool (is_utf8 bytes)) [ inl t ↦ absurd (h.0 (IsUtf8-from_is_utf8 bytes t)) | inr f ↦ sym f ]

pub returns : goal.returns
returns c = rw (← told _ _ c.args.text.now c.from_utf8.result c.from_utf8.ensures.cases) c.is_ok.ensures.value
