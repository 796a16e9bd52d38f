use Rattle.std.proofs.Common.{◌≡◌, ℕ, List, inl}
use Rattle.cube_answers.specs.VerdictText.{unprotected}
use Rattle.cube_carrying.specs.Telling.{breach_text}
use Rattle.cube_opening.proofs.Behind.{if_ok}
use Rattle.cube_commands.specs.Carrying.{IsUncarried, handing_of}
use Rattle.cube_commands.specs.declared.saying.Unsaid.TheVariants.{Line}
use Rattle.cube_commands.proofs.carrying.broken.Goals as goal

pub returns : goal.returns
returns c =
    let x = handing_of c.args.older.now c.args.core.now c.args.policy.now in
    let told = λ (t : List ℕ). t ≡ breach_text c.args.older.now.core.dims c.args.core.now.dims (unprotected c.args.older.now.core) c.args.breach.now in
    let said = rw c.core.ensures.core at c.breach_text.ensures in
    c.line_or_none.ensures x (if_ok told (λ t. IsUncarried x (Line t)) c.breach_text.result (λ t e. inl (record { breach = c.args.breach.now; is_first = c.requires.first.0; line_is = e })) said)
