use Rattle.std.proofs.Common.{◌≡◌, ◌∙◌, ℕ, List, ap}
use Rattle.cube_model.specs.Entries.{requests}
use Rattle.cube_engine.specs.Kept.{digest_for}
use Rattle.cube_journal.specs.SecondText.{journal2_text}
use Rattle.cube_opening.proofs.Behind.{if_ok}
use Rattle.cube_commands.specs.Carrying.{Carries, handing_of}
use Rattle.cube_commands.proofs.Handed.{entries_alone, carries}
use Rattle.cube_commands.proofs.carrying.written.Goals as goal

pub journal_of-requires-clause-alone : goal.journal_of-requires-clause-alone
journal_of-requires-clause-alone c = ap requests (c.as_slice.ensures ∙ c.requires.entries) ∙ entries_alone (handing_of c.args.older.now c.args.core.now c.args.policy.now)

pub returns : goal.returns
returns c =
    let x = handing_of c.args.older.now c.args.core.now c.args.policy.now in
    let digest = digest_for c.args.core.now c.args.policy.now in
    let rules = c.core-older.ensures.rules in
    if_ok (λ (t : List ℕ). t ≡ journal2_text digest c.as_slice.result.now) (Carries x) c.journal_of.result
    (λ t e. carries x t rules.core rules.policy rules.admissible c.dims-rules.ensures.rules c.requires.policy c.requires.handed (e ∙ ap (journal2_text digest) (c.as_slice.ensures ∙ c.requires.entries)))
    c.journal_of.ensures
