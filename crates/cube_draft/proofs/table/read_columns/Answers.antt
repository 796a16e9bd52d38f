use Rattle.std.proofs.Common.{Bool, List, subst}
use Rattle.cube_draft.specs.Kept.{Scanned}
use Rattle.cube_draft.proofs.Steps.{shown_under}
use Rattle.cube_draft.proofs.table.read_columns.Goals as goal

pub returns-then-pass-gt0-clause-shown : goal.returns-then-pass-gt0-clause-shown
returns-then-pass-gt0-clause-shown c = λ sound.
    let found = c.in_ok-found.found in
    let scanned = subst (λ (members : List Bool). Scanned c.args.bytes.now members found.fields.items found.rows found.decimals.items found.sound) c.as_slice-in-loop-pass.ensures.value c.in_ok-found.ensures.scanned in
    shown_under c.args.bytes.now c.loop-pass.header c.loop-pass.members.items found.fields.items found.rows found.decimals.items found.sound c.loop-pass.invariant.0 scanned sound
