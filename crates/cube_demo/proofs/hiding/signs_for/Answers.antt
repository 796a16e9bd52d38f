use Rattle.std.proofs.Common.{◌≡◌, ℤ, List, IfOk, ap₂, sym, ◌∙◌, subst}
use Rattle.std.proofs.lemmas.Bool.{false≢true}
use Rattle.cube_model.specs.Cores.{shown}
use Rattle.cube_model.specs.Twins.{changes}
use Rattle.cube_admit.proofs.Standing.{admissible_history}
use Rattle.cube_witness.specs.TwinFile.{signs_of}
use Rattle.cube_demo.proofs.Cells.{is_there, spread}
use Rattle.cube_demo.proofs.hiding.signs_for.Goals as goal

pub changes-requires-clause-cell : goal.changes-requires-clause-cell
changes-requires-clause-cell c = (is_there c.args.core.now c.args.policy.now c.args.measure c.args.cell.now c.dims-rules.ensures.rules c.requires.policy c.requires.protected).levels

pub unreachable-requires : goal.unreachable-requires
unreachable-requires c =
    let there = is_there c.args.core.now c.args.policy.now c.args.measure c.args.cell.now c.dims-rules.ensures.rules c.requires.policy c.requires.protected in
    let none = rw c.in-Err-Empty.field-0-is at c.in-Err-Empty.ensures.err in
    false≢true (sym there.some ∙ none)

pub unreachable-requires-in-Err-NotProtected : goal.unreachable-requires-in-Err-NotProtected
unreachable-requires-in-Err-NotProtected c =
    let there = is_there c.args.core.now c.args.policy.now c.args.measure c.args.cell.now c.dims-rules.ensures.rules c.requires.policy c.requires.protected in
    let none = rw c.in-Err-NotProtected.field-0-is at c.in-Err-NotProtected.ensures.err in
    false≢true (sym none.1 ∙ there.listed)

pub returns-in-Ok : goal.returns-in-Ok
returns-in-Ok c =
    let g = shown c.args.core.now c.args.policy.now in
    let h = c.args.state.now.history in
    let made = c.in-Ok.ensures.changes h (admissible_history g c.args.state.now c.requires.stands) c.grounds_of-grounds.ensures in
    let is : signs_of c.len.result c.as_slice.result.now ≡ changes g h c.args.measure c.args.cell.now
    = ap₂ signs_of c.len.ensures.len (c.as_slice.ensures ∙ made) ∙ spread c.args.core.now c.args.policy.now h c.args.measure c.args.cell.now in
    subst (λ (signs : List ℤ). IfOk c.signs_of.result (λ made. made.items ≡ signs)) is c.signs_of.ensures
