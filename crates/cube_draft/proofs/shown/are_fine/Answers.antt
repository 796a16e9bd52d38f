use Rattle.cube_draft.proofs.Seen.{are_fine as fine_by}
use Rattle.cube_draft.proofs.shown.are_fine.Goals as goal

pub returns : goal.returns
returns c = λ yes bytes shown.
    let t = c.args.table.now in
    fine_by c.args.dims.now bytes t.header t.members.items t.fields.items t.rows t.decimals.items (shown c.if-not-table.false) (c.are_measured.ensures yes)
