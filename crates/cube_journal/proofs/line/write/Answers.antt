use Rattle.std.proofs.Common.{◌≡◌, ◌<◌, ◌^◌, List, ℕ, length, sym, subst, rules}
use Rattle.cube_journal.specs.Lines.{IsLine}
use Rattle.cube_journal.specs.RequestLines.{request_line}
use Rattle.cube_journal.proofs.Lengths.{line_fits}
use Rattle.cube_journal.proofs.line.write.Goals as goal

pub returns-clause-line : goal.returns-clause-line
returns-clause-line c =
    let e : c.push.new.self ≡ request_line c.args.dims.now c.args.request.now = search rules in
    subst IsLine (sym e) (line_fits c.args.dims.now c.args.request.now c.dimensions-rules.ensures.rules).0

pub returns-clause-short : goal.returns-clause-short
returns-clause-short c =
    let e : c.push.new.self ≡ request_line c.args.dims.now c.args.request.now = search rules in
    subst (λ (l : List ℕ). length l < 2 ^ 14) (sym e) (line_fits c.args.dims.now c.args.request.now c.dimensions-rules.ensures.rules).1
