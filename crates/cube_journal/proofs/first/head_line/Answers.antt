use Rattle.std.proofs.Common.{◌≡◌, List, ℕ, length, sym, subst, rules}
use Rattle.cube_journal.specs.Lines.{IsLine}
use Rattle.cube_journal.specs.Recovery.{head_line}
use Rattle.cube_journal.proofs.Digits.{head_is_line, head_length}
use Rattle.cube_journal.proofs.first.head_line.Goals as goal

pub returns-clause-line : goal.returns-clause-line
returns-clause-line c =
    let e : c.push.new.self ≡ head_line c.args.version c.args.digest.now = search rules in
    subst IsLine (sym e) (head_is_line c.args.version c.args.digest.now c.digits-digits.ensures.lower)

pub returns-clause-long : goal.returns-clause-long
returns-clause-long c =
    let e : c.push.new.self ≡ head_line c.args.version c.args.digest.now = search rules in
    subst (λ (l : List ℕ). length l ≡ 80) (sym e) (head_length c.args.version c.args.digest.now c.digits-digits.ensures.lower)
