use Rattle.std.proofs.Common.{sym, ◌∙◌}
use Rattle.cube_colour.proofs.Guards.{search_none, search_root, search_roots}
use Rattle.cube_colour.proofs.forest.Forest.first_fixed.Goals as goal

pub returns-then-not-fixes_guarded : goal.returns-then-not-fixes_guarded
returns-then-not-fixes_guarded c l h are = search_none c.args.guarded.now l are c.args.change (sym (c.fixes_guarded.ensures l h) ∙ c.if-not-fixes_guarded.true)

pub returns-in-Fix : goal.returns-in-Fix
returns-in-Fix c l h are = rw c.in-Fix.is (c.first_within.ensures l h ∙ search_root c.args.guarded.now l are c.in-Fix.root)

pub returns-in-Join : goal.returns-in-Join
returns-in-Join c l h are =
    let fixes = sym (c.fixes_guarded.ensures l h) ∙ c.if-not-fixes_guarded.false in
    rw c.in-Join.is (c.first_within-in-Join.ensures l h ∙ search_roots c.args.guarded.now l are c.in-Join.child c.in-Join.parent c.in-Join.field-2 (rw c.in-Join.is at fixes))
