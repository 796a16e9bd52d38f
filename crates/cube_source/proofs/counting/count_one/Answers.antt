use Rattle.std.specs.List.{sum_by}
use Rattle.std.proofs.Common.{◌≡◌, ℕ, [], ◌∷◌, ◌∙◌}
use Rattle.std.proofs.lemmas.Result.{IfOk-weaker}
use Rattle.cube_source.specs.Blocks.{bare}
use Rattle.cube_source.specs.Counts.{under_count}
use Rattle.cube_source.proofs.Adding.{sum_one}
use Rattle.cube_source.proofs.counting.count_one.Goals as goal

pub returns-clause-count : goal.returns-clause-count
returns-clause-count c =
    let cells = under_count (bare c.args.core.now) c.args.objects.now in
    IfOk-weaker c.count_lattice.result (λ (n : ℕ). n ≡ sum_by cells (c.args.measure ∷ [])) (λ (n : ℕ). n ≡ cells c.args.measure)
    (λ n e. e ∙ sum_one cells c.args.measure) c.count_lattice.ensures.count
