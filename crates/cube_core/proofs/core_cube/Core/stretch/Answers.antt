use Rattle.std.specs.Option.{IfSome}
use Rattle.std.proofs.Common.{◌∙◌, Option, Some, None}
use Rattle.cube_core.proofs.Stretches.{first_picks}
use Rattle.cube_core.proofs.core_cube.Core.stretch.Goals as goal

if_some : {X : Type 0} (r : Option X) {P Q : X → Type 0} → IfSome r P → ((x : X) → P x → Q x) → IfSome r Q
if_some None p f = p
if_some (Some x) p f = f x p

pub returns-clause-picked : goal.returns-clause-picked
returns-clause-picked c =
    if_some c.first_stretch.result c.first_stretch.ensures.taken
    (λ s e. e ∙ first_picks c.args.self.now c.args.request.now c.dims-rules.ensures.rules c.requires.fits (c.others_take_all.ensures c.if-not-others_take_all.false))
