use Rattle.std.proofs.Common.{◌<◌, List, length, refl, sym, ap, ◌∙◌, subst}
use Rattle.std.specs.Bool.{xor}
use Rattle.cube_colour.specs.declared.forest.Node.{Node}
use Rattle.cube_colour.specs.Forests.{node_at, IsForest, IsLabelled}
use Rattle.cube_colour.proofs.Nodes.{false_xor, xor_false}
use Rattle.cube_colour.proofs.Searches.{step_up}
use Rattle.cube_colour.proofs.forest.Forest.find.Goals as goal

pub up-init : goal.up-init
up-init c =
    let same = c.as_slice-nodes.ensures.value ∙ c.self.view_is in
    record { below = subst (λ (ns : List Node). c.args.place < length ns) (sym same) c.requires.place; labels = λ l h. (refl, false_xor (l.opposite c.args.place)) }

pub up-preserved : goal.up-preserved
up-preserved c =
    let same = c.as_slice-nodes.ensures.value ∙ c.self.view_is in
    let forest = subst IsForest (sym same) c.requires.forest in
    record {
      below = (forest.node c.up.root c.up.invariant.below).below;
      labels = λ l h.
          let child = h.child c.up.root c.up.invariant.below c.up-test.true in
          let old = c.up.invariant.labels l h in
          (child.root ∙ old.0, step_up c.up.opposite (node_at c.as_slice-nodes.result.now c.up.root).opposite (l.opposite c.up.root) (l.opposite c.args.place) (l.opposite (node_at c.as_slice-nodes.result.now c.up.root).parent) old.1 child.opposite);
    }

pub returns-clause-labels : goal.returns-clause-labels
returns-clause-labels c l h =
    let same = c.as_slice-nodes.ensures.value ∙ c.self.view_is in
    let here = subst (λ (ns : List Node). IsLabelled ns l) (sym same) h in
    let root = here.root c.up.root c.up.invariant.below c.up-test.false in
    let old = c.up.invariant.labels l here in
    (sym old.0 ∙ root.root, sym old.1 ∙ ap (xor c.up.opposite) root.same ∙ xor_false c.up.opposite)
