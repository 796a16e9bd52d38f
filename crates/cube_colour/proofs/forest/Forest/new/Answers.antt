use Rattle.std.proofs.Common.{ℕ, [], length, map, sym, ap, ◌∙◌, arith}
use Rattle.std.proofs.lemmas.List.{take_at}
use Rattle.cube_model.specs.Cubes.{count_from}
use Rattle.cube_colour.specs.Forests.{alone}
use Rattle.cube_colour.proofs.Starts.{lone_long}
use Rattle.cube_colour.proofs.forest.Forest.new.Goals as goal

pub mark-requires-clause-nodes : goal.mark-requires-clause-nodes
mark-requires-clause-nodes c =
    let is = c.deref_mut.ensures.value ∙ c.in_ok-nodes.ensures in
    is ∙ ap (λ (n : ℕ). map (alone []) (count_from 0 n)) (sym (ap length is ∙ lone_long [] c.args.places))

pub mark-requires-clause-guarded : goal.mark-requires-clause-guarded
mark-requires-clause-guarded c k d lt =
    let long = ap length (c.deref_mut.ensures.value ∙ c.in_ok-nodes.ensures) ∙ lone_long [] c.args.places in
    let below = c.requires k d lt in
    omega (arith, long, below)

pub returns : goal.returns
returns c =
    let is = c.deref_mut.ensures.value ∙ c.in_ok-nodes.ensures in
    let long = ap length is ∙ lone_long [] c.args.places in
    let made = c.mark.ensures ∙ ap (λ (n : ℕ). map (alone c.args.guarded.now) (count_from 0 n)) long in
    let full = ap length made ∙ lone_long c.args.guarded.now c.args.places in
    take_at c.mark.new.nodes _ c.in_ok-nodes.nodes.len (omega (arith, full, long, c.in_ok-nodes.nodes.ok.0, ap length c.deref_mut.ensures.value)) ∙ made
