use Rattle.std.proofs.Common.{◌≡◌, ◌<◌, ℕ, List, Option, Some, length, ap, ap₂, ◌∙◌, subst}
use Rattle.std.proofs.lemmas.Result.{IfOk-weaker}
use Rattle.cube_model.specs.Compaction.{source_entry}
use Rattle.cube_model.specs.Cores.{shown}
use Rattle.cube_model.specs.Cubes.{cuboids_below}
use Rattle.cube_model.specs.Protection.{method}
use Rattle.cube_model.specs.Verdicts.{source}
use Rattle.cube_carry.specs.Carrying as carrying
use Rattle.cube_carry.specs.Names.{named, measure_in, carried_levels}
use Rattle.cube_carrying.specs.declared.histories.Stop.{Stop}
use Rattle.cube_carrying.specs.Given.{Puts}
use Rattle.cube_carrying.specs.Standing.{last_standing}
use Rattle.cube_carrying.proofs.Handed.{method_back, source_levels, standing_is}
use Rattle.cube_carrying.proofs.histories.carry_source.Goals as goal

pub kept_source-requires-clause-lattice : goal.kept_source-requires-clause-lattice
kept_source-requires-clause-lattice c = λ l.
    let is : c.measure_in-number.result ≡ measure_in c.args.crossing.now.new.now.dims c.args.crossing.now.old.now.dims c.args.crossing.now.measure = c.measure_in-number.ensures ∙ ap₂ (λ s z. measure_in s z c.args.crossing.now.measure) c.dims.ensures.dims c.dims-2.ensures.dims in
    ap (method (shown c.args.crossing.now.old.now c.args.crossing.now.old_policy.now)) is
    ∙ method_back c.args.crossing.now.old.now c.args.crossing.now.new.now c.args.crossing.now.old_policy.now c.args.crossing.now.new_policy.now c.args.state.now c.requires.crossing.given c.dims-2.ensures.rules c.dims.ensures.rules c.args.crossing.now.measure c.requires.crossing.measure (subst (λ k. k < length c.args.crossing.now.old.now.dims.measures) is l)
    ∙ c.requires.lattice

pub put_source-requires-clause-source : goal.put_source-requires-clause-source
put_source-requires-clause-source c =
    source_levels c.args.crossing.now.old.now c.args.crossing.now.new.now c.args.crossing.now.old_policy.now c.args.crossing.now.new_policy.now c.args.state.now c.requires.crossing.given c.dims-2.ensures.rules c.dims.ensures.rules c.measure_in-number.result c.in-Some.source.now c.in-Some.ensures

pub returns-in-Some : goal.returns-in-Some
returns-in-Some c =
    let a = named c.args.crossing.now.old.now c.args.crossing.now.old_policy.now in
    let b = named c.args.crossing.now.new.now c.args.crossing.now.new_policy.now in
    let g = shown c.args.crossing.now.new.now c.args.crossing.now.new_policy.now in
    let h = c.args.state.now.history in
    let m = c.args.crossing.now.measure in
    let is : c.measure_in-number.result ≡ measure_in c.args.crossing.now.new.now.dims c.args.crossing.now.old.now.dims m = c.measure_in-number.ensures ∙ ap₂ (λ s z. measure_in s z m) c.dims.ensures.dims c.dims-2.ensures.dims in
    let old : Some c.in-Some.source.now ≡ source h (measure_in c.args.crossing.now.new.now.dims c.args.crossing.now.old.now.dims m) = c.in-Some.ensures ∙ ap (source h) is in
    let found = last_standing g c.args.flags.now m (cuboids_below (carried_levels c.args.crossing.now.old.now.dims c.args.crossing.now.new.now.dims c.in-Some.source.now)) in
    let stands : found ≡ carrying.carried_source a b h m =
    standing_is c.args.crossing.now.old.now c.args.crossing.now.new.now c.args.crossing.now.old_policy.now c.args.crossing.now.new_policy.now c.args.state.now c.requires.crossing.given c.dims-2.ensures.rules c.dims.ensures.rules c.args.flags.now m (cuboids_below (carried_levels c.args.crossing.now.old.now.dims c.args.crossing.now.new.now.dims c.in-Some.source.now)) c.requires.flags
    ∙ ap (carrying.source_for a b m) old in
    IfOk-weaker c.put_source.result
    (λ (stop : Option Stop). Puts (carrying.unless_found m (Some c.in-Some.source.now) found) (source_entry m found) c.args.history.now c.put_source.new.history stop)
    (λ (stop : Option Stop). Puts (carrying.unless_found m (source h (measure_in c.args.crossing.now.new.now.dims c.args.crossing.now.old.now.dims m)) (carrying.carried_source a b h m)) (source_entry m (carrying.carried_source a b h m)) c.args.history.now c.put_source.new.history stop)
    (λ stop k.
    subst (λ (o : Option (List ℕ)). Puts (carrying.unless_found m o (carrying.carried_source a b h m)) (source_entry m (carrying.carried_source a b h m)) c.args.history.now c.put_source.new.history stop) old
    (subst (λ (o : Option (List ℕ)). Puts (carrying.unless_found m (Some c.in-Some.source.now) o) (source_entry m o) c.args.history.now c.put_source.new.history stop) stands k))
    c.put_source.ensures
