use Rattle.std.specs.List.{All}
use Rattle.std.proofs.Common.{◌≡◌, ◌<◌, ℕ, List, [], ◌++◌, length, Option, Some, sym, ap, ◌∙◌, subst, arith}
use Rattle.cube_model.specs.declared.entry.Entry.{Entry}
use Rattle.cube_model.specs.Cores.{shown}
use Rattle.cube_model.specs.Protection.{method, first}
use Rattle.cube_carry.specs.Carrying as carrying
use Rattle.cube_carry.specs.Names.{named}
use Rattle.cube_carrying.specs.declared.histories.Stop.{Stop}
use Rattle.cube_carrying.specs.Given.{IsGiven, Puts}
use Rattle.cube_carrying.specs.Histories.{stop_of}
use Rattle.cube_carrying.proofs.Handed.{places_within}
use Rattle.cube_carrying.proofs.There.{stop_there}
use Rattle.cube_carrying.proofs.Turns.{joined_more, nothing_more, first_joined}
use Rattle.cube_carrying.proofs.histories.carry.Goals as goal

pub flags_of-requires : goal.flags_of-requires
flags_of-requires c =
    let given : IsGiven c.args.old.now c.args.old_policy.now c.args.state.now c.args.new.now c.args.new_policy.now = record { old_rules = c.requires.old_policy; new_rules = c.requires.new_policy; continues = c.requires.continues; stands = c.requires.stands; none = c.requires.none } in
    subst (λ (n : ℕ). All (λ i. i < n) c.as_slice-places.result.now) (sym c.len.ensures.len) (subst (λ (is : List ℕ). All (λ i. i < length c.args.new.now.shape.points) is) (sym (c.as_slice-places.ensures ∙ c.requires.places))
    (places_within c.args.old.now c.args.new.now c.args.old_policy.now c.args.new_policy.now c.args.state.now given c.dims-rules.ensures.rules c.len.ensures.rules))

pub carry_measure-requires-clause-crossing : goal.carry_measure-requires-clause-crossing
carry_measure-requires-clause-crossing c =
    let test = c.measures-test.true in
    let end = c.measures.invariant.2 in
    let all = c.requires.new_policy.methods in
    record {
      given = record { old_rules = c.requires.old_policy; new_rules = c.requires.new_policy; continues = c.requires.continues; stands = c.requires.stands; none = c.requires.none };
      table = c.as_slice-places.ensures ∙ c.requires.places;
      measure = omega (arith, test, end, all);
    }

pub returns-in-Some : goal.returns-in-Some
returns-in-Some c =
    let a = named c.args.old.now c.args.old_policy.now in
    let b = named c.args.new.now c.args.new_policy.now in
    let h = c.args.state.now.history in
    let m = c.measures.measure in
    let way = method (shown c.args.new.now c.args.new_policy.now) m in
    let test = c.measures-test.true in
    let end = c.measures.invariant.2 in
    let all = c.requires.new_policy.methods in
    let below : m < length c.args.new_policy.now.methods = omega (arith, test, end) in
    let there : m < length c.args.new.now.dims.measures = omega (arith, below, all) in
    let here : first (carrying.stops_by way a b h m) ≡ Some (stop_of c.in-Some.stop) =
    subst (λ (o : Option Stop). Puts (carrying.stops_by way a b h m) (carrying.carried_on a b h m) c.measures.history c.carry_measure.new.history o) c.in-Some.is c.in_ok-carry_measure.ensures in
    (first_joined (λ k. carrying.stops_by (method (shown c.args.new.now c.args.new_policy.now) k) a b h k) (length c.args.new_policy.now.methods) m (stop_of c.in-Some.stop) below c.measures.invariant.0 here, stop_there way a b h m c.in-Some.stop there here)

pub measures-preserved : goal.measures-preserved
measures-preserved c =
    let a = named c.args.old.now c.args.old_policy.now in
    let b = named c.args.new.now c.args.new_policy.now in
    let h = c.args.state.now.history in
    let m = c.measures.measure in
    let way = method (shown c.args.new.now c.args.new_policy.now) m in
    let none : (carrying.stops_by way a b h m ≡ []) × (c.carry_measure.new.history ≡ c.measures.history ++ carrying.carried_on a b h m) =
    subst (λ (o : Option Stop). Puts (carrying.stops_by way a b h m) (carrying.carried_on a b h m) c.measures.history c.carry_measure.new.history o) c.in-None.is c.in_ok-carry_measure.ensures in (
      nothing_more (λ k. carrying.stops_by (method (shown c.args.new.now c.args.new_policy.now) k) a b h k) m c.measures.invariant.0 none.0,
      none.1 ∙ ap (λ (es : List Entry). es ++ carrying.carried_on a b h m) c.measures.invariant.1 ∙ sym (joined_more (carrying.carried_on a b h) m),
      c.measures.invariant.2,
    )
