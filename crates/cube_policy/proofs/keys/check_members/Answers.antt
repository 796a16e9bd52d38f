use Rattle.std.proofs.Common.{map, not, sym, ap, ◌∙◌, refl}
use Rattle.cube_tables.specs.Members.{named}
use Rattle.cube_tables.proofs.Turns.{check_fault, check_none, accepted, turn_end}
use Rattle.cube_tables.proofs.Loops.{item_fault, item_next, seen_within, seen_at, seen_end}
use Rattle.cube_policy.specs.KnownKeys.{known_keys}
use Rattle.cube_policy.specs.PolicyFile.{unknown_key}
use Rattle.cube_policy.specs.declared.fault.PolicyFault.TheVariants.{Unknown}
use Rattle.cube_policy.proofs.keys.check_members.Goals as goal

pub returns-then-not-knows : goal.returns-then-not-knows
returns-then-not-knows c =
    let items = c.args.members.now in
    let i = c.loop-member.member-index in
    let item = c.member-item.result in
    item_fault (unknown_key c.args.entry.now (known_keys c.args.kind)) (map named items) _ _ i (named item) (seen_within named items i c.loop-member-test.true) (seen_at named items i item c.loop-member-test.true c.member-item.is) c.loop-member.invariant
    (check_fault _ _ _ _ (ap not (sym c.knows.ensures ∙ c.if-not-knows.true)) (ap Unknown (sym c.in_ok-key_in.ensures)))

pub loop-member-preserved : goal.loop-member-preserved
loop-member-preserved c =
    let items = c.args.members.now in
    let i = c.loop-member.member-index in
    let item = c.member-item.result in
    item_next (unknown_key c.args.entry.now (known_keys c.args.kind)) (map named items) i (named item) (seen_within named items i c.loop-member-test.true) (seen_at named items i item c.loop-member-test.true c.member-item.is) c.loop-member.invariant
    (check_none _ _ (ap not (sym c.knows.ensures ∙ c.if-not-knows.false)))

pub returns : goal.returns
returns c =
    let items = c.args.members.now in
    let i = c.loop-member.member-index in
    accepted _ _ _ (turn_end (unknown_key c.args.entry.now (known_keys c.args.kind)) (map named items) i (seen_end named items i c.loop-member-test.false) c.loop-member.invariant) refl
