use Rattle.std.proofs.Common.{ℕ, List, get_or, pos, sym, ap, ap₂, ◌∙◌, length, rules, w64, SFits, arith}
use Rattle.std.proofs.lemmas.Int.{to_z-of_z}
use Rattle.cube_source.proofs.Steps.{first_number, no_number}
use Rattle.cube_witness.specs.TwinFile.{facts_at, is_beyond}
use Rattle.cube_witness.proofs.twin.find_beyond.Goals as goal

pub returns-then-is_beyond : goal.returns-then-is_beyond
returns-then-is_beyond c =
    let range : SFits w64 c.value_in.result = search rules in
    let test = λ (k : ℕ). is_beyond (facts_at c.args.shape.now k) (get_or c.args.values.now k (pos 0)) in
    let long = c.requires.long in
    let read = rw (to_z-of_z w64 c.value_in.result range) at c.is_beyond.ensures in
    let at = ap₂ is_beyond (ap (λ (fs : List ℕ). get_or fs c.places.place 0) c.as_slice.ensures) c.value_in.ensures in
    sym (first_number test 0 (length c.args.shape.now.points) c.places.place (omega arith) (omega (arith, long, c.places-test.true)) c.places.invariant (sym at ∙ sym read ∙ c.if-is_beyond.true))

pub returns : goal.returns
returns c =
    let test = λ (k : ℕ). is_beyond (facts_at c.args.shape.now k) (get_or c.args.values.now k (pos 0)) in
    let long = c.requires.long in
    sym (no_number test 0 (length c.args.shape.now.points) (λ j l. c.places.invariant j (omega (arith, l, long, c.places-test.false))))
