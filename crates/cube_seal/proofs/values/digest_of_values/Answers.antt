use Rattle.std.proofs.Common.{◌∙◌}
use Rattle.cube_seal.specs.Values.{values_of}
use Rattle.cube_seal.proofs.Taken.{digits_taken, always_taken}
use Rattle.cube_seal.proofs.values.digest_of_values.Goals as goal

pub unreachable-requires : goal.unreachable-requires
unreachable-requires c =
    let text = values_of c.args.core.now in
    always_taken text c.as_slice.result.now (c.as_slice.ensures ∙ digits_taken text c.hash_values.result c.digits_of-digits.result c.hash_values.ensures c.digits_of-digits.ensures) c.in-None.ensures.none

pub returns : goal.returns
returns c = c.in-Some.ensures.some ∙ c.as_slice.ensures ∙ digits_taken (values_of c.args.core.now) c.hash_values.result c.digits_of-digits.result c.hash_values.ensures c.digits_of-digits.ensures
