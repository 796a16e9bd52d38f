use Rattle.std.proofs.Common.{◌∙◌, ◌+◌, ◌-◌, ◌%◌, ◌/◌, refl, set, length-set}
use Rattle.cube_answers.proofs.Digits.{one_more}
use Rattle.cube_answers.proofs.numbers.push_digits.Goals as goal

pub places-preserved : goal.places-preserved
places-preserved c =
    let digits = set c.places.digits (5 - c.places.place) (48 + c.places.rest % 10) in
    record {
      long = length-set c.places.digits (5 - c.places.place) (48 + c.places.rest % 10) ∙ c.places.invariant.long;
      written = one_more c.places.digits digits c.args.places c.places.place c.places.rest (c.places.rest / 10) (48 + c.places.rest % 10) c.places-test.true c.requires c.places.invariant.long refl refl refl ∙ c.places.invariant.written;
    }
