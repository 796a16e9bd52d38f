use Rattle.std.proofs.Common.{◌≡◌, ◌-◌, ◌++◌, length, drop}
use Rattle.cube_text.specs.Units.{last_digits}
use Rattle.cube_answers.proofs.numbers.push_digits.Given as goal

abbrev pub invariant-places : goal.invariant-places
invariant-places l = record {
  long : length l.digits ≡ 6;
  written : last_digits (l.many - l.place) l.rest ++ drop (6 - l.place) l.digits ≡ last_digits l.many l.value;
}
