use Rattle.std.proofs.Common.{◌≡◌, List, drop}
use Rattle.cube_model.specs.declared.link.Link.{Link}
use Rattle.cube_model.specs.Reasons as said
use Rattle.cube_reason.specs.Stepped.{TellSteps, led_if}
use Rattle.cube_reason.proofs.stepping.led.Given as goal

abbrev pub invariant-steps : goal.invariant-steps
invariant-steps l = (named : said.Origin → List Link) → TellSteps named l.joints → led_if named l.at (drop l.step-index l.steps) ≡ led_if named l.from l.steps
