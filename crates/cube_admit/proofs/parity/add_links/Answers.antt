use Rattle.std.proofs.Common.{sym, ◌∙◌, subst}
use Rattle.cube_colour.specs.Outcomes.{Adds}
use Rattle.cube_admit.proofs.Colours.{stop_does, follow_does, fit_does}
use Rattle.cube_admit.proofs.parity.add_links.Goals as goal

pub returns-in-Stops-clause-does : goal.returns-in-Stops-clause-does
returns-in-Stops-clause-does c = stop_does c.args.colouring.now c.try_add.new.self c.args.links.now c.in-Stops.index c.in-Stops.place c.mark-mark.ensures.rules (subst (Adds c.args.colouring.now c.try_add.new.self c.args.links.now) c.in-Stops.is c.in_ok-index.ensures.adds)

pub returns-then-mark-clause-does : goal.returns-then-mark-clause-does
returns-then-mark-clause-does c = follow_does c.args.colouring.now c.try_add.new.self c.args.links.now c.mark-mark.ensures.rules (subst (Adds c.args.colouring.now c.try_add.new.self c.args.links.now) c.in-Fits.is c.in_ok-index.ensures.adds) (sym c.mark.ensures.mark ∙ c.if-mark.true ∙ c.mark-mark.ensures.mark)

pub returns-else-mark-clause-does : goal.returns-else-mark-clause-does
returns-else-mark-clause-does c = fit_does c.args.colouring.now c.try_add.new.self c.args.links.now c.mark-mark.result c.mark-mark.ensures.rules (subst (Adds c.args.colouring.now c.try_add.new.self c.args.links.now) c.in-Fits.is c.in_ok-index.ensures.adds) c.mark-mark.ensures.mark (λ e. c.if-mark.false (c.mark.ensures.mark ∙ e))
