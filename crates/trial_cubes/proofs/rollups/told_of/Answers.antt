use Rattle.std.proofs.Common.{◌≡◌, ◌∙◌, ℕ, List, Option, true, ap₂}
use Rattle.cube_fixtures.specs.Worked.{two, pay_core}
use Rattle.cube_model.specs.declared.request.Pick.{Pick}
use Rattle.cube_model.specs.declared.request.Request.{Request}
use Rattle.cube_model.specs.Cores.{Core}
use Rattle.cube_model.specs.Cubes.{are_levels, is_finer}
use Rattle.cube_model.specs.Dims.{plains}
use Rattle.cube_model.specs.Requests.{asks, fits, grain, lesser_levels}
use Rattle.trial_cubes.proofs.rollups.told_of.Goals as goal

levels_are : (core : Core) (ls : List ℕ) (a b : ℕ) → core ≡ pay_core → ls ≡ two a b → are_levels (plains pay_core.dims) (two a b) ≡ true → are_levels (plains core.dims) ls ≡ true
levels_are core ls a b e f h = rw (e, f) h

is_asked : (m : ℕ) (r : Request) → m ≡ 0 → asks 0 r ≡ true → asks m r ≡ true
is_asked m r e h = rw e h

is_fit : (core : Core) (ls : List ℕ) (ps : List (Option Pick)) (r : Request) → core ≡ pay_core → r.group ≡ ls → r.picks ≡ ps → fits (plains pay_core.dims) ls ps ≡ true → fits (plains core.dims) r.group r.picks ≡ true
is_fit core ls ps r e group picks h = rw (e, group, picks) h

finer_is : (a b ls : List ℕ) (ps : List (Option Pick)) (r : Request) → a ≡ b → r.group ≡ ls → r.picks ≡ ps → is_finer b (lesser_levels ls ps) ≡ true → is_finer a (grain r) ≡ true
unfolding grain
finer_is a b ls ps r e group picks f = ap₂ is_finer e (ap₂ lesser_levels group picks) ∙ f

pub build-requires-clause-levels : goal.build-requires-clause-levels
build-requires-clause-levels g c = levels_are c.in_ok-core.core _ _ _ c.in_ok-core.ensures c.in_ok-levels.ensures c.requires.levels

pub text_of-requires-clause-measure : goal.text_of-requires-clause-measure
text_of-requires-clause-measure g c = is_asked _ c.in_ok-request.request c.in_ok-cuboid.ensures.measure c.in_ok-request.ensures.asks

pub text_of-requires-clause-fits : goal.text_of-requires-clause-fits
text_of-requires-clause-fits g c = is_fit c.in_ok-core.core _ _ c.in_ok-request.request c.in_ok-core.ensures c.in_ok-request.ensures.group c.in_ok-request.ensures.picks c.requires.fits

pub text_of-requires-clause-finer : goal.text_of-requires-clause-finer
text_of-requires-clause-finer g c = finer_is _ _ _ _ c.in_ok-request.request (c.in_ok-cuboid.ensures.levels ∙ c.in_ok-levels.ensures) c.in_ok-request.ensures.group c.in_ok-request.ensures.picks c.requires.finer

pub text_of-requires-clause-stands : goal.text_of-requires-clause-stands
text_of-requires-clause-stands g c = c.in_ok-cuboid.ensures.stands
