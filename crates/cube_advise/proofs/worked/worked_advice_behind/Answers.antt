use Rattle.std.proofs.Common.{refl}
use Rattle.std.specs.Fmt.{digits}
use Rattle.cube_model.specs.Cubes.{up, key_at}
use Rattle.cube_model.specs.Links.{links, suiting}
use Rattle.cube_model.specs.Protection.{protected, cutting_pairs}
use Rattle.cube_model.specs.Requests.{grain, is_picked}
use Rattle.cube_model.specs.Verdicts.{source, links_of}
use Rattle.cube_text.specs.Quoting.{is_bare}
use Rattle.cube_advise.proofs.worked.worked_advice_behind.Goals as goal

pub returns-clause-first : goal.returns-clause-first
unfolding digits up key_at is_picked protected cutting_pairs source links_of links suiting is_bare grain
returns-clause-first c = refl

pub returns-clause-months : goal.returns-clause-months
unfolding digits up key_at is_picked protected cutting_pairs source links_of links suiting is_bare grain
returns-clause-months c = refl

pub returns-clause-hours : goal.returns-clause-hours
unfolding digits up key_at is_picked protected cutting_pairs source links_of links suiting is_bare grain
returns-clause-hours c = refl
