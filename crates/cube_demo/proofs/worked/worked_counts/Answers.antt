use Rattle.std.proofs.Common.{refl}
use Rattle.cube_model.specs.Cubes.{up, key_at}
use Rattle.cube_model.specs.Links.{links, suiting}
use Rattle.cube_model.specs.Protection.{protected, cutting_pairs}
use Rattle.cube_model.specs.Requests.{is_picked, grain}
use Rattle.cube_model.specs.Twins.{changes}
use Rattle.cube_model.specs.Verdicts.{source, links_of, verdict}
use Rattle.cube_demo.specs.Hiding.{witness_count}
use Rattle.cube_demo.proofs.worked.worked_counts.Goals as goal

pub returns-clause-verdicts : goal.returns-clause-verdicts
unfolding up key_at protected cutting_pairs is_picked grain links suiting source links_of verdict changes witness_count
returns-clause-verdicts c = refl

pub returns-clause-history : goal.returns-clause-history
unfolding up key_at protected cutting_pairs is_picked grain links suiting source links_of verdict changes witness_count
returns-clause-history c = refl

pub returns-clause-answered : goal.returns-clause-answered
unfolding up key_at protected cutting_pairs is_picked grain links suiting source links_of verdict changes witness_count
returns-clause-answered c = refl

pub returns-clause-told : goal.returns-clause-told
unfolding up key_at protected cutting_pairs is_picked grain links suiting source links_of verdict changes witness_count
returns-clause-told c = refl

pub returns-clause-hidden : goal.returns-clause-hidden
unfolding up key_at protected cutting_pairs is_picked grain links suiting source links_of verdict changes witness_count
returns-clause-hidden c = refl

pub returns-clause-elsewhere : goal.returns-clause-elsewhere
unfolding up key_at protected cutting_pairs is_picked grain links suiting source links_of verdict changes witness_count
returns-clause-elsewhere c = refl

pub returns-clause-pay : goal.returns-clause-pay
unfolding up key_at protected cutting_pairs is_picked grain links suiting source links_of verdict changes witness_count
returns-clause-pay c = refl

pub returns-clause-hours : goal.returns-clause-hours
unfolding up key_at protected cutting_pairs is_picked grain links suiting source links_of verdict changes witness_count
returns-clause-hours c = refl

pub returns-clause-none : goal.returns-clause-none
unfolding up key_at protected cutting_pairs is_picked grain links suiting source links_of verdict changes witness_count
returns-clause-none c = refl
