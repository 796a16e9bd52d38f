use Rattle.cube_model.proofs.Small.{pay_world, empty_world, full_world, full_is_full, even_box, small_box, pay_history, pay_source, two_row_links}
use Rattle.cube_model.proofs.laws.worked.premises_hold.Goals as goal

pub returns-clause-world : goal.returns-clause-world
returns-clause-world c = pay_world

pub returns-clause-empty_world : goal.returns-clause-empty_world
returns-clause-empty_world c = empty_world

pub returns-clause-full_world : goal.returns-clause-full_world
returns-clause-full_world c = full_world

pub returns-clause-full : goal.returns-clause-full
returns-clause-full c = full_is_full

pub returns-clause-even_box : goal.returns-clause-even_box
returns-clause-even_box c = even_box

pub returns-clause-small_box : goal.returns-clause-small_box
returns-clause-small_box c = small_box

pub returns-clause-history : goal.returns-clause-history
returns-clause-history c = pay_history

pub returns-clause-source : goal.returns-clause-source
returns-clause-source c = pay_source

pub returns-clause-links : goal.returns-clause-links
returns-clause-links c = two_row_links
