use Rattle.std.proofs.Common.{refl}
use Rattle.std.specs.Fmt.{digits}
use Rattle.cube_model.specs.Cubes.{up, key_at}
use Rattle.cube_model.specs.Links.{links, suiting}
use Rattle.cube_model.specs.Protection.{protected, cutting_pairs}
use Rattle.cube_model.specs.Requests.{is_picked, grain}
use Rattle.cube_model.specs.Twins.{changes}
use Rattle.cube_model.specs.Verdicts.{source, links_of, verdict}
use Rattle.cube_demo.specs.Hiding.{witness_count}
use Rattle.cube_demo.specs.Summary.{verdict_lines, summary_text}
use Rattle.cube_demo.proofs.worked.worked_summary.Goals as goal

pub returns : goal.returns
unfolding digits up key_at protected cutting_pairs is_picked grain links suiting source links_of verdict changes witness_count verdict_lines summary_text
returns c = refl
