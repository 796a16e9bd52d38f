-- What the demonstration prints.
use Rattle.std.specs.Prelude.{ℕ, ◌+◌, ◌*◌, List, [], ◌++◌, length, count_by, codes}
use Rattle.cube_model.specs.declared.request.Request.{Request}
use Rattle.cube_model.specs.declared.verdict.Verdict.{Verdict}
use Rattle.cube_model.specs.Cubes.{Public}
use Rattle.cube_text.specs.Counts.{count_line}
use Rattle.cube_engine.specs.Books.{is_answer}
use Rattle.cube_demo.specs.Counting.{verdicts, is_source, is_single, is_pair, is_full}
use Rattle.cube_demo.specs.Hiding.{witness_count}

-- how many verdicts are of each kind
unfoldable pub verdict_lines : List Verdict → List ℕ
verdict_lines vs =
    count_line (codes "answered") (count_by is_answer vs)
    ++ count_line (codes "source") (count_by is_source vs)
    ++ count_line (codes "single") (count_by is_single vs)
    ++ count_line (codes "pair") (count_by is_pair vs)
    ++ count_line (codes "full") (count_by is_full vs)

-- the numbers of a cube of this size with requests: 20,000 facts and 200 queries for each unit of size, the points, the verdicts
-- by kind, and the witnesses of the first two measures, which are pay and hours
unfoldable pub summary_text : ℕ → Public → List Request → List ℕ
summary_text size g rs =
    count_line (codes "facts") (20000 * size)
    ++ count_line (codes "points") (length g.shape.points)
    ++ count_line (codes "queries") (200 * size)
    ++ verdict_lines (verdicts g [] rs)
    ++ count_line (codes "witnesses") (witness_count g rs 0 + witness_count g rs 1)
