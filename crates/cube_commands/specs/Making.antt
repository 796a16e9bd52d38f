-- All that `demo` does.
use Rattle.std.specs.Prelude.{◌⊎◌, [], codes}
use Rattle.cube_demo.specs.Writing.{Prints, PrintsPart}
use Rattle.cube_io.specs.Seen.{Unused}
use Rattle.cube_opening.specs.Reports.{IsReport, NoMessage}
use Rattle.cube_opening.specs.declared.report.Report.{Report}
use Rattle.cube_opening.specs.Outside.{Outside}
use Rattle.cube_words.specs.declared.ordered.Making.{Making}

-- The summary of the cube that is made of a number and a size was put on the sink, or a front of it; or memory ran out, and nothing was
-- put.
abbrev pub DemoRun : {F S I O W : Type 0} → Making → Outside F S I O W → Report → Type 0
DemoRun making x r =
    (IsReport 0 [] r × Prints making.number making.size x.out.before.written x.out.after.written)
    ⊎ (IsReport 6 (codes "output failed\n") r × PrintsPart making.number making.size x.out.before.written x.out.after.written)
    ⊎ (IsReport 7 (codes "no memory\n") r × Unused x.out)
    ⊎ (NoMessage r × Unused x.out)
