use Rattle.std.proofs.Common.{map, sym}
use Rattle.std.proofs.lemmas.List.{map-append}
use Rattle.cube_script.specs.Plays.{played}
use Rattle.cube_script.proofs.Reading.{line_read, line_refused}
use Rattle.cube_script.proofs.read.read_script.Goals as goal

pub returns-in_default-2 : goal.returns-in_default-2
returns-in_default-2 c = line_refused c.lines.line c.args.script.now c.lines.rest.now c.in-Some.text.now c.in-Some.more.now (map played c.lines.plays.items) c.lines.invariant c.in-Some.ensures.some (sym (rw c.in_default-2.is at c.in_ok-play.ensures))

pub lines-preserved : goal.lines-preserved
lines-preserved c =
    let named = sym (rw c.in-Some-2.is at c.in_ok-play.ensures) in
    rw (c.in_ok-push.ensures.items, map-append) (line_read c.lines.line c.args.script.now c.lines.rest.now c.in-Some.text.now c.in-Some.more.now (map played c.lines.plays.items) (played c.in-Some-2.play) c.lines.invariant c.in-Some.ensures.some named)
