use Rattle.std.proofs.Common.{◌∙◌, rules}
use Rattle.cube_io.specs.Content.{AppendsPrefix}
use Rattle.cube_io.specs.Wires.{render}
use Rattle.cube_script.proofs.Rendering.{entry_put, entry_broken}
use Rattle.cube_script.proofs.render.put_log.Goals as goal

pub returns-in_err-put_entry-clause-err : goal.returns-in_err-put_entry-clause-err
returns-in_err-put_entry-clause-err g c =
    let x : AppendsPrefix (g.O.Sink.state c.args.out.now).written (g.O.Sink.state c.put_entry.new.out).written (render c.args.scroll.now.log) =
    entry_broken c.args.scroll.now.log c.entries.place _ _ _ _ c.entry-note.ensures c.entries.invariant.put c.in_err-put_entry.ensures.err in
    search rules

pub entries-preserved : goal.entries-preserved
entries-preserved g c = record {
  put = entry_put c.args.scroll.now.log c.entries.place _ _ _ _ c.entry-note.ensures c.entries.invariant.put c.in_ok-put_entry.ensures.ok;
  steady = c.in_ok-put_entry.ensures.cause.steady ∙ c.entries.invariant.steady;
}
