use Rattle.std.proofs.Common.{◌≡◌, ◌∙◌, sym, ap, Bool, true, refl}
use Rattle.cube_script.specs.Playing.{has_torn}
use Rattle.cube_serving.specs.Replaying.{played_status}
use Rattle.cube_serving.proofs.Played.{on_ok}
use Rattle.cube_serving.proofs.replaying.report_play.Goals as goal

pub returns-clause-put : goal.returns-clause-put
returns-clause-put c =
    let log = c.args.wire.now.log in
    let torn : has_torn log ≡ true = sym c.overrun.ensures.overrun ∙ c.if-not-overrun.false in
    on_ok c.args.written (
      c.close_with-2.ensures.status ∙ sym (ap (λ (b : Bool). played_status b c.args.end) torn),
      c.close_with-2.ensures.text ∙ c.overrun_room.ensures ∙ rw (torn, c.taken.ensures.taken, c.len-requests.ensures) refl,
    )
