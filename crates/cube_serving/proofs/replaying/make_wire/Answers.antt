use Rattle.cube_script.specs.Scripts.{script_of}
use Rattle.cube_serving.specs.Replaying.{room_for_sends}
use Rattle.cube_serving.proofs.Played.{started_ok, said_ok, script_more}
use Rattle.cube_serving.proofs.replaying.make_wire.Goals as goal

pub returns-in-Ok-clause-ok : goal.returns-in-Ok-clause-ok
returns-in-Ok-clause-ok c =
    let said = started_ok (script_of c.args.bytes.now) c.in-Ok.value room_for_sends c.in-Ok.ensures.plays in
    (c.requires, (said.0, said.2, script_more c.args.bytes.now said.0 said.1, λ short. said_ok c.args.bytes.now said.0 short said.1))
