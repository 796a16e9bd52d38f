use Rattle.std.proofs.Common.{refl}
use Rattle.cube_http.proofs.Judged.{refused, accepted}
use Rattle.cube_http.proofs.head.judge_parts.Goals as goal

pub returns-in-Err : goal.returns-in-Err
returns-in-Err c = λ h parts. refused c.args.bytes.now c.args.headers.now c.args.spans c.method_kind-method.result h c.in-Err.fixed parts (rw c.of.ensures at c.method_kind-method.ensures) (rw c.is_post.ensures at c.in-Err.ensures)

pub returns-in-Ok : goal.returns-in-Ok
returns-in-Ok c = λ h parts. accepted c.args.bytes.now c.args.headers.now c.args.spans _ h parts (rw c.of.ensures at c.method_kind-method.ensures) (rw c.is_post.ensures at c.in-Ok.ensures.0) refl c.requires.target c.in-Ok.ensures.1 c.is_waiting.ensures c.is_closing.ensures
