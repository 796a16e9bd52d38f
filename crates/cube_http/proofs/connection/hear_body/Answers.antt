use Rattle.std.proofs.Common.{◌≡◌, true, false, arith, refl}
use Rattle.std.proofs.lemmas.List.{length-take}
use Rattle.cube_http.proofs.Requests.{whole_kept, more_kept}
use Rattle.cube_http.proofs.connection.hear_body.Goals as goal

pub returns-then-is_whole-clause-hears : goal.returns-then-is_whole-clause-hears
returns-then-is_whole-clause-hears c =
    let same = rw c.deref_mut.ensures.value at c.push_body-used.ensures.same in
    let body = rw c.deref_mut.ensures.value at c.push_body-used.ensures.body in
    whole_kept c.args.kept.value c.push_body-used.new.kept _ c.requires.hears same body (rw c.deref.ensures at (c.if-is_whole.ensures.0 refl))

pub returns-else-is_whole-clause-hears : goal.returns-else-is_whole-clause-hears
returns-else-is_whole-clause-hears c =
    let same = rw c.deref_mut.ensures.value at c.push_body-used.ensures.same in
    let body = rw c.deref_mut.ensures.value at c.push_body-used.ensures.body in
    let used = rw c.deref_mut.ensures.value at c.push_body-used.ensures.used in
    more_kept c.args.kept.value c.push_body-used.new.kept _ c.requires.hears same body (omega (arith, used, length-take c.push_body-used.result c.args.piece.now)) (λ e. let clash : false ≡ true = (rw c.deref.ensures at c.if-is_whole.ensures.1) e in cc)
