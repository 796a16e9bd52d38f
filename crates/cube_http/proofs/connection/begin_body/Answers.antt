use Rattle.std.proofs.Common.{arith, sym, refl}
use Rattle.std.proofs.lemmas.List.{append-nil}
use Rattle.cube_http.proofs.Heads.{rest_of}
use Rattle.cube_http.proofs.Requests.{bodiless, asks_leave, asks_nothing}
use Rattle.cube_http.proofs.connection.begin_body.Goals as goal

pub returns-then-facts-eq0 : goal.returns-then-facts-eq0
returns-then-facts-eq0 c =
    let kept = c.args.kept.value in
    (bodiless kept.head.items kept.body.items kept.facts c.requires.heard.read (rw c.deref.ensures at c.if-facts-eq0.true) c.requires.empty, λ e. cc)

pub returns-then-facts : goal.returns-then-facts
returns-then-facts c =
    let kept = c.args.kept.value in
    let some = rw c.deref.ensures at c.if-facts-eq0.false in (
      (asks_leave kept.head.items kept.facts c.requires.heard.read (omega (arith, some)) (rw c.deref.ensures at c.if-facts.true), rw (c.requires.empty, append-nil) (sym (rest_of kept.head.items c.requires.heard.read.begins))),
      λ e. cc,
    )

pub returns-else-facts : goal.returns-else-facts
returns-else-facts c =
    let kept = c.args.kept.value in
    let some = rw c.deref.ensures at c.if-facts-eq0.false in
    (asks_nothing kept.head.items kept.facts c.requires.heard.read (omega (arith, some)) (rw c.deref.ensures at c.if-facts.false), rw (c.requires.empty, append-nil) refl)
