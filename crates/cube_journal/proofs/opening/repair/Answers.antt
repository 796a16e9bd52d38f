use Rattle.std.proofs.Common.{◌<◌, ◌∙◌, ap, sym, arith, rules}
use Rattle.cube_io.specs.States.{settled}
use Rattle.cube_journal.proofs.OpeningSteps.{no_lines, some_lines, restores_begun, restores_kept, kept_begun, kept_ended, front_length}
use Rattle.cube_journal.proofs.opening.repair.Goals as goal

pub begin-requires-clause-starts : goal.begin-requires-clause-starts
begin-requires-clause-starts g c = c.requires.begins (no_lines c.args.bytes.now c.ended_len-end.result c.if-end-eq0.true c.ended_len-end.ensures.rest)

pub returns-in-Ok-clause-trail : goal.returns-in-Ok-clause-trail
returns-in-Ok-clause-trail g c = λ told. restores_begun c.args.head.now c.args.bytes.now ((g.S.Store.state c.args.store.now).logs c.args.log) ((g.S.Store.state c.begin.new.store).logs c.args.log) (no_lines c.args.bytes.now c.ended_len-end.result c.if-end-eq0.true c.ended_len-end.ensures.rest) (c.begin.ensures.trail told)

pub returns-in-Ok-clause-ok : goal.returns-in-Ok-clause-ok
returns-in-Ok-clause-ok g c = λ told. c.in-Ok.ensures.ok told ∙ ap settled (sym (kept_begun c.args.head.now c.args.bytes.now (no_lines c.args.bytes.now c.ended_len-end.result c.if-end-eq0.true c.ended_len-end.ensures.rest)))

pub returns-in-Ok-clause-kept : goal.returns-in-Ok-clause-kept
returns-in-Ok-clause-kept g c = let e = kept_begun c.args.head.now c.args.bytes.now (no_lines c.args.bytes.now c.ended_len-end.result c.if-end-eq0.true c.ended_len-end.ensures.rest) in rw e (search rules)

pub returns-in-Err-clause-trail : goal.returns-in-Err-clause-trail
returns-in-Err-clause-trail g c = λ told. restores_begun c.args.head.now c.args.bytes.now ((g.S.Store.state c.args.store.now).logs c.args.log) ((g.S.Store.state c.begin.new.store).logs c.args.log) (no_lines c.args.bytes.now c.ended_len-end.result c.if-end-eq0.true c.ended_len-end.ensures.rest) (c.begin.ensures.trail told)

pub returns-in-Ok-cut_back-clause-trail : goal.returns-in-Ok-cut_back-clause-trail
returns-in-Ok-cut_back-clause-trail g c =
    let some : 0 < c.ended_len-end.result = omega (arith, c.if-end-eq0.false) in
    λ told. restores_kept c.args.head.now c.args.bytes.now ((g.S.Store.state c.args.store.now).logs c.args.log) ((g.S.Store.state c.cut_back.new.store).logs c.args.log) (some_lines c.args.bytes.now c.ended_len-end.result some c.ended_len-end.ensures.within c.ended_len-end.ensures.ended) (c.cut_back.ensures.trail told)

pub returns-in-Ok-cut_back-clause-ok : goal.returns-in-Ok-cut_back-clause-ok
returns-in-Ok-cut_back-clause-ok g c =
    let some : 0 < c.ended_len-end.result = omega (arith, c.if-end-eq0.false) in
    λ told. c.in-Ok-cut_back.ensures.ok told ∙ ap settled (sym (kept_ended c.args.head.now c.args.bytes.now c.ended_len-end.result some c.ended_len-end.ensures.within c.ended_len-end.ensures.ended c.ended_len-end.ensures.rest))

pub returns-in-Ok-cut_back-clause-kept : goal.returns-in-Ok-cut_back-clause-kept
returns-in-Ok-cut_back-clause-kept g c =
    let some : 0 < c.ended_len-end.result = omega (arith, c.if-end-eq0.false) in
    let e = kept_ended c.args.head.now c.args.bytes.now c.ended_len-end.result some c.ended_len-end.ensures.within c.ended_len-end.ensures.ended c.ended_len-end.ensures.rest in
    rw e (front_length c.ended_len-end.result c.args.bytes.now c.ended_len-end.ensures.within)

pub returns-in-Err-cut_back-clause-trail : goal.returns-in-Err-cut_back-clause-trail
returns-in-Err-cut_back-clause-trail g c =
    let some : 0 < c.ended_len-end.result = omega (arith, c.if-end-eq0.false) in
    λ told. restores_kept c.args.head.now c.args.bytes.now ((g.S.Store.state c.args.store.now).logs c.args.log) ((g.S.Store.state c.cut_back.new.store).logs c.args.log) (some_lines c.args.bytes.now c.ended_len-end.result some c.ended_len-end.ensures.within c.ended_len-end.ensures.ended) (c.cut_back.ensures.trail told)
