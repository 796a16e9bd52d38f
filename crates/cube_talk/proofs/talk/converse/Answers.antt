use Rattle.std.proofs.Common.{◌∙◌, refl, rules, sym, arith, take, length-take-le, ap}
use Rattle.cube_io.specs.Seen.{seen}
use Rattle.cube_talk.specs.Lines.{ended_lines}
use Rattle.cube_talk.proofs.Puttings.{permits_on, sight_none, sight_then}
use Rattle.cube_talk.proofs.Speech.{Speech}
use Rattle.cube_talk.proofs.Talks.{stands_start, stands_more, piece_ends, input_failed, input_spent, Finished, finished}
use Rattle.cube_talk.proofs.talk.converse.Given.{Over}
use Rattle.cube_talk.proofs.talk.converse.Goals as goal

-- how the responder answers lines
abbrev speech : (g : Over) → Speech g.row.R.Denot g.row.S.Denot
speech g = record { says = g.R.Responder.says; silent = g.met.R.Responder.silent; onward = g.met.R.Responder.onward; alike = g.met.R.Responder.alike }

pub reads-init : goal.reads-init
reads-init g c =
    record {
      talks = stands_start (speech g) c.args.responder.now c.args.store.now (g.I.Source.state c.args.input.now).left (g.O.Sink.state c.args.out.now).written c.args.carry c.requires.carry;
      few_bytes = search rules;
      stands = c.requires.stands;
      going = c.requires.going;
      empty = c.new-replies.ensures;
      input_steady = refl;
      output_steady = refl;
      sight = sight_none (g.S.Store.state c.args.store.now) (g.O.Sink.state c.args.out.now).loose;
    }

pub returns-in-Ok-eq0-clause-conversed : goal.returns-in-Ok-eq0-clause-conversed
returns-in-Ok-eq0-clause-conversed g c =
    let none = rw c.in-Ok-eq0.field-0-test at c.in-Ok-eq0.ensures.bytes in
    let input = seen g.I.Source.state c.args.input.now c.read_piece.new.input in
    let out = seen g.O.Sink.state c.args.out.now c.finish-ending.new.out in
    let f : Finished g.R.Responder.says c.finish-ending.result (g.R.Responder.done c.finish-ending.new.responder) c.reads.responder c.finish-ending.new.responder c.reads.store c.finish-ending.new.store c.reads.carry
    (g.O.Sink.state c.reads.out).written (g.O.Sink.state c.finish-ending.new.out).written = record {
      none = λ e. ((c.finish-ending.ensures.none e).0, (c.finish-ending.ensures.none e).1, (c.finish-ending.ensures.none e).2, ap (λ o. (g.O.Sink.state o).written) (c.finish-ending.ensures.none e).3);
      said = c.finish-ending.ensures.said;
      memory = λ e. ((c.finish-ending.ensures.memory e).0, (c.finish-ending.ensures.memory e).1, (c.finish-ending.ensures.memory e).2);
      ended = c.finish-ending.ensures.ended;
      spent = c.finish-ending.ensures.spent;
      others = c.finish-ending.ensures.others;
    } in
    finished (speech g) c.finish-ending.result (g.R.Responder.done c.finish-ending.new.responder) c.args.responder.now c.reads.responder c.finish-ending.new.responder c.args.store.now c.reads.store c.finish-ending.new.store
    input out (g.I.Source.state c.reads.input).left (g.O.Sink.state c.reads.out).written c.reads.carry c.reads.bytes c.reads.invariant.talks none c.reads-test.true f

pub returns-in-Err-clause-conversed : goal.returns-in-Err-clause-conversed
returns-in-Err-clause-conversed g c =
    input_failed (speech g) (g.R.Responder.done c.reads.responder) c.args.responder.now c.reads.responder c.args.store.now c.reads.store (seen g.I.Source.state c.args.input.now c.read_piece.new.input) (seen g.O.Sink.state c.args.out.now c.reads.out)
    (g.I.Source.state c.reads.input).left c.reads.carry c.reads.bytes c.reads.invariant.talks c.in-Err.ensures.err c.reads.invariant.going c.reads-test.true

pub reads-preserved : goal.reads-preserved
reads-preserved g c =
    let s = c.reads.invariant.talks in
    let long = sym (length-take-le c.in-Ok.count c.read_piece.new.buf (c.in-Ok.ensures.bound).0) in
    record {
      talks = stands_more (speech g) c.args.responder.now c.reads.responder c.take_piece.new.responder c.args.store.now c.reads.store c.take_piece.new.store (g.I.Source.state c.args.input.now).left (g.I.Source.state c.reads.input).left
          (g.I.Source.state c.read_piece.new.input).left (g.O.Sink.state c.args.out.now).written (g.O.Sink.state c.reads.out).written (g.O.Sink.state c.take_piece.new.out).written c.reads.carry c.take_piece.new.carry
          (take c.in-Ok.count c.read_piece.new.buf) c.reads.bytes c.in-Ok.count s c.in-Ok.ensures.bytes long (c.take_piece.ensures.all c.in-None.is _ s.kept);
      few_bytes = omega (arith, (c.in-Ok.ensures.bound).1, c.reads-test.true);
      stands = c.take_piece.ensures.stands;
      going = (c.take_piece.ensures.going c.in-None.is).0;
      empty = (c.take_piece.ensures.going c.in-None.is).1;
      input_steady = c.in-Ok.ensures.cause.steady ∙ c.reads.invariant.input_steady;
      output_steady = c.in-None.ensures.faults.steady (λ e. cc) ∙ c.reads.invariant.output_steady;
      sight = sight_then (g.S.Store.state c.args.store.now) (g.S.Store.state c.reads.store) (g.S.Store.state c.take_piece.new.store) (g.O.Sink.state c.args.out.now).loose (g.O.Sink.state c.reads.out).loose (g.O.Sink.state c.take_piece.new.out).loose
          c.reads.invariant.sight c.take_piece.ensures.sight;
    }

pub returns-in-Some-clause-conversed : goal.returns-in-Some-clause-conversed
returns-in-Some-clause-conversed g c =
    let s = c.reads.invariant.talks in
    let long = sym (length-take-le c.in-Ok.count c.read_piece.new.buf (c.in-Ok.ensures.bound).0) in
    piece_ends (speech g) c.in-Some.ending (g.R.Responder.done c.take_piece.new.responder) g.R.Responder.lacks c.args.responder.now c.reads.responder c.take_piece.new.responder c.args.store.now c.reads.store c.take_piece.new.store
    (seen g.I.Source.state c.args.input.now c.read_piece.new.input) (seen g.O.Sink.state c.args.out.now c.take_piece.new.out) (g.I.Source.state c.reads.input).left (g.O.Sink.state c.reads.out).written c.reads.carry
    (take c.in-Ok.count c.read_piece.new.buf) c.reads.bytes c.in-Ok.count s c.in-Ok.ensures.bytes long (c.in-Some.ensures.some _ s.kept) c.in-Some.ensures.stops

pub returns-clause-conversed : goal.returns-clause-conversed
returns-clause-conversed g c =
    input_spent (speech g) (g.R.Responder.done c.reads.responder) c.args.responder.now c.reads.responder c.args.store.now c.reads.store (seen g.I.Source.state c.args.input.now c.reads.input) (seen g.O.Sink.state c.args.out.now c.reads.out)
    c.reads.carry c.reads.bytes c.reads.invariant.talks c.reads.invariant.going (omega (arith, c.reads.invariant.few_bytes, c.reads-test.false))

pub finish-ending-requires-clause-permits : goal.finish-ending-requires-clause-permits
finish-ending-requires-clause-permits g c =
    let s = c.reads.invariant.talks in
    permits_on (speech g) g.R.Responder.kept g.S.Store.state g.O.Sink.allows c.args.responder.now c.reads.responder c.args.store.now c.reads.store (g.O.Sink.state c.args.out.now).written (g.O.Sink.state c.reads.out).written
    (ended_lines s.text) s.said c.requires.permits s.answered s.put

pub take_piece-requires-clause-permits : goal.take_piece-requires-clause-permits
take_piece-requires-clause-permits g c =
    let s = c.reads.invariant.talks in
    permits_on (speech g) g.R.Responder.kept g.S.Store.state g.O.Sink.allows c.args.responder.now c.reads.responder c.args.store.now c.reads.store (g.O.Sink.state c.args.out.now).written (g.O.Sink.state c.reads.out).written
    (ended_lines s.text) s.said c.requires.permits s.answered s.put

pub returns-in-Ok-eq0-clause-sight : goal.returns-in-Ok-eq0-clause-sight
returns-in-Ok-eq0-clause-sight g c =
    sight_then (g.S.Store.state c.args.store.now) (g.S.Store.state c.reads.store) (g.S.Store.state c.finish-ending.new.store) (g.O.Sink.state c.args.out.now).loose (g.O.Sink.state c.reads.out).loose (g.O.Sink.state c.finish-ending.new.out).loose
    c.reads.invariant.sight c.finish-ending.ensures.sight

pub returns-in-Some-clause-sight : goal.returns-in-Some-clause-sight
returns-in-Some-clause-sight g c =
    sight_then (g.S.Store.state c.args.store.now) (g.S.Store.state c.reads.store) (g.S.Store.state c.take_piece.new.store) (g.O.Sink.state c.args.out.now).loose (g.O.Sink.state c.reads.out).loose (g.O.Sink.state c.take_piece.new.out).loose
    c.reads.invariant.sight c.take_piece.ensures.sight
