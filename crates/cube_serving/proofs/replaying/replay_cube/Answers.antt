use Rattle.std.proofs.Common.{◌≡◌, ◌∙◌, ◌++◌, ◌∷◌, [], ℕ, List, Option, true, Ok, inl, inr, ap, sym, subst, refl, IsTrue, arith}
use Rattle.std.specs.Prelude.{IfSome, codes}
use Rattle.cube_io.specs.Seen.{seen}
use Rattle.cube_io.specs.Wires.{Plan}
use Rattle.cube_opening.specs.Opening.{FileSays, GotBehind}
use Rattle.cube_opening.specs.Ruling.{ruled_names}
use Rattle.cube_opening.proofs.Behind.{asked_then, ends_behind}
use Rattle.cube_opening.proofs.Causes.{same, alone, later, never, wider, no_memory, at_file, at_one, at_ruled}
use Rattle.cube_opening.proofs.Ended as ended
use Rattle.cube_starting.proofs.Causes.{at_journals}
use Rattle.cube_serving.proofs.Causes.{at_play}
use Rattle.cube_script.specs.Playing.{Playing, has_torn}
use Rattle.cube_serving.specs.Replaying.{script_said, wire_of, room_for_sends}
use Rattle.cube_starting.proofs.OpenGroups.{only_most}
use Rattle.cube_serving.proofs.Opened.{served, unserved}
use Rattle.cube_serving.proofs.Played.{whole, overran, unfailed, writes, finished, ends_none, ends_whole, rose_from, same_room}
use Rattle.cube_serving.proofs.Unruled as unruled
use Rattle.cube_starting.proofs.Unstarted as unstarted
use Rattle.cube_serving.proofs.replaying.replay_cube.Goals as goal

pub returns-in-Err-clause-answers : goal.returns-in-Err-clause-answers
returns-in-Err-clause-answers g c = inr (inl (inl (c.in-Err.ensures.err, refl), refl))

pub returns-in-Err-clause-complete : goal.returns-in-Err-clause-complete
returns-in-Err-clause-complete g c = λ all has kept some files store out. inr (unruled.all_accepted c.args.cube.now (seen g.F.Folder.state c.args.world.now.files c.open_ruled.new.files) c.in-Err.report c.in-Err.ensures.err all files)

pub returns-clause-names : goal.returns-clause-names
returns-clause-names g c = inr (λ told. inl (c.serve_groups-end.ensures.stored (subst IsTrue (sym c.in-Ok-open_groups.ensures.opens.told) told) ∙ c.in-Ok-open_groups.ensures.names told))

pub returns-clause-complete : goal.returns-clause-complete
returns-clause-complete g c = λ all has kept some files store out.
    let script = c.in-Ok-open_script.ensures.ok.1 in
    let begun = c.in-Ok-open_script.played.value in
    let wire = c.serve_groups-end.new.wire in
    let end = c.serve_groups-end.result in
    let plan = c.serve_groups-end.ensures.plays.plan in
    let w = c.serve_groups-end.ensures.served c.in-Ok.opened.value.core c.in-Ok-open_groups.ensures.over in
    let none = unfailed wire script.0 end c.taken-taken.ensures.playing (ap (λ (p : Plan). p.events) plan ∙ ap (λ (v : Playing). v.script) script.1) (ap (λ (p : Plan). p.refused) plan ∙ ap (λ (v : Playing). v.spilled) script.1)
    (λ failed. rose_from begun.faults wire.faults (ap (λ (v : Playing). v.faults) script.1) (c.serve_groups-end.ensures.failed failed)) (ends_none end _ _ wire.log w.wired.ended) in
    finished c.write_log-written.result (has_torn wire.log) end c.report_play.result _ _ c.report_play.ensures.put c.write_log-written.ensures.cause.failed out some none

pub returns-in-Err-open_script-clause-answers : goal.returns-in-Err-open_script-clause-answers
returns-in-Err-open_script-clause-answers g c =
    let x = c.in-Ok.ensures in
    inl (
      record {
        core = c.in-Ok.opened.value.core;
        listed = x.ok.0;
        groups = c.in-Ok.opened.value.groups;
        files_make = x.ok.1;
        ends = ends_behind (ruled_names c.args.cube.now x.ok.0) script_said c.args.script_name.now g.F.Folder.state c.args.world.now.files c.open_ruled.new.files c.open_script.new.files c.in-Err-open_script.report x.ok.2.asked x.reads.files x.ok.2.steady c.in-Err-open_script.ensures.err;
      },
      refl,
      refl,
    )

pub returns-in-Err-open_groups-clause-answers : goal.returns-in-Err-open_groups-clause-answers
returns-in-Err-open_groups-clause-answers g c =
    let ruled = c.in-Ok.opened.value in
    let x = c.in-Ok.ensures in
    let z = c.in-Ok-open_script.ensures in
    inr (inl (
      inr (record {
        core = ruled.core;
        listed = x.ok.0;
        groups = ruled.groups;
        files_make = x.ok.1;
        behind = record { asked = asked_then (ruled_names c.args.cube.now x.ok.0) (c.args.script_name.now ∷ []) g.F.Folder.state c.args.world.now.files c.open_ruled.new.files c.open_script.new.files x.ok.2.asked z.asks; steady = z.reads.steady ∙ x.ok.2.steady };
        ended = c.in-Err-open_groups.ensures.err;
        others = c.in-Err-open_groups.ensures.opens.others;
      }),
      refl,
    ))

pub returns-in_default-clause-answers : goal.returns-in_default-clause-answers
returns-in_default-clause-answers g c =
    let cube = c.args.cube.now in
    let ruled = c.in-Ok.opened.value in
    let x = c.in-Ok.ensures in
    let z = c.in-Ok-open_script.ensures in
    let y = c.in-Ok-open_groups.ensures in
    let e = c.close.ensures in
    let files = seen g.F.Folder.state c.args.world.now.files c.open_script.new.files in
    let behind : GotBehind (ruled_names cube x.ok.0 ++ c.args.script_name.now ∷ []) files = record { asked = asked_then (ruled_names cube x.ok.0) (c.args.script_name.now ∷ []) g.F.Folder.state c.args.world.now.files c.open_ruled.new.files c.open_script.new.files x.ok.2.asked z.asks; steady = z.reads.steady ∙ x.ok.2.steady } in
    inr (inr (inl (
      unserved cube (c.args.script_name.now ∷ []) files x.ok.0 ruled.core ruled.groups g.S.Store.state c.args.world.now.store c.open_groups.new.store c.in-Ok-open_groups.started.value.books x.ok.1 behind y.ok y.over y.rules x.rules.few y.held y.opens y.passed,
      (e.0, e.1, e.2 ∙ c.with.ensures ∙ ap (λ (t : List ℕ). t ++ codes "no memory\n") y.message),
      refl,
    )))

pub returns-clause-answers : goal.returns-clause-answers
returns-clause-answers g c =
    let cube = c.args.cube.now in
    let ruled = c.in-Ok.opened.value in
    let f = c.in-Ok.ensures in
    let s = c.in-Ok-open_script.ensures in
    let y = c.in-Ok-open_groups.ensures in
    let e = c.in-Ok-open_groups.started.value in
    let last = c.serve_groups-end.new.groups in
    let tells = g.S.Store.state in
    let old = c.args.world.now.store in
    let mid = c.open_groups.new.store in
    let new = c.serve_groups-end.new.store in
    let out = seen g.O.Sink.state c.args.world.now.out c.write_log-written.new.out in
    let script = s.ok.1 in
    let begun = c.in-Ok-open_script.played.value in
    let wire = c.serve_groups-end.new.wire in
    let end = c.serve_groups-end.result in
    let z = c.serve_groups-end.ensures in
    let w = z.served ruled.core y.over in
    let plan = z.plays.plan in
    let playing = c.taken-taken.ensures.playing in
    let plays : wire.script ≡ (wire_of script.0).script = ap (λ (p : Plan). p.events) plan ∙ ap (λ (v : Playing). v.script) script.1 in
    let most = same_room wire.most room_for_sends (ap (λ (p : Plan). p.sends) plan ∙ ap (λ (v : Playing). v.most.sends) script.1) (ap (λ (p : Plan). p.bytes) plan ∙ ap (λ (v : Playing). v.most.bytes) script.1) in
    let files = seen g.F.Folder.state c.args.world.now.files c.open_script.new.files in
    let behind : GotBehind (ruled_names cube f.ok.0 ++ c.args.script_name.now ∷ []) files = record { asked = asked_then (ruled_names cube f.ok.0) (c.args.script_name.now ∷ []) g.F.Folder.state c.args.world.now.files c.open_ruled.new.files c.open_script.new.files f.ok.2.asked s.asks; steady = s.reads.steady ∙ f.ok.2.steady } in
    inr (inr (inr (record {
      script = script.0;
      wire = wire;
      upto = record {
        asking = w.asking;
        stated_is = w.stated ∙ y.outcomes.1;
        outcomes_are = c.report_play.ensures.outcomes ∙ c.finish.ensures ∙ sym w.outcomes;
        end = end;
        served = served cube (c.args.script_name.now ∷ []) files f.ok.0 ruled.core ruled.groups tells old mid e.books f.ok.1 behind y.ok y.over y.rules f.rules.few y.held y.opens new e last end
            true true wire.log refl refl z.others y.steady y.passed w z.asks;
      };
      said = subst (λ (fs : Option (List (List ℕ × List ℕ))). IfSome fs (λ known. FileSays script_said c.args.script_name.now known (Ok script.0))) f.reads.files script.3;
      plays = (plays, most);
      playing = playing;
      whole = λ u is. (
          let some = ends_whole end u _ _ wire.log w.wired.ended is in
          whole script.0 some.0 wire.log (playing.events).0 (sym plays ∙ (playing.events).1) script.2 some.1);
      cause = overran wire _ _ _ _ room_for_sends playing most (w.wired.tells refl).served;
      unfailed = unfailed wire script.0 end playing plays (ap (λ (p : Plan). p.refused) plan ∙ ap (λ (v : Playing). v.spilled) script.1)
          (λ failed. rose_from begun.faults wire.faults (ap (λ (v : Playing). v.faults) script.1) (z.failed failed)) (ends_none end _ _ wire.log w.wired.ended);
      writes = writes c.write_log-written.result end wire.log c.finish.result out c.report_play.result c.report_play.ensures.outcomes c.write_log-written.ensures.ok c.write_log-written.ensures.err c.report_play.ensures.put c.report_play.ensures.unput;
    })))

pub returns-clause-others : goal.returns-clause-others
returns-clause-others g c =
    let y = c.in-Ok-open_groups.ensures in
    only_most c.in-Ok.opened.value.core g.S.Store.state c.args.world.now.store c.open_groups.new.store c.serve_groups-end.new.store c.in-Ok.opened.value.groups c.in-Ok-open_groups.started.value.books c.in-Ok.ensures.rules.few y.ok y.opens.told _ c.in-Ok.ensures.few y.opens.others c.serve_groups-end.ensures.others

pub returns-in-Err-clause-names : goal.returns-in-Err-clause-names
returns-in-Err-clause-names g c = inl refl

pub returns-in-Err-clause-others : goal.returns-in-Err-clause-others
returns-in-Err-clause-others g c = λ told k far seal. refl

pub returns-in-Err-clause-calls : goal.returns-in-Err-clause-calls
returns-in-Err-clause-calls g c = λ nine. absurd (unruled.not_nine c.args.cube.now (seen g.F.Folder.state c.args.world.now.files c.open_ruled.new.files) c.in-Err.report c.in-Err.ensures.err nine)

pub returns-in-Err-open_groups-clause-names : goal.returns-in-Err-open_groups-clause-names
returns-in-Err-open_groups-clause-names g c = inr c.in-Err-open_groups.ensures.names_err

pub returns-in-Err-open_groups-clause-others : goal.returns-in-Err-open_groups-clause-others
returns-in-Err-open_groups-clause-others g c = λ told k far none. c.in-Err-open_groups.ensures.opens.others told k (omega (arith, far, c.in-Ok.ensures.few)) (λ j from low. none j from (let few = c.in-Ok.ensures.few in omega (arith, low, few)))

pub returns-in-Err-open_groups-clause-calls : goal.returns-in-Err-open_groups-clause-calls
returns-in-Err-open_groups-clause-calls g c = λ nine told. omega (arith, c.in-Err-open_groups.ensures.opens.calls told, c.in-Ok.ensures.few)

pub returns-in_default-clause-names : goal.returns-in_default-clause-names
returns-in_default-clause-names g c = inr (λ told. inl (c.in-Ok-open_groups.ensures.names told))

pub returns-in_default-clause-others : goal.returns-in_default-clause-others
returns-in_default-clause-others g c = λ told k far none. c.in-Ok-open_groups.ensures.opens.others told k (omega (arith, far, c.in-Ok.ensures.few)) (λ j from low. none j from (let few = c.in-Ok.ensures.few in omega (arith, low, few)))

pub returns-in_default-clause-calls : goal.returns-in_default-clause-calls
returns-in_default-clause-calls g c = λ nine. absurd (omega (arith, c.close.ensures.0, nine))

pub returns-in-Err-clause-memory : goal.returns-in-Err-clause-memory
returns-in-Err-clause-memory g c = λ seven. (unruled.unasked c.args.cube.now (seen g.F.Folder.state c.args.world.now.files c.open_ruled.new.files) c.in-Err.report c.in-Err.ensures.err, refl)

pub returns-in-Err-open_groups-clause-memory : goal.returns-in-Err-open_groups-clause-memory
returns-in-Err-open_groups-clause-memory g c = λ seven. (unstarted.unasked c.in-Ok.opened.value.core c.in-Ok.opened.value.groups (seen g.S.Store.state c.args.world.now.store c.open_groups.new.store) c.in-Err-open_groups.report c.in-Err-open_groups.ensures.err.unstarted, refl)

pub returns-in-Err-open_groups-clause-complete : goal.returns-in-Err-open_groups-clause-complete
returns-in-Err-open_groups-clause-complete g c = λ all has kept some files store out.
    let x = c.in-Ok.ensures in
    inr (unstarted.accepted c.in-Ok.opened.value.core c.in-Ok.opened.value.groups (seen g.S.Store.state c.args.world.now.store c.open_groups.new.store) c.in-Err-open_groups.report kept.told (kept.accepted c.in-Ok.opened.value.core x.ok.0 c.in-Ok.opened.value.groups x.ok.1) (store (unstarted.unasked c.in-Ok.opened.value.core c.in-Ok.opened.value.groups (seen g.S.Store.state c.args.world.now.store c.open_groups.new.store) c.in-Err-open_groups.report c.in-Err-open_groups.ensures.err.unstarted)) c.in-Err-open_groups.ensures.err.unstarted)

pub returns-in_default-clause-memory : goal.returns-in_default-clause-memory
returns-in_default-clause-memory g c = λ seven. (c.close.ensures.1, refl)

pub returns-in_default-clause-complete : goal.returns-in_default-clause-complete
returns-in_default-clause-complete g c = λ all has kept some files store out. inr c.close.ensures.0

pub returns-in-Err-open_script-clause-names : goal.returns-in-Err-open_script-clause-names
returns-in-Err-open_script-clause-names g c = inl refl

pub returns-in-Err-open_script-clause-others : goal.returns-in-Err-open_script-clause-others
returns-in-Err-open_script-clause-others g c = λ told k far seal. refl

pub returns-in-Err-open_script-clause-calls : goal.returns-in-Err-open_script-clause-calls
returns-in-Err-open_script-clause-calls g c = λ nine. absurd (ended.other c.in-Err-open_script.report.status 9 (λ k. omega (arith, k)) (λ k. omega (arith, k)) (λ k. omega (arith, k)) (ended.one_status script_said c.args.script_name.now (seen g.F.Folder.state c.open_ruled.new.files c.open_script.new.files) c.in-Err-open_script.report c.in-Err-open_script.ensures.err.unopened) nine)

pub returns-in-Err-open_script-clause-memory : goal.returns-in-Err-open_script-clause-memory
returns-in-Err-open_script-clause-memory g c = λ seven. (ended.one_unasked script_said c.args.script_name.now (seen g.F.Folder.state c.open_ruled.new.files c.open_script.new.files) c.in-Err-open_script.report c.in-Err-open_script.ensures.err.unopened, refl)

pub returns-in-Err-clause-causes : goal.returns-in-Err-clause-causes
returns-in-Err-clause-causes g c = let x = c.in-Err.ensures in wider same (never _) (alone refl) (alone refl) (alone refl) (at_file (at_ruled c.args.cube.now (seen g.F.Folder.state c.args.world.now.files c.open_ruled.new.files) c.in-Err.report x.err) x.reads.steady_err)

pub returns-in-Err-open_script-clause-causes : goal.returns-in-Err-open_script-clause-causes
returns-in-Err-open_script-clause-causes g c =
    let x = c.in-Err-open_script.ensures in
    wider (later c.in-Ok.ensures.reads.steady refl) (never _) (alone refl) (alone refl) (alone refl)
    (at_file (at_one script_said c.args.script_name.now (seen g.F.Folder.state c.open_ruled.new.files c.open_script.new.files) _ x.err.unopened) x.reads.steady_err)

pub returns-in-Err-open_groups-clause-causes : goal.returns-in-Err-open_groups-clause-causes
returns-in-Err-open_groups-clause-causes g c =
    let ruled = c.in-Ok.opened.value in
    wider (alone (c.in-Ok-open_script.ensures.reads.steady ∙ c.in-Ok.ensures.reads.steady)) (λ e. e) (alone refl) (alone refl) (alone refl)
    (at_journals ruled.core ruled.groups (seen g.S.Store.state c.args.world.now.store c.open_groups.new.store) c.in-Err-open_groups.report c.in-Err-open_groups.ensures.err.unstarted)

pub returns-in_default-clause-causes : goal.returns-in_default-clause-causes
returns-in_default-clause-causes g c = no_memory c.close.ensures.0 (record { files = c.in-Ok-open_script.ensures.reads.steady ∙ c.in-Ok.ensures.reads.steady; input = refl; out = refl; wire = refl })

pub returns-clause-causes : goal.returns-clause-causes
returns-clause-causes g c =
    let script = c.in-Ok-open_script.ensures.ok.1 in
    let begun = c.in-Ok-open_script.played.value in
    let wire = c.serve_groups-end.new.wire in
    let end = c.serve_groups-end.result in
    let plan = c.serve_groups-end.ensures.plays.plan in
    let w = c.serve_groups-end.ensures.served c.in-Ok.opened.value.core c.in-Ok-open_groups.ensures.over in
    let none = unfailed wire script.0 end c.taken-taken.ensures.playing (ap (λ (p : Plan). p.events) plan ∙ ap (λ (v : Playing). v.script) script.1) (ap (λ (p : Plan). p.refused) plan ∙ ap (λ (v : Playing). v.spilled) script.1)
    (λ failed. rose_from begun.faults wire.faults (ap (λ (v : Playing). v.faults) script.1) (c.serve_groups-end.ensures.failed failed)) (ends_none end _ _ wire.log w.wired.ended) in
    let written = c.write_log-written.ensures.cause in
    wider (alone (c.in-Ok-open_script.ensures.reads.steady ∙ c.in-Ok.ensures.reads.steady)) (never _) (alone refl) same (alone refl)
    (at_play _ _ (seen g.O.Sink.state c.args.world.now.out c.write_log-written.new.out) _ c.write_log-written.result (has_torn wire.log) end c.report_play.ensures.put c.report_play.ensures.unput written.steady written.failed none)

pub serve_groups-end-requires-clause-permits : goal.serve_groups-end-requires-clause-permits
serve_groups-end-requires-clause-permits g c = λ told last new log each others rose. tt
