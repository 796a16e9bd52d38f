use Rattle.std.proofs.Common.{◌∙◌, ◌++◌, ℕ, List, [], codes, ap, inl, inr, refl, subst, sym, true, IsTrue, append-nil, arith}
use Rattle.std.specs.Prelude.{Err}
use Rattle.cube_server.specs.declared.serving.ServeFault.TheVariants.{WireFailed}
use Rattle.cube_io.specs.Causes.{Rose}
use Rattle.cube_io.specs.Seen.{seen}
use Rattle.cube_opening.specs.Opening.{GotBehind}
use Rattle.cube_opening.specs.Ruling.{ruled_names}
use Rattle.cube_opening.proofs.Causes.{same, alone, later, never, wider, no_memory, at_file, at_ruled, at_wire}
use Rattle.cube_starting.proofs.Causes.{at_journals}
use Rattle.cube_serving.proofs.Causes.{at_serving}
use Rattle.cube_serving.proofs.Listening.{heard_or_failed, not_seven, not_nine, all_served}
use Rattle.cube_starting.proofs.OpenGroups.{only_most}
use Rattle.cube_serving.proofs.Opened.{served, unserved}
use Rattle.cube_serving.proofs.Unruled as unruled
use Rattle.cube_starting.proofs.Unstarted as unstarted
use Rattle.cube_serving.proofs.serving.serve_cube.Goals as goal

pub returns-clause-answers : goal.returns-clause-answers
returns-clause-answers g c =
    let cube = c.args.cube.now in
    let ruled = c.in-Ok.opened.value in
    let x = c.in-Ok.ensures in
    let y = c.in-Ok-open_groups.ensures in
    let e = c.in-Ok-open_groups.started.value in
    let last = c.serve_groups-end.new.groups in
    let tells = g.S.Store.state in
    let old = c.args.world.now.store in
    let mid = c.open_groups.new.store in
    let new = c.serve_groups-end.new.store in
    let end = c.serve_groups-end.result in
    let z = c.serve_groups-end.ensures in
    let w = z.served ruled.core y.over in
    let files = seen g.F.Folder.state c.args.world.now.files c.open_ruled.new.files in
    let behind = subst (λ (ns : List (List ℕ)). GotBehind ns files) (sym (append-nil (ruled_names cube x.ok.0))) x.ok.2 in
    inr (inr (record {
      upto = record {
        asking = w.asking;
        stated_is = w.stated ∙ y.outcomes.1;
        outcomes_are = c.report_serving.ensures.outcomes ∙ c.finish.ensures ∙ sym w.outcomes;
        end = end;
        served = served cube [] files x.ok.0 ruled.core ruled.groups tells old mid e.books x.ok.1 behind y.ok y.over y.rules x.rules.few y.held y.opens new e last end
            (g.W.Wire.state c.args.world.now.wire).told (g.W.Wire.state c.listen.new.self).told (g.W.Wire.state c.serve_groups-end.new.wire).log refl c.in-Ok-listen.ensures.told z.others y.steady y.passed w z.asks;
      };
      status = c.report_serving.ensures.status;
      text = c.report_serving.ensures.text;
    }))

pub serve_groups-end-requires-clause-permits : goal.serve_groups-end-requires-clause-permits
serve_groups-end-requires-clause-permits g c = λ told last new log each others rose.
    let cube = c.args.cube.now in
    let ruled = c.in-Ok.opened.value in
    let x = c.in-Ok.ensures in
    let y = c.in-Ok-open_groups.ensures in
    let e = c.in-Ok-open_groups.started.value in
    let tells = g.S.Store.state in
    let old = c.args.world.now.store in
    let mid = c.open_groups.new.store in
    let w = each ruled.core y.over in
    let files = seen g.F.Folder.state c.args.world.now.files c.open_ruled.new.files in
    let behind = subst (λ (ns : List (List ℕ)). GotBehind ns files) (sym (append-nil (ruled_names cube x.ok.0))) x.ok.2 in
    c.requires.permits (subst IsTrue c.in-Ok-listen.ensures.told told) c.open_ruled.new.files new log w.asking (w.stated ∙ y.outcomes.1)
    (served cube [] files x.ok.0 ruled.core ruled.groups tells old mid e.books x.ok.1 behind y.ok y.over y.rules x.rules.few y.held y.opens new e last (Err WireFailed)
    true true log refl refl others y.steady y.passed w rose)

pub returns-in-Err-listen-clause-answers : goal.returns-in-Err-listen-clause-answers
returns-in-Err-listen-clause-answers g c =
    let cube = c.args.cube.now in
    let ruled = c.in-Ok.opened.value in
    let x = c.in-Ok.ensures in
    let y = c.in-Ok-open_groups.ensures in
    let e = c.close-in-Err-listen.ensures in
    let files = seen g.F.Folder.state c.args.world.now.files c.open_ruled.new.files in
    let behind = subst (λ (ns : List (List ℕ)). GotBehind ns files) (sym (append-nil (ruled_names cube x.ok.0))) x.ok.2 in
    inr (inl (
      unserved cube [] files x.ok.0 ruled.core ruled.groups g.S.Store.state c.args.world.now.store c.open_groups.new.store c.in-Ok-open_groups.started.value.books x.ok.1 behind y.ok y.over y.rules x.rules.few y.held y.opens y.passed,
      inl ((e.0, e.1, e.2 ∙ c.with-in-Err-listen.ensures ∙ ap (λ (t : List ℕ). t ++ codes "wire failed\n") y.message), c.in-Err-listen.ensures.cause.failed),
      λ told. c.in-Err-listen.ensures.log told ∙ c.requires.quiet told,
    ))

pub returns-in_default-clause-answers : goal.returns-in_default-clause-answers
returns-in_default-clause-answers g c =
    let cube = c.args.cube.now in
    let ruled = c.in-Ok.opened.value in
    let x = c.in-Ok.ensures in
    let y = c.in-Ok-open_groups.ensures in
    let e = c.close.ensures in
    let files = seen g.F.Folder.state c.args.world.now.files c.open_ruled.new.files in
    let behind = subst (λ (ns : List (List ℕ)). GotBehind ns files) (sym (append-nil (ruled_names cube x.ok.0))) x.ok.2 in
    inr (inl (
      unserved cube [] files x.ok.0 ruled.core ruled.groups g.S.Store.state c.args.world.now.store c.open_groups.new.store c.in-Ok-open_groups.started.value.books x.ok.1 behind y.ok y.over y.rules x.rules.few y.held y.opens y.passed,
      inr (e.0, e.1, e.2 ∙ c.with.ensures ∙ ap (λ (t : List ℕ). t ++ codes "no memory\n") y.message),
      c.requires.quiet,
    ))

pub returns-in-Err-clause-answers : goal.returns-in-Err-clause-answers
returns-in-Err-clause-answers g c = inl (inl (c.in-Err.ensures.err, refl), refl)

pub returns-in-Err-open_groups-clause-answers : goal.returns-in-Err-open_groups-clause-answers
returns-in-Err-open_groups-clause-answers g c =
    let cube = c.args.cube.now in
    let ruled = c.in-Ok.opened.value in
    let x = c.in-Ok.ensures in
    let files = seen g.F.Folder.state c.args.world.now.files c.open_ruled.new.files in
    inl (
      inr (record {
        core = ruled.core;
        listed = x.ok.0;
        groups = ruled.groups;
        files_make = x.ok.1;
        behind = subst (λ (ns : List (List ℕ)). GotBehind ns files) (sym (append-nil (ruled_names cube x.ok.0))) x.ok.2;
        ended = c.in-Err-open_groups.ensures.err;
        others = c.in-Err-open_groups.ensures.opens.others;
      }),
      refl,
    )

pub returns-clause-others : goal.returns-clause-others
returns-clause-others g c =
    let y = c.in-Ok-open_groups.ensures in
    only_most c.in-Ok.opened.value.core g.S.Store.state c.args.world.now.store c.open_groups.new.store c.serve_groups-end.new.store c.in-Ok.opened.value.groups c.in-Ok-open_groups.started.value.books c.in-Ok.ensures.rules.few y.ok y.opens.told _ c.in-Ok.ensures.few y.opens.others c.serve_groups-end.ensures.others

pub returns-in-Err-clause-complete : goal.returns-in-Err-clause-complete
returns-in-Err-clause-complete g c = λ all kept some files store wire. inr (unruled.all_accepted c.args.cube.now (seen g.F.Folder.state c.args.world.now.files c.open_ruled.new.files) c.in-Err.report c.in-Err.ensures.err all files)

pub returns-in-Err-listen-clause-heard : goal.returns-in-Err-listen-clause-heard
returns-in-Err-listen-clause-heard g c =
    inr (λ told. heard_or_failed c.args.endpoint.now.address.now c.args.endpoint.now.idle (g.W.Wire.state c.args.world.now.wire).heard (g.W.Wire.state c.listen.new.self).heard c.close-in-Err-listen.result (c.in-Err-listen.ensures.heard told) c.close-in-Err-listen.ensures.0)

pub returns-clause-calls : goal.returns-clause-calls
returns-clause-calls g c = λ nine. absurd (not_nine c.serve_groups-end.result (sym c.report_serving.ensures.status ∙ nine))

pub returns-clause-memory : goal.returns-clause-memory
returns-clause-memory g c = λ seven. absurd (not_seven c.serve_groups-end.result (sym c.report_serving.ensures.status ∙ seven))

pub returns-clause-heard : goal.returns-clause-heard
returns-clause-heard g c = inr (λ told. inl (c.serve_groups-end.ensures.plays.heard (subst IsTrue (sym c.in-Ok-listen.ensures.told) told) ∙ c.in-Ok-listen.ensures.heard told))

pub returns-clause-names : goal.returns-clause-names
returns-clause-names g c = inr (λ told. inl (c.serve_groups-end.ensures.stored (subst IsTrue (sym c.in-Ok-open_groups.ensures.opens.told) told) ∙ c.in-Ok-open_groups.ensures.names told))

pub returns-clause-complete : goal.returns-clause-complete
returns-clause-complete g c = λ all kept some files store wire.
    let end = c.serve_groups-end.result in
    let status = c.report_serving.ensures.status in
    inl (status ∙ all_served end (λ ten. some (status ∙ ten)) (λ failed. wire (subst (λ (n : ℕ). Rose n (g.W.Wire.state c.serve_groups-end.new.wire).faults) c.in-Ok-listen.ensures.cause.steady (c.serve_groups-end.ensures.failed failed))))

pub returns-in-Err-clause-names : goal.returns-in-Err-clause-names
returns-in-Err-clause-names g c = inl refl

pub returns-in-Err-clause-others : goal.returns-in-Err-clause-others
returns-in-Err-clause-others g c = λ told k far seal. refl

pub returns-in-Err-clause-calls : goal.returns-in-Err-clause-calls
returns-in-Err-clause-calls g c = λ nine. absurd (unruled.not_nine c.args.cube.now (seen g.F.Folder.state c.args.world.now.files c.open_ruled.new.files) c.in-Err.report c.in-Err.ensures.err nine)

pub returns-in-Err-open_groups-clause-names : goal.returns-in-Err-open_groups-clause-names
returns-in-Err-open_groups-clause-names g c = inr c.in-Err-open_groups.ensures.names_err

pub returns-in-Err-open_groups-clause-others : goal.returns-in-Err-open_groups-clause-others
returns-in-Err-open_groups-clause-others g c = λ told k far none. c.in-Err-open_groups.ensures.opens.others told k (omega (arith, far, c.in-Ok.ensures.few)) (λ j from low. none j from (let few = c.in-Ok.ensures.few in omega (arith, low, few)))

pub returns-in-Err-open_groups-clause-calls : goal.returns-in-Err-open_groups-clause-calls
returns-in-Err-open_groups-clause-calls g c = λ nine told. omega (arith, c.in-Err-open_groups.ensures.opens.calls told, c.in-Ok.ensures.few)

pub returns-in_default-clause-names : goal.returns-in_default-clause-names
returns-in_default-clause-names g c = inr (λ told. inl (c.in-Ok-open_groups.ensures.names told))

pub returns-in_default-clause-others : goal.returns-in_default-clause-others
returns-in_default-clause-others g c = λ told k far none. c.in-Ok-open_groups.ensures.opens.others told k (omega (arith, far, c.in-Ok.ensures.few)) (λ j from low. none j from (let few = c.in-Ok.ensures.few in omega (arith, low, few)))

pub returns-in_default-clause-calls : goal.returns-in_default-clause-calls
returns-in_default-clause-calls g c = λ nine. absurd (omega (arith, c.close.ensures.0, nine))

pub returns-in-Err-clause-heard : goal.returns-in-Err-clause-heard
returns-in-Err-clause-heard g c = inl refl

pub returns-in-Err-clause-memory : goal.returns-in-Err-clause-memory
returns-in-Err-clause-memory g c = λ seven. (unruled.unasked c.args.cube.now (seen g.F.Folder.state c.args.world.now.files c.open_ruled.new.files) c.in-Err.report c.in-Err.ensures.err, c.requires.quiet)

pub returns-in-Err-open_groups-clause-heard : goal.returns-in-Err-open_groups-clause-heard
returns-in-Err-open_groups-clause-heard g c = inl refl

pub returns-in-Err-open_groups-clause-memory : goal.returns-in-Err-open_groups-clause-memory
returns-in-Err-open_groups-clause-memory g c = λ seven. (unstarted.unasked c.in-Ok.opened.value.core c.in-Ok.opened.value.groups (seen g.S.Store.state c.args.world.now.store c.open_groups.new.store) c.in-Err-open_groups.report c.in-Err-open_groups.ensures.err.unstarted, c.requires.quiet)

pub returns-in-Err-open_groups-clause-complete : goal.returns-in-Err-open_groups-clause-complete
returns-in-Err-open_groups-clause-complete g c = λ all kept some files store wire.
    let x = c.in-Ok.ensures in
    inr (unstarted.accepted c.in-Ok.opened.value.core c.in-Ok.opened.value.groups (seen g.S.Store.state c.args.world.now.store c.open_groups.new.store) c.in-Err-open_groups.report kept.told (kept.accepted c.in-Ok.opened.value.core x.ok.0 c.in-Ok.opened.value.groups x.ok.1) (store (unstarted.unasked c.in-Ok.opened.value.core c.in-Ok.opened.value.groups (seen g.S.Store.state c.args.world.now.store c.open_groups.new.store) c.in-Err-open_groups.report c.in-Err-open_groups.ensures.err.unstarted)) c.in-Err-open_groups.ensures.err.unstarted)

pub returns-in_default-clause-heard : goal.returns-in_default-clause-heard
returns-in_default-clause-heard g c = inl refl

pub returns-in_default-clause-memory : goal.returns-in_default-clause-memory
returns-in_default-clause-memory g c = λ seven. (c.close.ensures.1, c.requires.quiet)

pub returns-in_default-clause-complete : goal.returns-in_default-clause-complete
returns-in_default-clause-complete g c = λ all kept some files store wire. inr c.close.ensures.0

pub returns-in-Err-listen-clause-names : goal.returns-in-Err-listen-clause-names
returns-in-Err-listen-clause-names g c = inr (λ told. inl (c.in-Ok-open_groups.ensures.names told))

pub returns-in-Err-listen-clause-others : goal.returns-in-Err-listen-clause-others
returns-in-Err-listen-clause-others g c = λ told k far none. c.in-Ok-open_groups.ensures.opens.others told k (omega (arith, far, c.in-Ok.ensures.few)) (λ j from low. none j from (let few = c.in-Ok.ensures.few in omega (arith, low, few)))

pub returns-in-Err-listen-clause-calls : goal.returns-in-Err-listen-clause-calls
returns-in-Err-listen-clause-calls g c = λ nine. absurd (omega (arith, c.close-in-Err-listen.ensures.0, nine))

pub returns-in-Err-listen-clause-memory : goal.returns-in-Err-listen-clause-memory
returns-in-Err-listen-clause-memory g c = λ seven. absurd (omega (arith, c.close-in-Err-listen.ensures.0, seven))

pub returns-in-Err-listen-clause-complete : goal.returns-in-Err-listen-clause-complete
returns-in-Err-listen-clause-complete g c = λ all kept some files store wire. absurd (wire c.in-Err-listen.ensures.cause.failed)

pub returns-in-Err-clause-causes : goal.returns-in-Err-clause-causes
returns-in-Err-clause-causes g c = let x = c.in-Err.ensures in wider same (never _) (alone refl) (alone refl) (alone refl) (at_file (at_ruled c.args.cube.now (seen g.F.Folder.state c.args.world.now.files c.open_ruled.new.files) c.in-Err.report x.err) x.reads.steady_err)

pub returns-in-Err-open_groups-clause-causes : goal.returns-in-Err-open_groups-clause-causes
returns-in-Err-open_groups-clause-causes g c =
    let ruled = c.in-Ok.opened.value in
    wider (alone c.in-Ok.ensures.reads.steady) (λ e. e) (alone refl) (alone refl) (alone refl) (at_journals ruled.core ruled.groups (seen g.S.Store.state c.args.world.now.store c.open_groups.new.store) c.in-Err-open_groups.report c.in-Err-open_groups.ensures.err.unstarted)

pub returns-in_default-clause-causes : goal.returns-in_default-clause-causes
returns-in_default-clause-causes g c = no_memory c.close.ensures.0 (record { files = c.in-Ok.ensures.reads.steady; input = refl; out = refl; wire = refl })

pub returns-in-Err-listen-clause-causes : goal.returns-in-Err-listen-clause-causes
returns-in-Err-listen-clause-causes g c = at_wire c.close-in-Err-listen.ensures.0 c.in-Err-listen.ensures.cause.failed c.in-Ok.ensures.reads.steady refl refl

pub returns-clause-causes : goal.returns-clause-causes
returns-clause-causes g c =
    let z = c.serve_groups-end.ensures in
    wider (alone c.in-Ok.ensures.reads.steady) (never _) (alone refl) (alone refl) (later c.in-Ok-listen.ensures.cause.steady refl)
    (at_serving (seen g.W.Wire.state c.listen.new.self c.serve_groups-end.new.wire) _ c.serve_groups-end.result c.report_serving.ensures.status z.failed z.steady)
