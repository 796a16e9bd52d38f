use Rattle.std.proofs.Common.{◌∙◌, ◌++◌, ℕ, List, inl, inr, refl, sym, ap, subst, arith, IsTrue}
use Rattle.std.specs.Prelude.{codes}
use Rattle.cube_io.specs.Causes.{RoseBy}
use Rattle.cube_io.specs.Desks.{faults_in}
use Rattle.cube_io.specs.Seen.{seen}
use Rattle.cube_talk.specs.Asks.{Talk}
use Rattle.cube_talk.specs.Crashes.{TalkedOver}
use Rattle.cube_seal.specs.Seals.{seal_log}
use Rattle.cube_starting.specs.NamedBooks.{Groups}
use Rattle.cube_starting.specs.OneCube.{under}
use Rattle.cube_starting.proofs.OpenGroups.{SealsLeft}
use Rattle.cube_starting.proofs.Started.{groups_are, opened, still_open}
use Rattle.cube_opening.proofs.Accepted.{all_accepted}
use Rattle.cube_commands.proofs.Lives.{moment_of, elsewhere, survived, held_lines}
use Rattle.cube_commands.proofs.Putting.{IsServedNext, is_put}
use Rattle.cube_commands.proofs.Worlds.{hides}
use Rattle.cube_opening.proofs.Causes.{same, alone, never, wider, no_memory, at_file, at_files}
use Rattle.cube_starting.proofs.Causes.{at_journals}
use Rattle.cube_commands.proofs.Causes.{at_talk}
use Rattle.cube_starting.proofs.Unstarted as unstarted
use Rattle.cube_commands.proofs.talking.ask.Goals as goal

pub returns-clause-answers : goal.returns-clause-answers
returns-clause-answers g c =
    let guarded = c.in-Ok.opened.value in
    let core = guarded.core in
    let policy = guarded.policy in
    let e = c.in-Ok-open_alone.started.value in
    let y = c.in-Ok-open_alone.ensures in
    let book = y.begun.book in
    let h = book.history in
    let j = book.journal in
    let zeroth = y.begun.begun.started.log_is in
    let end = c.converse_by_asks-groups.result.0 in
    let last = c.converse_by_asks-groups.result.1 in
    let talk : Talk = record { stated = c.args.stated; ending = end.ending; outcomes = last.outcomes; bytes = end.bytes } in
    let files = g.F.Folder.state c.args.world.now.files in
    let input = seen g.I.Source.state c.args.world.now.input c.converse_by_asks-groups.new.input in
    let out = seen g.O.Sink.state c.args.world.now.out c.converse_by_asks-groups.new.out in
    let tells = g.S.Store.state in
    let old = c.args.world.now.store in
    let mid = c.open_alone.new.store in
    let new = c.converse_by_asks-groups.new.store in
    let store = seen tells old new in
    let told_mid : IsTrue (tells old).told → IsTrue (tells mid).told = λ told. subst IsTrue (sym y.opens.told) told in
    let talked = subst (λ (x : Groups). TalkedOver (moment_of x (tells mid)) (moment_of last (tells new)) end input out) (groups_are core policy c.args.stated (seen tells old mid) e y.begun) c.converse_by_asks-groups.ensures.talked in
    let left : SealsLeft tells old mid new = λ told k low. talked.survives.others (told_mid told) (seal_log k) (λ rooms s x. elsewhere core policy h j c.args.stated rooms (seal_log k) s zeroth (λ zero. omega (arith, zero, low)) x) in
    let at_start = opened c.args.cube.now files core policy (seen tells old mid) book c.in-Ok.ensures.ok.1 y.begun.begun y.held in
    inr (
      talk,
      refl,
      record {
        outcomes = c.report_asks.ensures.outcomes;
        status = c.report_asks.ensures.status;
        text = c.report_asks.ensures.text;
      },
      record {
        core = core;
        policy = policy;
        first = h;
        last = _;
        opened = still_open c.args.cube.now files tells old mid new core policy h left at_start;
        talked = talked.talked;
        last_is = refl;
        hides = hides core policy h talk input out c.dims-rules.ensures.rules c.in-Ok.ensures.rules at_start.admissible talked.talked;
        kept = record {
          survived = λ told. (survived core policy h j c.args.stated last end (tells mid) store zeroth (told_mid told) (y.begun.begun.started.exact told) (y.passed told) talked, tt);
          held = λ told. (held_lines core policy h j c.args.stated last end (tells mid) store zeroth (told_mid told) (y.begun.begun.started.exact told) (y.passed told) talked, tt);
          failed = subst (λ n. RoseBy (faults_in last.outcomes) n (tells new).faults) y.steady talked.risen;
          few = λ told. let first = y.opens.calls told in let then = talked.survives.calls (told_mid told) in omega (arith, first, then);
        };
        fresh = talked.fresh;
      },
      c.in-Ok.ensures.behind,
    )

pub converse_by_asks-groups-requires-clause-permits : goal.converse_by_asks-groups-requires-clause-permits
converse_by_asks-groups-requires-clause-permits g c = λ now t bytes piece told next.
    let guarded = c.in-Ok.opened.value in
    let core = guarded.core in
    let policy = guarded.policy in
    let cube = c.args.cube.now in
    let e = c.in-Ok-open_alone.started.value in
    let y = c.in-Ok-open_alone.ensures in
    let book = y.begun.book in
    let files = g.F.Folder.state c.args.world.now.files in
    let tells = g.S.Store.state in
    let old = c.args.world.now.store in
    let mid = c.open_alone.new.store in
    let start = (g.O.Sink.state c.args.world.now.out).written in
    let at_start = opened cube files core policy (seen tells old mid) book c.in-Ok.ensures.ok.1 y.begun.begun y.held in
    c.requires.permits t bytes piece told (is_put cube files tells old mid core policy book.history book.journal c.args.stated start at_start y.begun.begun.started.log_is y.opens.told y.steady
    (λ first. y.begun.begun.started.exact first) (λ first. y.passed first) y.opens.calls now t bytes piece
    (subst (λ (x : Groups). IsServedNext tells x mid start now t bytes piece) (groups_are core policy c.args.stated (seen tells old mid) e y.begun) next))

pub returns-clause-sight : goal.returns-clause-sight
returns-clause-sight g c = λ told. c.converse_by_asks-groups.ensures.sight (subst IsTrue (sym c.in-Ok-open_alone.ensures.opens.told) told)

pub returns-in-Err-clause-complete : goal.returns-in-Err-clause-complete
returns-in-Err-clause-complete g c = λ all kept some files store input out. inr (all_accepted c.args.cube.now (seen g.F.Folder.state c.args.world.now.files c.open_guarded.new.files) c.in-Err.report c.in-Err.ensures.err all files)

pub returns-clause-others : goal.returns-clause-others
returns-clause-others g c = λ told log far seal.
    let y = c.in-Ok-open_alone.ensures in
    let guarded = c.in-Ok.opened.value in
    let e = c.in-Ok-open_alone.started.value in
    let book = y.begun.book in
    let tells = g.S.Store.state in
    let talked = subst (λ (x : Groups). TalkedOver (moment_of x (tells c.open_alone.new.store)) (moment_of c.converse_by_asks-groups.result.1 (tells c.converse_by_asks-groups.new.store)) c.converse_by_asks-groups.result.0 (seen g.I.Source.state c.args.world.now.input c.converse_by_asks-groups.new.input) (seen g.O.Sink.state c.args.world.now.out c.converse_by_asks-groups.new.out))
    (groups_are guarded.core guarded.policy c.args.stated (seen tells c.args.world.now.store c.open_alone.new.store) e y.begun) c.converse_by_asks-groups.ensures.talked in
    talked.survives.others (subst IsTrue (sym y.opens.told) told) log (λ rooms s x. elsewhere guarded.core guarded.policy book.history book.journal c.args.stated rooms log s y.begun.begun.started.log_is (λ zero. omega (arith, zero, far)) x) ∙ y.opens.others told log far seal

pub returns-in-Err-clause-answers : goal.returns-in-Err-clause-answers
returns-in-Err-clause-answers g c = inl (inl (c.in-Err.ensures.err, refl), refl, refl)

pub returns-in-Err-open_alone-clause-answers : goal.returns-in-Err-open_alone-clause-answers
returns-in-Err-open_alone-clause-answers g c =
    let guarded = c.in-Ok.opened.value in
    inl (inr (record { core = guarded.core; policy = guarded.policy; files_make = c.in-Ok.ensures.ok.1; ended = c.in-Err-open_alone.ensures.err }, c.in-Ok.ensures.behind), refl, refl)

pub returns-in_default-clause-answers : goal.returns-in_default-clause-answers
returns-in_default-clause-answers g c =
    let guarded = c.in-Ok.opened.value in
    let y = c.in-Ok-open_alone.ensures in
    let e = c.close.ensures in
    inl (
      inr (
        record {
          core = guarded.core;
          policy = guarded.policy;
          files_make = c.in-Ok.ensures.ok.1;
          ended = record {
            unstarted = inr (inl ((e.0, e.1, e.2 ∙ c.with.ensures ∙ ap (λ (t : List ℕ). t ++ codes "no memory\n") y.message), y.steady));
            passed = (y.passed, tt);
            seals = y.held.seals;
            compared = inl y.held.agreed;
          };
        },
        c.in-Ok.ensures.behind,
      ),
      refl,
      refl,
    )

pub returns-in-Err-clause-causes : goal.returns-in-Err-clause-causes
returns-in-Err-clause-causes g c = wider same (never _) (alone refl) (alone refl) (alone refl) (at_file (at_files c.args.cube.now (seen g.F.Folder.state c.args.world.now.files c.open_guarded.new.files) c.in-Err.report c.in-Err.ensures.err) c.in-Err.ensures.reads.steady_err)

pub returns-in-Err-open_alone-clause-causes : goal.returns-in-Err-open_alone-clause-causes
returns-in-Err-open_alone-clause-causes g c = wider (alone c.in-Ok.ensures.reads.steady) (λ e. e) (alone refl) (alone refl) (alone refl) (at_journals c.in-Ok.opened.value.core (under c.in-Ok.opened.value.policy) (seen g.S.Store.state c.args.world.now.store c.open_alone.new.store) c.in-Err-open_alone.report c.in-Err-open_alone.ensures.err.unstarted)

pub returns-in_default-clause-causes : goal.returns-in_default-clause-causes
returns-in_default-clause-causes g c = no_memory c.close.ensures.0 (record { files = c.in-Ok.ensures.reads.steady; input = refl; out = refl; wire = refl })

pub returns-clause-causes : goal.returns-clause-causes
returns-clause-causes g c = at_talk (c.converse_by_asks-groups.result.0).ending c.report_asks.ensures.status c.converse_by_asks-groups.ensures.input c.converse_by_asks-groups.ensures.output c.in-Ok.ensures.reads.steady refl

pub returns-in-Err-open_alone-clause-complete : goal.returns-in-Err-open_alone-clause-complete
returns-in-Err-open_alone-clause-complete g c = λ all kept some files store input out.
    inr (unstarted.accepted c.in-Ok.opened.value.core (under c.in-Ok.opened.value.policy) (seen g.S.Store.state c.args.world.now.store c.open_alone.new.store) c.in-Err-open_alone.report kept.told (kept.accepted c.in-Ok.opened.value.core c.in-Ok.opened.value.policy c.in-Ok.ensures.ok.1) (store (unstarted.unasked c.in-Ok.opened.value.core (under c.in-Ok.opened.value.policy) (seen g.S.Store.state c.args.world.now.store c.open_alone.new.store) c.in-Err-open_alone.report c.in-Err-open_alone.ensures.err.unstarted)) c.in-Err-open_alone.ensures.err.unstarted)

pub returns-in-Err-open_alone-clause-memory : goal.returns-in-Err-open_alone-clause-memory
returns-in-Err-open_alone-clause-memory g c = λ seven. (refl, refl, unstarted.unasked c.in-Ok.opened.value.core (under c.in-Ok.opened.value.policy) (seen g.S.Store.state c.args.world.now.store c.open_alone.new.store) c.in-Err-open_alone.report c.in-Err-open_alone.ensures.err.unstarted)

pub returns-in-Err-open_alone-clause-calls : goal.returns-in-Err-open_alone-clause-calls
returns-in-Err-open_alone-clause-calls g c = λ nine told. c.in-Err-open_alone.ensures.opens.calls told
