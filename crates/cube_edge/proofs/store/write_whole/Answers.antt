use Rattle.std.proofs.Common.{◌≡◌, ◌<◌, ◌-◌, List, ℕ, length, length-drop, ◌∙◌, sym, ap, subst, arith, rules}
use Rattle.std.specs.Prelude.{IsTrue}
use Rattle.cube_io.specs.States.{Appended}
use Rattle.cube_edge.proofs.Appending.{works_on, appended_on}
use Rattle.cube_edge.proofs.store.write_whole.Goals as goal

pub returns-in_err-count-clause-grows : goal.returns-in_err-count-clause-grows
returns-in_err-count-clause-grows g c = λ told.
    let inv = c.writes.invariant in
    let more = c.write.ensures.grows (subst IsTrue (sym inv.works.told) told) in
    let all = appended_on (g.D.Disk.place c.args.file.now) (g.D.Disk.place c.writes.file) (g.D.Disk.state c.args.disk.now) (g.D.Disk.state c.writes.disk) (g.D.Disk.state c.write.new.self) c.args.piece.now c.writes.rest.now more.0 inv.file (inv.grows told) more.2 in
    (more.0, search rules, all)

pub writes-preserved : goal.writes-preserved
writes-preserved g c =
    let inv = c.writes.invariant in
    record {
      file = c.write.ensures.file ∙ inv.file;
      seen = c.write.ensures.seen ∙ inv.seen;
      works = works_on (g.D.Disk.place c.args.file.now) (g.D.Disk.place c.writes.file) (g.D.Disk.state c.args.disk.now) (g.D.Disk.state c.writes.disk) (g.D.Disk.state c.write.new.self) inv.file inv.works c.write.ensures.works;
      grows = λ told.
          let more = c.in_ok-count.ensures.grows (subst IsTrue (sym inv.works.told) told) in
          subst (λ (l : List ℕ). Appended c.args.piece.now l ((g.D.Disk.state c.args.disk.now).logs (g.D.Disk.place c.args.file.now)) ((g.D.Disk.state c.write.new.self).logs (g.D.Disk.place c.args.file.now))) (more.1 ∙ sym c.behind-rest.ensures)
          (appended_on (g.D.Disk.place c.args.file.now) (g.D.Disk.place c.writes.file) (g.D.Disk.state c.args.disk.now) (g.D.Disk.state c.writes.disk) (g.D.Disk.state c.write.new.self) c.args.piece.now c.writes.rest.now more.0 inv.file (inv.grows told) more.2);
      refused = λ told. (c.in_ok-count.ensures.refused (subst IsTrue (sym inv.works.told) told)).steady ∙ inv.refused told;
      shorter = λ told.
          let some : 0 < length c.writes.rest.now = search rules in
          let count : 0 < c.in_ok-count.count = c.in_ok-count.ensures.some (subst IsTrue (sym inv.works.told) told) some in
          let less : length c.behind-rest.result.now ≡ length c.writes.rest.now - c.in_ok-count.count = ap (λ (l : List ℕ). length l) c.behind-rest.ensures ∙ length-drop c.in_ok-count.count c.writes.rest.now in
          omega (arith, inv.shorter told, count, some, less);
    }
