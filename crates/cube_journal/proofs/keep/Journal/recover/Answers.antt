use Rattle.std.proofs.Common.{◌∙◌}
use Rattle.cube_journal.specs.Recovery.{recovered, first_line}
use Rattle.cube_journal.proofs.Longer.{entries_are_sound}
use Rattle.cube_journal.proofs.OpeningSteps.{opened_look, opened_then, fits_opened}
use Rattle.cube_journal.proofs.Recovering.{begins, restored}
use Rattle.cube_journal.proofs.keep.Journal.recover.Goals as goal

pub returns-in-Err-clause-crash : goal.returns-in-Err-clause-crash
returns-in-Err-clause-crash g c = λ told. opened_look (recovered c.args.digest.now c.args.dims.now c.args.policy.now c.args.places) ((g.S.Store.state c.args.store.now).logs c.args.log) ((g.S.Store.state c.look.new.store).logs c.args.log) (c.look.ensures.trail told)

pub returns-in_default-clause-crash : goal.returns-in_default-clause-crash
returns-in_default-clause-crash g c = λ told. opened_look (recovered c.args.digest.now c.args.dims.now c.args.policy.now c.args.places) ((g.S.Store.state c.args.store.now).logs c.args.log) ((g.S.Store.state c.look.new.store).logs c.args.log) (c.look.ensures.trail told)

pub returns-in-Err-read-clause-crash : goal.returns-in-Err-read-clause-crash
returns-in-Err-read-clause-crash g c = λ told. opened_look (recovered c.args.digest.now c.args.dims.now c.args.policy.now c.args.places) ((g.S.Store.state c.args.store.now).logs c.args.log) ((g.S.Store.state c.look.new.store).logs c.args.log) (c.look.ensures.trail told)

pub repair-requires-clause-begins : goal.repair-requires-clause-begins
repair-requires-clause-begins g c =
    let said = rw c.as_slice.ensures at c.in-Ok-read.ensures in
    rw (c.as_slice-3.ensures, c.as_slice-4.ensures, c.in-Ok-first_line.ensures.text) (λ none. begins c.args.digest.now c.args.dims.now c.args.policy.now c.args.places c.in-Ok.bytes c.in-Ok-read.history said none)

pub returns-in-Ok-repair-clause-fits : goal.returns-in-Ok-repair-clause-fits
returns-in-Ok-repair-clause-fits g c =
    let line = rw c.in-Ok-first_line.ensures.text at c.in-Ok-first_line.ensures.line in
    let kept = rw (c.as_slice-3.ensures, c.as_slice-4.ensures, c.in-Ok-first_line.ensures.text) at c.in-Ok-repair.ensures.kept in
    λ told.
    let ok = rw (c.as_slice-3.ensures, c.as_slice-4.ensures, c.in-Ok-first_line.ensures.text) at (c.in-Ok-repair.ensures.ok (c.look.ensures.works.told ∙ told)) in
    fits_opened (first_line c.args.digest.now) c.in-Ok.bytes ((g.S.Store.state c.repair.new.store).logs c.args.log).state c.at.result c.args.log c.in-Ok-repair.kept line ok kept c.at.ensures

pub returns-in-Ok-repair-clause-crash : goal.returns-in-Ok-repair-clause-crash
returns-in-Ok-repair-clause-crash g c =
    let said = rw c.as_slice.ensures at c.in-Ok-read.ensures in
    λ told.
    let trail = rw (c.as_slice-3.ensures, c.as_slice-4.ensures, c.in-Ok-first_line.ensures.text) at (c.repair.ensures.trail (c.look.ensures.works.told ∙ told)) in
    opened_then (recovered c.args.digest.now c.args.dims.now c.args.policy.now c.args.places) (first_line c.args.digest.now) c.in-Ok.bytes ((g.S.Store.state c.args.store.now).logs c.args.log) ((g.S.Store.state c.look.new.store).logs c.args.log) ((g.S.Store.state c.repair.new.store).logs c.args.log) (c.in-Ok.ensures.bytes told)
    (restored c.args.digest.now c.args.dims.now c.args.policy.now c.args.places c.in-Ok.bytes c.in-Ok-read.history c.in-Ok-first_line.ensures.digits said) (c.look.ensures.trail told) trail

pub returns-clause-crash : goal.returns-clause-crash
returns-clause-crash g c =
    let said = rw c.as_slice.ensures at c.in-Ok-read.ensures in
    λ told.
    let trail = rw (c.as_slice-3.ensures, c.as_slice-4.ensures, c.in-Ok-first_line.ensures.text) at (c.repair.ensures.trail (c.look.ensures.works.told ∙ told)) in
    opened_then (recovered c.args.digest.now c.args.dims.now c.args.policy.now c.args.places) (first_line c.args.digest.now) c.in-Ok.bytes ((g.S.Store.state c.args.store.now).logs c.args.log) ((g.S.Store.state c.look.new.store).logs c.args.log) ((g.S.Store.state c.repair.new.store).logs c.args.log) (c.in-Ok.ensures.bytes told)
    (restored c.args.digest.now c.args.dims.now c.args.policy.now c.args.places c.in-Ok.bytes c.in-Ok-read.history c.in-Ok-first_line.ensures.digits said) (c.look.ensures.trail told) trail

pub returns-in-Ok-repair-clause-sound : goal.returns-in-Ok-repair-clause-sound
returns-in-Ok-repair-clause-sound g c =
    let said = rw c.as_slice.ensures at c.in-Ok-read.ensures in
    entries_are_sound c.args.digest.now c.args.dims.now c.args.policy.now c.args.places c.in-Ok.bytes c.in-Ok-read.history c.dimensions-rules.ensures.rules said
