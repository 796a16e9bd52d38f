use Rattle.std.proofs.Common.{[], ◌∙◌, ap, refl, sym, subst, ◌++◌, ◌+◌, ℕ, List, length, true, false}
use Rattle.cube_io.specs.States.{settled, Gained}
use Rattle.cube_io.proofs.Trails.{gained_map}
use Rattle.cube_journal.specs.Keeping.{Journal, Fits, KeepsSafe, IsInKeep, LeavesKept}
use Rattle.cube_journal.proofs.Steps.{keeps_then, keeps_wide, widens, keep_states, keep_crash, fits_failed, fits_done}
use Rattle.cube_journal.proofs.keep.Journal.keep_bytes.Goals as goal

pub returns-in-Err-clause-fits : goal.returns-in-Err-clause-fits
returns-in-Err-clause-fits g c =
    let v = c.self.view_is in
    let j0 : Journal = record { log = c.self.inside.log; kept = c.self.inside.kept; failed = c.self.inside.failed } in
    λ told.
    subst (λ (j : Journal). Fits ((g.S.Store.state c.ready.new.store).logs j.log).state j) v (fits_failed c.args.line.now ((g.S.Store.state c.args.store.now).logs c.self.inside.log).state ((g.S.Store.state c.ready.new.store).logs c.self.inside.log).state j0 j0 (subst (λ (j : Journal). Fits ((g.S.Store.state c.args.store.now).logs j.log).state j) (sym v) (c.requires.fits told)) c.requires.line (keeps_wide c.args.line.now ((g.S.Store.state c.args.store.now).logs c.self.inside.log).state ((g.S.Store.state c.ready.new.store).logs c.self.inside.log).state (c.ready.ensures.keeps told)) refl c.in-Err.ensures.was)

pub returns-in-Err-clause-err : goal.returns-in-Err-clause-err
returns-in-Err-clause-err g c =
    let v = c.self.view_is in
    let j0 : Journal = record { log = c.self.inside.log; kept = c.self.inside.kept; failed = c.self.inside.failed } in
    λ told.
    subst (λ (j : Journal). KeepsSafe c.args.line.now ((g.S.Store.state c.args.store.now).logs j.log).state ((g.S.Store.state c.ready.new.store).logs j.log).state) v (keeps_wide c.args.line.now ((g.S.Store.state c.args.store.now).logs c.self.inside.log).state ((g.S.Store.state c.ready.new.store).logs c.self.inside.log).state (c.ready.ensures.keeps told))

pub returns-in-Err-clause-states : goal.returns-in-Err-clause-states
returns-in-Err-clause-states g c =
    let v = c.self.view_is in
    let j0 : Journal = record { log = c.self.inside.log; kept = c.self.inside.kept; failed = c.self.inside.failed } in
    λ told.
    subst (λ (j : Journal). Gained (IsInKeep c.args.line.now ((g.S.Store.state c.args.store.now).logs j.log).state) ((g.S.Store.state c.args.store.now).logs j.log) ((g.S.Store.state c.ready.new.store).logs j.log)) v (gained_map (KeepsSafe [] ((g.S.Store.state c.args.store.now).logs c.self.inside.log).state) (IsInKeep c.args.line.now ((g.S.Store.state c.args.store.now).logs c.self.inside.log).state) ((g.S.Store.state c.args.store.now).logs c.self.inside.log) ((g.S.Store.state c.ready.new.store).logs c.self.inside.log) (λ s f. widens c.args.line.now ((g.S.Store.state c.args.store.now).logs c.self.inside.log).state s f) (c.ready.ensures.trail told))

pub returns-in-Err-clause-crash : goal.returns-in-Err-clause-crash
returns-in-Err-clause-crash g c =
    let v = c.self.view_is in
    let j0 : Journal = record { log = c.self.inside.log; kept = c.self.inside.kept; failed = c.self.inside.failed } in
    λ told.
    subst (λ (j : Journal). Gained (LeavesKept c.args.line.now ((g.S.Store.state c.args.store.now).logs j.log).state) ((g.S.Store.state c.args.store.now).logs j.log) ((g.S.Store.state c.ready.new.store).logs j.log)) v (keep_crash c.args.line.now ((g.S.Store.state c.args.store.now).logs c.self.inside.log) ((g.S.Store.state c.ready.new.store).logs c.self.inside.log) j0 (subst (λ (j : Journal). Fits ((g.S.Store.state c.args.store.now).logs j.log).state j) (sym v) (c.requires.fits told)) c.requires.line (gained_map (KeepsSafe [] ((g.S.Store.state c.args.store.now).logs c.self.inside.log).state) (IsInKeep c.args.line.now ((g.S.Store.state c.args.store.now).logs c.self.inside.log).state) ((g.S.Store.state c.args.store.now).logs c.self.inside.log) ((g.S.Store.state c.ready.new.store).logs c.self.inside.log) (λ s f. widens c.args.line.now ((g.S.Store.state c.args.store.now).logs c.self.inside.log).state s f) (c.ready.ensures.trail told)))

pub returns-in-Ok-put-clause-fits : goal.returns-in-Ok-put-clause-fits
returns-in-Ok-put-clause-fits g c =
    let v = c.self.view_is in
    let j0 : Journal = record { log = c.self.inside.log; kept = c.self.inside.kept; failed = c.self.inside.failed } in
    λ told.
    subst (λ (j : Journal). Fits ((g.S.Store.state c.put.new.store).logs j.log).state (record { log = c.self.inside.log; kept = c.self.inside.kept + length c.args.line.now; failed = false })) v (fits_done c.args.line.now ((g.S.Store.state c.args.store.now).logs c.self.inside.log).state ((g.S.Store.state c.put.new.store).logs c.self.inside.log).state j0 _ (subst (λ (j : Journal). Fits ((g.S.Store.state c.args.store.now).logs j.log).state j) (sym v) (c.requires.fits told)) c.requires.line (c.in-Ok-put.ensures.ok (c.ready.ensures.works.told ∙ told) ∙ ap (λ (l : List ℕ). settled (l ++ c.args.line.now)) (c.ready.ensures.keeps told).safe) refl)

pub returns-in-Ok-put-clause-states : goal.returns-in-Ok-put-clause-states
returns-in-Ok-put-clause-states g c =
    let v = c.self.view_is in
    let j0 : Journal = record { log = c.self.inside.log; kept = c.self.inside.kept; failed = c.self.inside.failed } in
    λ told.
    subst (λ (j : Journal). Gained (IsInKeep c.args.line.now ((g.S.Store.state c.args.store.now).logs j.log).state) ((g.S.Store.state c.args.store.now).logs j.log) ((g.S.Store.state c.put.new.store).logs j.log)) v (keep_states c.args.line.now ((g.S.Store.state c.args.store.now).logs c.self.inside.log) ((g.S.Store.state c.ready.new.store).logs c.self.inside.log) ((g.S.Store.state c.put.new.store).logs c.self.inside.log) (c.ready.ensures.trail told) (c.ready.ensures.keeps told) (c.put.ensures.trail (c.ready.ensures.works.told ∙ told)))

pub returns-in-Ok-put-clause-crash : goal.returns-in-Ok-put-clause-crash
returns-in-Ok-put-clause-crash g c =
    let v = c.self.view_is in
    let j0 : Journal = record { log = c.self.inside.log; kept = c.self.inside.kept; failed = c.self.inside.failed } in
    λ told.
    subst (λ (j : Journal). Gained (LeavesKept c.args.line.now ((g.S.Store.state c.args.store.now).logs j.log).state) ((g.S.Store.state c.args.store.now).logs j.log) ((g.S.Store.state c.put.new.store).logs j.log)) v (keep_crash c.args.line.now ((g.S.Store.state c.args.store.now).logs c.self.inside.log) ((g.S.Store.state c.put.new.store).logs c.self.inside.log) j0 (subst (λ (j : Journal). Fits ((g.S.Store.state c.args.store.now).logs j.log).state j) (sym v) (c.requires.fits told)) c.requires.line (keep_states c.args.line.now ((g.S.Store.state c.args.store.now).logs c.self.inside.log) ((g.S.Store.state c.ready.new.store).logs c.self.inside.log) ((g.S.Store.state c.put.new.store).logs c.self.inside.log) (c.ready.ensures.trail told) (c.ready.ensures.keeps told) (c.put.ensures.trail (c.ready.ensures.works.told ∙ told))))

pub returns-in-Err-put-clause-fits : goal.returns-in-Err-put-clause-fits
returns-in-Err-put-clause-fits g c =
    let v = c.self.view_is in
    let j0 : Journal = record { log = c.self.inside.log; kept = c.self.inside.kept; failed = c.self.inside.failed } in
    λ told.
    subst (λ (j : Journal). Fits ((g.S.Store.state c.put.new.store).logs j.log).state (record { log = c.self.inside.log; kept = c.self.inside.kept; failed = true })) v (fits_failed c.args.line.now ((g.S.Store.state c.args.store.now).logs c.self.inside.log).state ((g.S.Store.state c.put.new.store).logs c.self.inside.log).state j0 _ (subst (λ (j : Journal). Fits ((g.S.Store.state c.args.store.now).logs j.log).state j) (sym v) (c.requires.fits told)) c.requires.line (keeps_then c.args.line.now ((g.S.Store.state c.args.store.now).logs c.self.inside.log).state ((g.S.Store.state c.ready.new.store).logs c.self.inside.log).state ((g.S.Store.state c.put.new.store).logs c.self.inside.log).state (c.ready.ensures.keeps told) (c.in-Err-put.ensures.err (c.ready.ensures.works.told ∙ told))) refl refl)

pub returns-in-Err-put-clause-err : goal.returns-in-Err-put-clause-err
returns-in-Err-put-clause-err g c =
    let v = c.self.view_is in
    let j0 : Journal = record { log = c.self.inside.log; kept = c.self.inside.kept; failed = c.self.inside.failed } in
    λ told.
    subst (λ (j : Journal). KeepsSafe c.args.line.now ((g.S.Store.state c.args.store.now).logs j.log).state ((g.S.Store.state c.put.new.store).logs j.log).state) v (keeps_then c.args.line.now ((g.S.Store.state c.args.store.now).logs c.self.inside.log).state ((g.S.Store.state c.ready.new.store).logs c.self.inside.log).state ((g.S.Store.state c.put.new.store).logs c.self.inside.log).state (c.ready.ensures.keeps told) (c.in-Err-put.ensures.err (c.ready.ensures.works.told ∙ told)))

pub returns-in-Err-put-clause-states : goal.returns-in-Err-put-clause-states
returns-in-Err-put-clause-states g c =
    let v = c.self.view_is in
    let j0 : Journal = record { log = c.self.inside.log; kept = c.self.inside.kept; failed = c.self.inside.failed } in
    λ told.
    subst (λ (j : Journal). Gained (IsInKeep c.args.line.now ((g.S.Store.state c.args.store.now).logs j.log).state) ((g.S.Store.state c.args.store.now).logs j.log) ((g.S.Store.state c.put.new.store).logs j.log)) v (keep_states c.args.line.now ((g.S.Store.state c.args.store.now).logs c.self.inside.log) ((g.S.Store.state c.ready.new.store).logs c.self.inside.log) ((g.S.Store.state c.put.new.store).logs c.self.inside.log) (c.ready.ensures.trail told) (c.ready.ensures.keeps told) (c.put.ensures.trail (c.ready.ensures.works.told ∙ told)))

pub returns-in-Err-put-clause-crash : goal.returns-in-Err-put-clause-crash
returns-in-Err-put-clause-crash g c =
    let v = c.self.view_is in
    let j0 : Journal = record { log = c.self.inside.log; kept = c.self.inside.kept; failed = c.self.inside.failed } in
    λ told.
    subst (λ (j : Journal). Gained (LeavesKept c.args.line.now ((g.S.Store.state c.args.store.now).logs j.log).state) ((g.S.Store.state c.args.store.now).logs j.log) ((g.S.Store.state c.put.new.store).logs j.log)) v (keep_crash c.args.line.now ((g.S.Store.state c.args.store.now).logs c.self.inside.log) ((g.S.Store.state c.put.new.store).logs c.self.inside.log) j0 (subst (λ (j : Journal). Fits ((g.S.Store.state c.args.store.now).logs j.log).state j) (sym v) (c.requires.fits told)) c.requires.line (keep_states c.args.line.now ((g.S.Store.state c.args.store.now).logs c.self.inside.log) ((g.S.Store.state c.ready.new.store).logs c.self.inside.log) ((g.S.Store.state c.put.new.store).logs c.self.inside.log) (c.ready.ensures.trail told) (c.ready.ensures.keeps told) (c.put.ensures.trail (c.ready.ensures.works.told ∙ told))))
