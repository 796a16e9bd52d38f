use Rattle.std.proofs.Common.{sym}
use Rattle.cube_dims.specs.DimsFile.{named_faults}
use Rattle.cube_tables.proofs.Turns.{first, next, both_nothing, nothing, refused, handed_on, accepted}
use Rattle.cube_dims.proofs.dimension.check_parts.Goals as goal

pub returns-in_err-check_names : goal.returns-in_err-check_names
unfolding named_faults
returns-in_err-check_names c =
    handed_on _ _ c.in_err-check_names.field-0.0 _ _ c.from_residual.ensures.1
    (first _ _ _ _ (first _ _ _ _ (first _ _ _ _ (refused _ _ _ _ c.in_err-check_names.ensures))))

pub returns-in_err-check_names_free : goal.returns-in_err-check_names_free
unfolding named_faults
returns-in_err-check_names_free c =
    let names = nothing _ _ _ c.in_ok-check_names.ensures in
    handed_on _ _ c.in_err-check_names_free.field-0.0 _ _ c.from_residual-in_err-check_names_free.ensures.1
    (first _ _ _ _ (first _ _ _ _ (next _ _ _ _ names (refused _ _ _ _ c.in_err-check_names_free.ensures))))

pub returns-in_err-check_size : goal.returns-in_err-check_size
unfolding named_faults
returns-in_err-check_size c =
    let names = nothing _ _ _ c.in_ok-check_names.ensures in
    let free = nothing _ _ _ c.in_ok-check_names_free.ensures in
    handed_on _ _ c.in_err-check_size.field-0.0 _ _ c.from_residual-in_err-check_size.ensures.1
    (first _ _ _ _ (next _ _ _ _ (both_nothing _ _ names free) (refused _ _ _ _ c.in_err-check_size.ensures)))

pub returns-in_err-check_paths : goal.returns-in_err-check_paths
unfolding named_faults
returns-in_err-check_paths c =
    let names = nothing _ _ _ c.in_ok-check_names.ensures in
    let free = nothing _ _ _ c.in_ok-check_names_free.ensures in
    let size = nothing _ _ _ c.in_ok-check_size.ensures in
    handed_on _ _ c.in_err-check_paths.field-0.0 _ _ c.from_residual-in_err-check_paths.ensures.1
    (next _ _ _ _ (both_nothing _ _ (both_nothing _ _ names free) size) (refused _ _ _ _ c.in_err-check_paths.ensures))

pub returns : goal.returns
unfolding named_faults
returns c =
    let names = nothing _ _ _ c.in_ok-check_names.ensures in
    let free = nothing _ _ _ c.in_ok-check_names_free.ensures in
    let size = nothing _ _ _ c.in_ok-check_size.ensures in
    let paths = nothing _ _ _ c.in_ok-check_paths.ensures in
    accepted _ _ _ (both_nothing _ _ (both_nothing _ _ (both_nothing _ _ names free) size) paths) (sym c.in_ok-members.ensures)
