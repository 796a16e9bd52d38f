use Rattle.std.proofs.Common.{◌≡◌, ◌≤◌, ◌<◌, ℕ, List, [], Bool, not, length, get_or, codes, sym, ◌∙◌, ap, arith}
use Rattle.std.proofs.lemmas.List.{get_or_read}
use Rattle.cube_model.specs.Names.{is_level_name}
use Rattle.cube_dims.specs.DimsFile.{bad_level}
use Rattle.cube_dims.specs.declared.fault.DimsFault.TheVariants.{NoMemory, BadName}
use Rattle.cube_tables.proofs.Turns.{turn_fault, turn_next, check_fault, check_none, item_number}
use Rattle.cube_dims.proofs.dimension.check_level_names.Goals as goal

tested : (levels : List (List ℕ)) (i : ℕ) (level read : List ℕ) (b : Bool) → i < length levels → level ≡ get_or levels i level → read ≡ level → b ≡ is_level_name read → not (is_level_name (get_or levels i [])) ≡ not b
tested levels i level read b l at is said = ap not (sym (said ∙ ap is_level_name (is ∙ get_or_read levels i level l at [])))

pub returns-then-not-is_level_name : goal.returns-then-not-is_level_name
returns-then-not-is_level_name c =
    let entry = c.args.entry.now in
    let levels = c.args.levels.now in
    let i = c.loop-index.index in
    let below : i ≤ length levels = omega arith in
    turn_fault (bad_level entry) _ _ levels i [] c.loop-index-test.true c.loop-index.invariant
    (check_fault NoMemory _ _ (not (is_level_name (get_or levels i [])))
    (tested levels i c.index-levels-index.result c.as_slice.result.now c.is_level_name.result c.loop-index-test.true c.index-levels-index.is c.as_slice.ensures c.is_level_name.ensures ∙ ap not c.if-not-is_level_name.true)
    (ap BadName (item_number entry (codes "levels") levels i below ∙ sym c.in_ok-item_text.ensures)))

pub loop-index-preserved : goal.loop-index-preserved
loop-index-preserved c =
    let levels = c.args.levels.now in
    let i = c.loop-index.index in
    turn_next (bad_level c.args.entry.now) levels i [] c.loop-index-test.true c.loop-index.invariant
    (check_none _ (not (is_level_name (get_or levels i [])))
    (tested levels i c.index-levels-index.result c.as_slice.result.now c.is_level_name.result c.loop-index-test.true c.index-levels-index.is c.as_slice.ensures c.is_level_name.ensures ∙ ap not c.if-not-is_level_name.false))
