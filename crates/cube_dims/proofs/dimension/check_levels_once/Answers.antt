use Rattle.std.proofs.Common.{◌≡◌, ◌≤◌, ◌<◌, ℕ, List, [], Bool, length, get_or, take, codes, sym, ◌∙◌, ap, arith}
use Rattle.std.proofs.lemmas.List.{get_or_read}
use Rattle.cube_dims.specs.DimsFile.{level_twice, stands_in}
use Rattle.cube_dims.specs.declared.fault.DimsFault.TheVariants.{NoMemory, NameTwice}
use Rattle.cube_tables.proofs.Turns.{turn_fault, turn_next, check_fault, check_none, item_number}
use Rattle.cube_dims.proofs.dimension.check_levels_once.Goals as goal

tested : (levels : List (List ℕ)) (i : ℕ) (level read : List ℕ) (b : Bool) → i < length levels → level ≡ get_or levels i level → read ≡ level → b ≡ stands_in read (take i levels) → stands_in (get_or levels i []) (take i levels) ≡ b
tested levels i level read b l at is said = sym (said ∙ ap (λ x. stands_in x (take i levels)) (is ∙ get_or_read levels i level l at []))

pub returns-then-stands_in : goal.returns-then-stands_in
returns-then-stands_in c =
    let entry = c.args.entry.now in
    let levels = c.args.levels.now in
    let i = c.loop-index.index in
    let below : i ≤ length levels = omega arith in
    turn_fault (level_twice entry) _ _ levels i [] c.loop-index-test.true c.loop-index.invariant
    (check_fault NoMemory _ _ (stands_in (get_or levels i []) (take i levels))
    (tested levels i c.index-levels-index.result c.as_slice.result.now c.stands_in.result c.loop-index-test.true c.index-levels-index.is c.as_slice.ensures c.stands_in.ensures ∙ c.if-stands_in.true)
    (ap NameTwice (item_number entry (codes "levels") levels i below ∙ sym c.in_ok-item_text.ensures)))

pub loop-index-preserved : goal.loop-index-preserved
loop-index-preserved c =
    let levels = c.args.levels.now in
    let i = c.loop-index.index in
    turn_next (level_twice c.args.entry.now) levels i [] c.loop-index-test.true c.loop-index.invariant
    (check_none _ (stands_in (get_or levels i []) (take i levels))
    (tested levels i c.index-levels-index.result c.as_slice.result.now c.stands_in.result c.loop-index-test.true c.index-levels-index.is c.as_slice.ensures c.stands_in.ensures ∙ c.if-stands_in.false))
