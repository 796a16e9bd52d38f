use Rattle.std.proofs.Common.{◌≡◌, ◌∙◌, ◌<◌, ◌≤◌, ◌+◌, ℕ, List, [], length, get_or, filter, take, drop, ap, subst, arith}
use Rattle.std.proofs.lemmas.List.{get_or_read}
use Rattle.cube_core.specs.Index.{is_between}
use Rattle.cube_core.specs.declared.index.Descendant.{Descendant}
use Rattle.cube_core.proofs.Fitting.{pick_fits}
use Rattle.cube_core.proofs.Stretches.{first_taken}
use Rattle.cube_core.proofs.core_cube.Core.leaf_stretch.Goals as goal

pub stretch_between-requires-clause-some : goal.stretch_between-requires-clause-some
stretch_between-requires-clause-some c =
    let some = c.index.ensures.rules.dims.has_dimensions in
    (pick_fits c.args.self.now.dims.dimensions c.args.request.now.group c.args.request.now.picks 0 c.requires.fits (omega (arith, some)) c.args.pick c.requires.pick).1

-- what was read of the index is the order of the pick's level
order_read : (index : List (List (List Descendant))) (first orders : List (List Descendant)) (entries order : List Descendant) (level : ℕ) → 0 < length index → level < length (get_or index 0 []) → first ≡ get_or index 0 first → orders ≡ first → entries ≡ get_or orders level entries → order ≡ entries
    → order ≡ get_or (get_or index 0 []) level []
order_read index first orders entries order level some below a b c d =
    let here : orders ≡ get_or index 0 [] = b ∙ get_or_read index 0 first some a [] in
    let size = ap length here in
    d ∙ get_or_read orders level entries (omega (arith, size, below)) c [] ∙ ap (λ (os : List (List Descendant)). get_or os level []) here

pub returns-clause-within : goal.returns-clause-within
returns-clause-within c =
    let ok = c.index.ensures.rules in
    let are = c.index.ensures.index in
    let some = ok.dims.has_dimensions in
    let long = are.long in
    let number : 0 < length c.index.result.now = omega (arith, some, long) in
    let fit = (pick_fits c.args.self.now.dims.dimensions c.args.request.now.group c.args.request.now.picks 0 c.requires.fits (omega (arith, some)) c.args.pick c.requires.pick).0 in
    let levels = (are.each 0 number).long in
    let level : c.args.pick.level < length (get_or c.index.result.now 0 []) = omega (arith, fit, levels) in
    let here = order_read c.index.result.now c.index-index-0.result c.as_slice-orders.result.now c.index-orders-pick.result c.as_slice-order.result.now c.args.pick.level number level c.index-index-0.is c.as_slice-orders.ensures c.index-orders-pick.is c.as_slice-order.ensures in
    (first_taken c.args.self.now c.args.request.now c.index.result.now c.args.pick c.stretch_between.result.start c.stretch_between.result.many ok are c.requires.pick c.requires.leaves level
    (subst (λ (es : List Descendant). c.stretch_between.result.start + c.stretch_between.result.many ≤ length es) here c.stretch_between.ensures.within)
    (subst (λ (es : List Descendant). take c.stretch_between.result.many (drop c.stretch_between.result.start es) ≡ filter (is_between c.args.pick.first c.args.pick.last) es) here c.stretch_between.ensures.between)).1

pub returns-clause-taken : goal.returns-clause-taken
returns-clause-taken c =
    let ok = c.index.ensures.rules in
    let are = c.index.ensures.index in
    let some = ok.dims.has_dimensions in
    let long = are.long in
    let number : 0 < length c.index.result.now = omega (arith, some, long) in
    let fit = (pick_fits c.args.self.now.dims.dimensions c.args.request.now.group c.args.request.now.picks 0 c.requires.fits (omega (arith, some)) c.args.pick c.requires.pick).0 in
    let levels = (are.each 0 number).long in
    let level : c.args.pick.level < length (get_or c.index.result.now 0 []) = omega (arith, fit, levels) in
    let here = order_read c.index.result.now c.index-index-0.result c.as_slice-orders.result.now c.index-orders-pick.result c.as_slice-order.result.now c.args.pick.level number level c.index-index-0.is c.as_slice-orders.ensures c.index-orders-pick.is c.as_slice-order.ensures in
    (first_taken c.args.self.now c.args.request.now c.index.result.now c.args.pick c.stretch_between.result.start c.stretch_between.result.many ok are c.requires.pick c.requires.leaves level
    (subst (λ (es : List Descendant). c.stretch_between.result.start + c.stretch_between.result.many ≤ length es) here c.stretch_between.ensures.within)
    (subst (λ (es : List Descendant). take c.stretch_between.result.many (drop c.stretch_between.result.start es) ≡ filter (is_between c.args.pick.first c.args.pick.last) es) here c.stretch_between.ensures.between)).0
