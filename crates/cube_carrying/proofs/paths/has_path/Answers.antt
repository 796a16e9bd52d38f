use Rattle.std.proofs.Common.{◌≡◌, ◌<◌, List, ℕ, [], length, get_or, ap, ◌∙◌, arith}
use Rattle.std.proofs.lemmas.List.{get_or_read}
use Rattle.cube_model.specs.Cubes.{distinct}
use Rattle.cube_model.specs.Dims.{found}
use Rattle.cube_carrying.proofs.Found.{path_found, path_missing, leaf_below}
use Rattle.cube_carrying.proofs.paths.has_path.Goals as goal

pub bounds-paths-leaf : goal.bounds-paths-leaf
bounds-paths-leaf c =
    let said = c.in-Some.ensures ∙ ap (λ (x : List ℕ). found x (distinct c.members.result.now)) c.leaf_of.ensures ∙ ap (λ (xs : List (List ℕ)). found (get_or c.args.path.now 0 []) (distinct xs)) c.members.ensures.members in
    let below = leaf_below c.args.dimension.now (get_or c.args.path.now 0 []) c.in-Some.leaf c.paths-paths.ensures.rules said in
    let size = ap length c.paths-paths.ensures.paths in
    omega (arith, below, size)

pub returns-in-Some : goal.returns-in-Some
returns-in-Some c =
    let said = c.in-Some.ensures ∙ ap (λ (x : List ℕ). found x (distinct c.members.result.now)) c.leaf_of.ensures ∙ ap (λ (xs : List (List ℕ)). found (get_or c.args.path.now 0 []) (distinct xs)) c.members.ensures.members in
    let below = leaf_below c.args.dimension.now (get_or c.args.path.now 0 []) c.in-Some.leaf c.paths-paths.ensures.rules said in
    let size = ap length c.paths-paths.ensures.paths in
    let long : c.in-Some.leaf < length c.paths-paths.result.now = omega (arith, below, size) in
    let here : c.index-paths-leaf.result ≡ get_or c.paths-paths.result.now c.in-Some.leaf [] = get_or_read c.paths-paths.result.now c.in-Some.leaf c.index-paths-leaf.result long c.index-paths-leaf.is [] in
    let found_there = path_found c.args.dimension.now c.args.path.now c.in-Some.leaf c.paths-paths.ensures.rules said in
    simp (c.same_texts.ensures, c.as_slice.ensures, c.as_slice-in-Some.ensures, here, c.paths-paths.ensures.paths) found_there

pub returns-in-None : goal.returns-in-None
returns-in-None c = path_missing c.args.dimension.now c.args.path.now c.paths-paths.ensures.rules
    (c.in-None.ensures ∙ ap (λ (x : List ℕ). found x (distinct c.members.result.now)) c.leaf_of.ensures ∙ ap (λ (xs : List (List ℕ)). found (get_or c.args.path.now 0 []) (distinct xs)) c.members.ensures.members)
