use Rattle.std.proofs.Common.{◌∙◌, ◌++◌, ℕ, not, ◌&&◌, List, [], ◌∷◌, map, take, filter, ap, sym, subst}
use Rattle.std.specs.Option.{option_copied}
use Rattle.std.proofs.lemmas.List.{take_all, take_more}
use Rattle.cube_model.specs.Cores.{shown}
use Rattle.cube_model.specs.Cubes.{IsIn, cuboids_below}
use Rattle.cube_model.specs.Dims.{Dims, plains}
use Rattle.cube_model.specs.Safe.{has_finer}
use Rattle.cube_advise.specs.Open.{is_open_by}
use Rattle.cube_advise.proofs.Narrowing.{get_or_in, cuboid_levels}
use Rattle.cube_advise.proofs.Skipping.{Known, is_least, known_next, known_finest}
use Rattle.cube_advise.proofs.finest.open_cuboids.Goals as goal

pub is_news-requires-clause-levels : goal.is_news-requires-clause-levels
is_news-requires-clause-levels c =
    let items = c.as_slice-levels-items.result.now in
    cuboid_levels (plains c.args.sourced.now.core.now.dims) c.levels-item.result
    (subst (IsIn c.levels-item.result) (c.as_slice-levels-items.ensures ∙ c.in_ok-all.ensures ∙ ap (λ (s : Dims). cuboids_below (map (λ d. d.levels) (plains s))) c.dims.ensures.dims)
    (subst (λ (x : List ℕ). IsIn x items) (sym c.levels-item.is) (get_or_in items c.cuboids.levels-index c.levels-item.result c.cuboids-test.true)))

pub cuboids-preserved : goal.cuboids-preserved
cuboids-preserved c =
    let p = is_open_by (shown c.args.sourced.now.core.now c.args.sourced.now.policy.now) (option_copied c.args.sourced.now.source) c.args.sourced.now.measure in
    let items = c.as_slice-levels-items.result.now in
    let i = c.cuboids.levels-index in
    let x = c.levels-item.result in
    let more = take_more items i x c.cuboids-test.true ∙ ap (λ (y : List ℕ). take i items ++ y ∷ []) (sym c.levels-item.is) in
    let wanted = c.in_ok-is_wanted.ensures.news ∙ ap (λ (known : List (List ℕ)). not (has_finer known x) && p x) c.as_slice-known.ensures in
    record {
      stands = c.in_ok-is_wanted.ensures.stands;
      known = known_next p items c.cuboids.found c.push_if.new.found i x c.in_ok-is_wanted.is_wanted more wanted c.in_ok-push_if.ensures c.cuboids.invariant.known;
    }

pub returns : goal.returns
returns c =
    let p = is_open_by (shown c.args.sourced.now.core.now c.args.sourced.now.policy.now) (option_copied c.args.sourced.now.source) c.args.sourced.now.measure in
    let items = c.as_slice-levels-items.result.now in
    let all = c.as_slice-levels-items.ensures ∙ c.in_ok-all.ensures ∙ ap (λ (s : Dims). cuboids_below (map (λ d. d.levels) (plains s))) c.dims.ensures.dims in
    let known = subst (λ (xs : List (List ℕ)). Known (is_least p items) (filter p xs) c.cuboids.found) (take_all c.cuboids.levels-index items c.cuboids-test.false) c.cuboids.invariant.known in
    known_finest p items c.cuboids.found known ∙ ap (λ (xs : List (List ℕ)). filter (is_least p xs) (filter p xs)) all
