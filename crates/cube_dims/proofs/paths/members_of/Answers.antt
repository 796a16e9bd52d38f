use Rattle.std.proofs.Common.{◌≡◌, ℕ, ◌+◌, List, ◌++◌, ◌∷◌, [], map, get_or, ap, sym, ◌∙◌, arith}
use Rattle.std.proofs.lemmas.List.{map-append}
use Rattle.cube_model.specs.Cubes.{names_at, count_from}
use Rattle.cube_model.specs.Dims.{NamedDimension, plain}
use Rattle.cube_model.proofs.DimsFacts.{count_from-more}
use Rattle.cube_dims.proofs.paths.members_of.Goals as goal

nothing_more : (l : ℕ) → 0 + l ≡ l
nothing_more l = omega arith

one_more : (d : NamedDimension) (l : ℕ) (paths : List (List (List ℕ))) (kept more : List (List (List ℕ))) (level : List (List ℕ)) → kept ≡ map (names_at (plain d)) (count_from 0 l) → more ≡ kept ++ level ∷ [] → level ≡ map (λ path. get_or path l []) paths → paths ≡ d.paths → more ≡ map (names_at (plain d)) (count_from 0 (l + 1))
one_more d l paths kept more level k m v p =
    m
    ∙ ap (λ ls. ls ++ level ∷ []) k
    ∙ ap (λ v. map (names_at (plain d)) (count_from 0 l) ++ v ∷ []) (v ∙ ap (map (λ path. get_or path l [])) p ∙ ap (names_at (plain d)) (sym (nothing_more l)))
    ∙ sym (ap (map (names_at (plain d))) (count_from-more 0 l) ∙ map-append (names_at (plain d)) (count_from 0 l) ((0 + l) ∷ []))

pub loop-level-preserved : goal.loop-level-preserved
loop-level-preserved c = one_more c.args.parts.now c.loop-level.level c.paths.result.now c.loop-level.members c.push.new.self c.in_ok-at_level.field-0 c.loop-level.invariant c.in_ok-push.ensures.ok c.in_ok-at_level.ensures c.paths.ensures
