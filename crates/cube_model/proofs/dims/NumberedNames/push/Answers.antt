use Rattle.std.proofs.Common.{◌≡◌, ℕ, List, ◌++◌, ◌∷◌, [], map, length, cond, sym, ap, subst, ◌∙◌, arith}
use Rattle.std.specs.List.{list_any}
use Rattle.std.specs.Str.{bytes_eq}
use Rattle.cube_model.specs.Dims.{AreDistinct}
use Rattle.cube_model.proofs.DimsFacts.{number_fits, pushed, closed, names_of_numbers, distinct_firsts}
use Rattle.cube_model.proofs.dims.NumberedNames.push.Goals as goal

pub number-requires-clause-once : goal.number-requires-clause-once
number-requires-clause-once c = subst AreDistinct (sym c.self.invariant.once) (distinct_firsts _)

pub overflow_cast-number : goal.overflow_cast-number
overflow_cast-number c =
    let s = rw c.self.view_is at c.self.invariant in
    let f = number_fits _ _ _ _ c.args.name.now s in
    omega (arith, f, c.in_ok-number.ensures.number)

pub invariant_of-self-2 : goal.invariant_of-self-2
invariant_of-self-2 c =
    let s = rw c.self.view_is at c.self.invariant in
    let kept = map (λ k. k.items) c.self.inside.names.keys in
    let place : c.len-place.result ≡ length c.self.inside.numbers.items = c.len-place.ensures ∙ c.in_ok-reserve.ensures.len ∙ c.self.inside.numbers.ok.0 in
    closed _ _ _ _ (pushed c.args.self.now (map (λ k. k.items) c.self.inside.names.keys) (map (λ k. k.items) c.number.new.names.keys) c.self.inside.numbers.items c.push_within.new.list.items c.self.inside.firsts.items c.number.new.firsts.items c.args.name.now c.len-place.result c.in_ok-number.number s place
    c.in_ok-number.ensures.names c.in_ok-number.ensures.number
    (c.push_within.ensures ∙ ap (λ (ns : List ℕ). ns ++ c.in_ok-number.number ∷ []) c.in_ok-reserve.ensures.items)
    (c.in_ok-number.ensures.firsts ∙ ap (λ (fs : List ℕ). cond (list_any (bytes_eq c.args.name.now) (map (λ k. k.items) c.self.inside.names.keys)) fs (fs ++ c.len-place.result ∷ [])) c.in_ok-reserve-2.ensures.items))

pub returns-clause-ok : goal.returns-clause-ok
returns-clause-ok c =
    let s = rw c.self.view_is at c.self.invariant in
    let place : c.len-place.result ≡ length c.self.inside.numbers.items = c.len-place.ensures ∙ c.in_ok-reserve.ensures.len ∙ c.self.inside.numbers.ok.0 in
    names_of_numbers _ _ _ _ (pushed c.args.self.now (map (λ k. k.items) c.self.inside.names.keys) (map (λ k. k.items) c.number.new.names.keys) c.self.inside.numbers.items c.push_within.new.list.items c.self.inside.firsts.items c.number.new.firsts.items c.args.name.now c.len-place.result c.in_ok-number.number s place
    c.in_ok-number.ensures.names c.in_ok-number.ensures.number
    (c.push_within.ensures ∙ ap (λ (ns : List ℕ). ns ++ c.in_ok-number.number ∷ []) c.in_ok-reserve.ensures.items)
    (c.in_ok-number.ensures.firsts ∙ ap (λ (fs : List ℕ). cond (list_any (bytes_eq c.args.name.now) (map (λ k. k.items) c.self.inside.names.keys)) fs (fs ++ c.len-place.result ∷ [])) c.in_ok-reserve-2.ensures.items))
