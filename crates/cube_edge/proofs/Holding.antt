-- Which logs have an open file.
use Rattle.std.proofs.Common.{◌≡◌, ◌∷◌, [], ℕ, suc, ◌+◌, ◌==◌, ◌||◌, not, nat_lt, cond, Bool, true, false, List, length, map, position, refl, sym, ◌∙◌, ap, arith}
use Rattle.std.specs.Prelude.{Some, None, is_some}
use Rattle.std.specs.List.{list_any, position_or_len}
use Rattle.std.proofs.lemmas.Bool.Decides.{nat_tests}
use Rattle.cube_edge.specs.Disks.{is_held}
use Rattle.cube_edge.specs.declared.store.Held.{Held}

-- where a log is held, its place is found
any_below : (test : Held → Bool) (xs : List Held) → list_any test xs ≡ nat_lt (position_or_len test xs) (length xs)
any_below test [] = refl
any_below test (x ∷ xs) = by_test (test x) (any_below test xs)
  where
    by_test : (b : Bool) → list_any test xs ≡ nat_lt (position_or_len test xs) (length xs) → (b || list_any test xs) ≡ nat_lt (cond (not b) (1 + position_or_len test xs) 0) (suc (length xs))
    by_test true e = grind (arith, nat_tests)
    by_test false e = grind (arith, nat_tests, e)

some_below : (test : Held → Bool) (xs : List Held) → is_some (position test xs) ≡ list_any test xs
some_below test xs = by_test (nat_lt (position_or_len test xs) (length xs)) ∙ sym (any_below test xs)
  where
    by_test : (b : Bool) → is_some (cond b (Some (position_or_len test xs)) None) ≡ b
    by_test true = refl
    by_test false = refl

any_log : (log : ℕ) (xs : List Held) → list_any (λ it. it.log == log) xs ≡ is_held log (map (λ it. it.log) xs)
any_log log [] = refl
any_log log (x ∷ xs) = ap (λ (b : Bool). (x.log == log) || b) (any_log log xs)

pub held_found : (held : List Held) (log : ℕ) → is_some (position (λ it. it.log == log) held) ≡ is_held log (map (λ it. it.log) held)
held_found held log = some_below (λ it. it.log == log) held ∙ any_log log held
