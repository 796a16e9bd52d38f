-- Links that leave some place free are fewer than the places: the single of that place would be one more that does not follow.
use Rattle.std.specs.Prelude.{◌+◌, ◌-◌}
use Rattle.std.proofs.Common.{◌≡◌, ℕ, ◌≤◌, Bool, true, false, cond, inl, List, [], ◌∷◌, ◌++◌, length, refl, sym, ap, ◌∙◌, arith, length-append}
use Rattle.std.proofs.lemmas.List.Sums.{fold-append}
use Rattle.cube_model.specs.declared.link.Link.{Link}
use Rattle.cube_model.specs.declared.link.Link.TheVariants.{Single}
use Rattle.cube_model.specs.Cubes.{IsIn}
use Rattle.cube_model.specs.Links.{is_free, follows, basis}
use Rattle.cube_model.specs.Protection.{guarded}
use Rattle.cube_model.specs.Verdicts.{links_of}
use Rattle.cube_model.proofs.Bases.{basis_is_short}
use Rattle.cube_model.proofs.Compacts.{kept_more}
use Rattle.cube_model.proofs.FixedPlaces.{one_not_zero}
use Rattle.cube_model.proofs.LinkFacts.{free_is, follows_is, basis_suits}
use Rattle.cube_model.proofs.Members.{tested}
use Rattle.cube_model.proofs.Parities.{history_free}
use Rattle.cube_advise.specs.Holdings.{most_apart, HeldLinksAreFew}

-- the single of a free place does not follow
single_is_news : (n : ℕ) (ls : List Link) (i : ℕ) → is_free n ls i ≡ true → follows n (basis n ls) (Single i) ≡ false
single_is_news n ls i free = tested (follows n (basis n ls) (Single i))
    (λ e. let a = (free_is n ls i).0 free in absurd (one_not_zero (sym a.2 ∙ (follows_is n (basis n ls) (Single i)).0 e a.0 ((basis_suits n ls a.0).1 a.1))))
    (λ e. e)

-- so it would be one more
single_is_kept : (n : ℕ) (ls : List Link) (i : ℕ) → is_free n ls i ≡ true → basis n (ls ++ Single i ∷ []) ≡ basis n ls ++ Single i ∷ []
unfolding kept_more
single_is_kept n ls i free =
    fold-append (kept_more n) [] ls (Single i ∷ [])
    ∙ ap (λ (b : Bool). cond b (basis n ls) (basis n ls ++ Single i ∷ [])) (single_is_news n ls i free)

fewer : (n : ℕ) (ls : List Link) (i : ℕ) → is_free n ls i ≡ true → length (basis n ls) ≤ n - 1
fewer n ls i free =
    let a : length (basis n (ls ++ Single i ∷ [])) ≤ n = basis_is_short n (ls ++ Single i ∷ []) in
    let b : length (basis n (ls ++ Single i ∷ [])) ≡ length (basis n ls) + 1 = ap length (single_is_kept n ls i free) ∙ length-append (basis n ls) (Single i ∷ []) in
    omega arith

few_apart : (n : ℕ) (ls : List Link) (guards : List ℕ) → ((i : ℕ) → IsIn i guards → is_free n ls i ≡ true) → length (basis n ls) ≤ most_apart n guards
few_apart n ls [] free = basis_is_short n ls
few_apart n ls (i ∷ is) free = fewer n ls i (free i (inl refl))

pub held_links_are_few : HeldLinksAreFew
held_links_are_few g h m way adm = few_apart (length g.shape.points) (links_of g h m) (guarded g m) (history_free g h m way adm)
