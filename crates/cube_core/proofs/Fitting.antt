-- Requests that fit dimensions, dimension by dimension.
use Rattle.std.specs.Option.{ForSome}
use Rattle.std.proofs.Common.{◌≡◌, ℕ, zero, suc, ◌+◌, ◌<◌, ◌≤◌, true, ◌&&◌, List, [], ◌∷◌, length, map, drop, get_or, Option, Some, None, refl, ap, subst, arith, leb, ltb}
use Rattle.std.proofs.lemmas.Bool.{false≢true, and_parts, leb-true, ltb-true}
use Rattle.std.proofs.lemmas.List.{drop_more, drop_all}
use Rattle.cube_model.specs.declared.request.Pick.{Pick}
use Rattle.cube_model.specs.Cubes.{up, ancestors}
use Rattle.cube_model.specs.Dims.{NamedDimension, plain, no_dimension}
use Rattle.cube_model.specs.Requests.{in_pick, in_picks, is_level, fits, members}

-- there is a level and perhaps a pick for each dimension
pub lengths_fit : (ds : List NamedDimension) (ls : List ℕ) (ps : List (Option Pick)) → fits (map plain ds) ls ps ≡ true → (length ls ≡ length ds) × (length ps ≡ length ds)
lengths_fit [] [] [] h = (refl, refl)
lengths_fit [] [] (p ∷ ps) h = absurd (false≢true h)
lengths_fit [] (l ∷ ls) ps h = absurd (false≢true h)
lengths_fit (d ∷ ds) [] ps h = absurd (false≢true h)
lengths_fit (d ∷ ds) (l ∷ ls) [] h = absurd (false≢true h)
lengths_fit (d ∷ ds) (l ∷ ls) (p ∷ ps) h =
    let r = lengths_fit ds ls ps (and_parts (is_level (plain d) p l) (fits (map plain ds) ls ps) h).1 in
    (ap suc r.0, ap suc r.1)

level_fits : (d : NamedDimension) (p : Option Pick) (l : ℕ) → is_level (plain d) p l ≡ true → (l ≤ length d.levels) × ForSome p (λ p. p.level ≤ length d.levels)
level_fits d None l h = (leb-true l (length d.levels) h, (λ x e. absurd (cc)))
level_fits d (Some p) l h =
    let a = and_parts ((leb l (length d.levels) && ltb p.level (length d.levels)) && leb p.first p.last) (ltb p.last (members (plain d) p.level)) h in
    let b = and_parts (leb l (length d.levels) && ltb p.level (length d.levels)) (leb p.first p.last) a.0 in
    let c = and_parts (leb l (length d.levels)) (ltb p.level (length d.levels)) b.0 in
    (leb-true l (length d.levels) c.0, (λ x e. let same : p ≡ x = cc in let at = ap (λ (q : Pick). q.level) same in let below = ltb-true p.level (length d.levels) c.1 in omega (arith, at, below)))

-- the level and the pick of a dimension are levels of it
pub levels_fit : (ds : List NamedDimension) (ls : List ℕ) (ps : List (Option Pick)) (k : ℕ) → fits (map plain ds) ls ps ≡ true → k < length ds
    → (get_or ls k 0 ≤ length (get_or ds k no_dimension).levels) × ForSome (get_or ps k None) (λ p. p.level ≤ length (get_or ds k no_dimension).levels)
levels_fit [] ls ps k h l = absurd (omega (arith, l))
levels_fit (d ∷ ds) [] ps k h l = absurd (false≢true h)
levels_fit (d ∷ ds) (x ∷ ls) [] k h l = absurd (false≢true h)
levels_fit (d ∷ ds) (x ∷ ls) (p ∷ ps) zero h l = level_fits d p x (and_parts (is_level (plain d) p x) (fits (map plain ds) ls ps) h).0
levels_fit (d ∷ ds) (x ∷ ls) (p ∷ ps) (suc k) h l = levels_fit ds ls ps k (and_parts (is_level (plain d) p x) (fits (map plain ds) ls ps) h).1 (omega (arith, l))

-- a pick is of members of a named level, from the first to the last
pub pick_fits : (ds : List NamedDimension) (ls : List ℕ) (ps : List (Option Pick)) (k : ℕ) → fits (map plain ds) ls ps ≡ true → k < length ds
    → ForSome (get_or ps k None) (λ p. (p.level < length (get_or ds k no_dimension).levels) × (p.first ≤ p.last))
pick_fits [] ls ps k h l = absurd (omega (arith, l))
pick_fits (d ∷ ds) [] ps k h l = absurd (false≢true h)
pick_fits (d ∷ ds) (x ∷ ls) [] k h l = absurd (false≢true h)
pick_fits (d ∷ ds) (x ∷ ls) (None ∷ ps) zero h l = λ q e. absurd (cc)
pick_fits (d ∷ ds) (x ∷ ls) (Some p ∷ ps) zero h l =
    let own = (and_parts (is_level (plain d) (Some p) x) (fits (map plain ds) ls ps) h).0 in
    let a = and_parts ((leb x (length d.levels) && ltb p.level (length d.levels)) && leb p.first p.last) (ltb p.last (members (plain d) p.level)) own in
    let b = and_parts (leb x (length d.levels) && ltb p.level (length d.levels)) (leb p.first p.last) a.0 in
    let c = and_parts (leb x (length d.levels)) (ltb p.level (length d.levels)) b.0 in
    λ q e. (
    let same : p ≡ q = cc in
    subst (λ (y : Pick). (y.level < length d.levels) × (y.first ≤ y.last)) same (ltb-true p.level (length d.levels) c.1, leb-true p.first p.last b.1))
pick_fits (d ∷ ds) (x ∷ ls) (p ∷ ps) (suc k) h l = pick_fits ds ls ps k (and_parts (is_level (plain d) p x) (fits (map plain ds) ls ps) h).1 (omega (arith, l))

-- one dimension more
pub picks_more : (ds : List NamedDimension) (ps : List (Option Pick)) (xs : List ℕ) (i : ℕ) → i < length ds → i < length ps → i < length xs
    → in_picks (map plain (drop i ds)) (drop i ps) (drop i xs) ≡ (in_pick (plain (get_or ds i no_dimension)) (get_or ps i None) (get_or xs i 0) && in_picks (map plain (drop (i + 1) ds)) (drop (i + 1) ps) (drop (i + 1) xs))
picks_more ds ps xs i a b c = rw (drop_more ds i no_dimension a, drop_more ps i None b, drop_more xs i 0 c) refl

pub picks_all : (ds : List NamedDimension) (ps : List (Option Pick)) (xs : List ℕ) (i : ℕ) → length ds ≤ i → in_picks (map plain (drop i ds)) (drop i ps) (drop i xs) ≡ true
picks_all ds ps xs i a = rw (drop_all i ds a) refl

pub ancestors_more : (ds : List NamedDimension) (ls xs : List ℕ) (i : ℕ) → i < length ds → i < length ls → i < length xs
    → ancestors (map plain (drop i ds)) (drop i ls) (drop i xs) ≡ up (plain (get_or ds i no_dimension)) (get_or ls i 0) (get_or xs i 0) ∷ ancestors (map plain (drop (i + 1) ds)) (drop (i + 1) ls) (drop (i + 1) xs)
ancestors_more ds ls xs i a b c = rw (drop_more ds i no_dimension a, drop_more ls i 0 b, drop_more xs i 0 c) refl

pub ancestors_all : (ds : List NamedDimension) (ls xs : List ℕ) (i : ℕ) → length ds ≤ i → ancestors (map plain (drop i ds)) (drop i ls) (drop i xs) ≡ []
ancestors_all ds ls xs i a = rw (drop_all i ds a) refl

-- a key has a member for each dimension
pub ancestors_long : (ds : List NamedDimension) (ls xs : List ℕ) → length ls ≡ length ds → length xs ≡ length ds → length (ancestors (map plain ds) ls xs) ≡ length ds
ancestors_long [] ls xs e f = refl
ancestors_long (d ∷ ds) [] xs e f = absurd (omega (arith, e))
ancestors_long (d ∷ ds) (l ∷ ls) [] e f = absurd (omega (arith, f))
ancestors_long (d ∷ ds) (l ∷ ls) (x ∷ xs) e f = ap suc (ancestors_long ds ls xs (omega (arith, e)) (omega (arith, f)))

pub ancestors_at : (ds : List NamedDimension) (ls xs : List ℕ) (k : ℕ) → length ls ≡ length ds → length xs ≡ length ds → k < length ds → get_or (ancestors (map plain ds) ls xs) k 0 ≡ up (plain (get_or ds k no_dimension)) (get_or ls k 0) (get_or xs k 0)
ancestors_at [] ls xs k e f h = absurd (omega (arith, h))
ancestors_at (d ∷ ds) [] xs k e f h = absurd (omega (arith, e))
ancestors_at (d ∷ ds) (l ∷ ls) [] k e f h = absurd (omega (arith, f))
ancestors_at (d ∷ ds) (l ∷ ls) (x ∷ xs) zero e f h = refl
ancestors_at (d ∷ ds) (l ∷ ls) (x ∷ xs) (suc k) e f h = ancestors_at ds ls xs k (omega (arith, e)) (omega (arith, f)) (omega (arith, h))
