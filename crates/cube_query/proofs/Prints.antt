-- What a valid request keeps.
use Rattle.std.proofs.Common.{◌≡◌, ℕ, suc, ◌≤◌, true, ltb, leb, List, [], ◌∷◌, length, map, refl, ap}
use Rattle.std.specs.Prelude.{Option, Some, None, not, ◌&&◌, ◌||◌}
use Rattle.std.specs.List.{list_all}
use Rattle.std.proofs.lemmas.Bool.{false≢true, and_parts, ltb-true, leb-true}
use Rattle.cube_model.specs.Dims.{Dims, NamedDimension, plain, plains, members}
use Rattle.cube_model.specs.Requests.{fits, is_level, is_grouped, is_one}
use Rattle.cube_model.specs.declared.request.Request.{Request}
use Rattle.cube_model.specs.declared.request.Pick.{Pick}
use Rattle.cube_query.specs.Canonical.{is_request, is_there, PickFits, PicksFit}

level_fits : (d : NamedDimension) (p : Option Pick) (l : ℕ) → is_level (plain d) p l ≡ true → (l ≤ length d.levels) × PickFits d p
level_fits d None l e = (leb-true l (length d.levels) e, tt)
level_fits d (Some p) l e =
    let a = and_parts (leb l (length d.levels) && ltb p.level (length d.levels) && leb p.first p.last) (ltb p.last (length (members d p.level))) e in
    let b = and_parts (leb l (length d.levels) && ltb p.level (length d.levels)) (leb p.first p.last) a.0 in
    let c = and_parts (leb l (length d.levels)) (ltb p.level (length d.levels)) b.0 in
    (leb-true l (length d.levels) c.0, (ltb-true p.level (length d.levels) c.1, leb-true p.first p.last b.1, ltb-true p.last (length (members d p.level)) a.1))

-- a level in range for each dimension
abbrev pub LevelsFit : List NamedDimension → List ℕ → Type 0
LevelsFit [] [] = Unit {0}
LevelsFit [] (l ∷ ls) = ⊥
LevelsFit (d ∷ ds) [] = ⊥
LevelsFit (d ∷ ds) (l ∷ ls) = (l ≤ length d.levels) × LevelsFit ds ls

pub all_fit : (ds : List NamedDimension) (ls : List ℕ) (ps : List (Option Pick)) → fits (map plain ds) ls ps ≡ true → LevelsFit ds ls × PicksFit ds ps
all_fit [] [] [] e = (tt, tt)
all_fit [] [] (p ∷ ps) e = absurd (false≢true e)
all_fit [] (l ∷ ls) ps e = absurd (false≢true e)
all_fit (d ∷ ds) [] ps e = absurd (false≢true e)
all_fit (d ∷ ds) (l ∷ ls) [] e = absurd (false≢true e)
all_fit (d ∷ ds) (l ∷ ls) (p ∷ ps) e =
    let a = and_parts (is_level (plain d) p l) (fits (map plain ds) ls ps) e in
    let b = level_fits d p l a.0 in
    let c = all_fit ds ls ps a.1 in
    ((b.0, c.0), (b.1, c.1))

levels_length : (ds : List NamedDimension) (ls : List ℕ) → LevelsFit ds ls → length ls ≡ length ds
levels_length [] [] f = refl
levels_length [] (l ∷ ls) f = absurd f
levels_length (d ∷ ds) [] f = absurd f
levels_length (d ∷ ds) (l ∷ ls) f = ap (λ n. suc n) (levels_length ds ls f.1)

picks_length : (ds : List NamedDimension) (ps : List (Option Pick)) → PicksFit ds ps → length ps ≡ length ds
picks_length [] [] f = refl
picks_length [] (p ∷ ps) f = absurd f
picks_length (d ∷ ds) [] f = absurd f
picks_length (d ∷ ds) (p ∷ ps) f = ap (λ n. suc n) (picks_length ds ps f.1)

-- what a valid request keeps
pub record Keeps (s : Dims) (r : Request) : Type 0 where
  pub levels : LevelsFit s.dimensions r.group
  pub picks : PicksFit s.dimensions r.picks
  pub group_length : length r.group ≡ length s.dimensions
  pub picks_length : length r.picks ≡ length s.dimensions
  pub there : is_there s r.what ≡ true
  pub one : (not (is_grouped (plains s) r.group) || list_all is_one r.picks) ≡ true

pub request_fits : (s : Dims) (r : Request) → is_request s r ≡ true → Keeps s r
unfolding is_request
request_fits s r e =
    let a = and_parts (fits (plains s) r.group r.picks && is_there s r.what) (not (is_grouped (plains s) r.group) || list_all is_one r.picks) e in
    let b = and_parts (fits (plains s) r.group r.picks) (is_there s r.what) a.0 in
    let f = all_fit s.dimensions r.group r.picks b.0 in
    record { levels = f.0; picks = f.1; group_length = levels_length s.dimensions r.group f.0; picks_length = picks_length s.dimensions r.picks f.1; there = b.1; one = a.1 }
