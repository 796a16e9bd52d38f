-- What suiting, free, follows, basis and walks mean, in plain words.
use Rattle.std.specs.List.{list_any}
use Rattle.std.specs.Prelude.{◌≡◌, ℕ, zero, suc, ◌*◌, ◌<◌, ◌≤◌, ◌↔◌, ◌⊎◌, Bool, true, not, ◌&&◌, ◌||◌, List, [], ◌∷◌, ◌++◌, length, slice_index_or, ℤ, pos, negsuc, ◌+ℤ◌}
use Rattle.cube_model.specs.declared.link.Link.{Link}
use Rattle.cube_model.specs.declared.link.Link.TheVariants.{Pair, Single}
use Rattle.cube_model.specs.Cubes.{IsIn, Each}
use Rattle.cube_model.specs.Protection.{listed}
use Rattle.cube_model.specs.Links.{suiting, is_free, follows, basis, pairs_among, Reached, reached}
use Rattle.cube_model.specs.Twins.{by_walks}

abbrev pub entry : List ℤ → ℕ → ℤ
entry xs i = slice_index_or xs i (pos 0)

-- the list suits the link
abbrev pub Suits : List ℤ → Link → Type 0
Suits xs (Pair i j) = entry xs i +ℤ entry xs j ≡ pos 0
Suits xs (Single i) = entry xs i ≡ pos 0

abbrev pub IsSmall : ℤ → Type 0
IsSmall x = (x ≡ negsuc 0) ⊎ ((x ≡ pos 0) ⊎ (x ≡ pos 1))

-- one small entry per place, and it suits each link
pub record SuitsAll (n : ℕ) (ls : List Link) (xs : List ℤ) : Type 0 where
  pub long : length xs ≡ n
  pub small : Each IsSmall xs
  pub all : (l : Link) → IsIn l ls → Suits xs l

abbrev pub SuitingIs : Type 0
SuitingIs = (n : ℕ) (ls : List Link) (xs : List ℤ) → IsIn xs (suiting n ls) ↔ SuitsAll n ls xs

-- some list that suits has +1 there
abbrev pub FreeIs : Type 0
FreeIs = (n : ℕ) (ls : List Link) (i : ℕ) → (is_free n ls i ≡ true) ↔ ((xs : List ℤ) × SuitsAll n ls xs × (entry xs i ≡ pos 1))

-- each list that suits the links suits the link
abbrev pub FollowsIs : Type 0
FollowsIs = (n : ℕ) (ls : List Link) (l : Link) → (follows n ls l ≡ true) ↔ ((xs : List ℤ) → SuitsAll n ls xs → Suits xs l)

-- what suits the basis suits the links
abbrev pub BasisSuits : Type 0
BasisSuits = (n : ℕ) (ls : List Link) (xs : List ℤ) → SuitsAll n (basis n ls) xs ↔ SuitsAll n ls xs

abbrev pub IsOfPlaces : ℕ → Link → Type 0
IsOfPlaces n (Pair i j) = (i < n) × (j < n)
IsOfPlaces n (Single i) = i < n

-- links of places
abbrev pub AreOfPlaces : ℕ → List Link → Type 0
AreOfPlaces n ls = (l : Link) → IsIn l ls → IsOfPlaces n l

-- Links that the same lists suit give the same changes at a free place.
abbrev pub SameChanges : Type 0
SameChanges = (n : ℕ) (ls ks : List Link) (i p : ℕ) → AreOfPlaces n ls → AreOfPlaces n ks → i < n → p < n → ((xs : List ℤ) → SuitsAll n ls xs ↔ SuitsAll n ks xs) → is_free n ls i ≡ true → by_walks (reached n (pairs_among ls) i (2 * n)) p ≡ by_walks (reached n (pairs_among ks) i (2 * n)) p

-- a pair joins the two places
abbrev pub Joins : List (ℕ × ℕ) → ℕ → ℕ → Type 0
Joins ps x y = IsIn (x, y) ps ⊎ IsIn (y, x) ps

-- a walk of so many pairs leads from one place to another
abbrev pub Walk : List (ℕ × ℕ) → ℕ → ℕ → ℕ → Type 0
Walk ps from zero q = from ≡ q
Walk ps from (suc k) q = (x : ℕ) × Walk ps from k x × Joins ps x q

-- walks of at most twice as many pairs as places suffice
pub record AreEnds (n : ℕ) (ps : List (ℕ × ℕ)) (from : ℕ) : Type 0 where
  pub evenly : (q : ℕ) → IsIn q (reached n ps from (2 * n)).evenly ↔ ((k : ℕ) × Walk ps from (2 * k) q)
  pub oddly : (q : ℕ) → IsIn q (reached n ps from (2 * n)).oddly ↔ ((k : ℕ) × Walk ps from (suc (2 * k)) q)

abbrev pub WalksSuffice : Type 0
WalksSuffice = (n : ℕ) (ps : List (ℕ × ℕ)) (from : ℕ) → ((e : ℕ × ℕ) → IsIn e ps → (e.0 < n) × (e.1 < n)) → from < n → AreEnds n ps from

-- the single places among links
abbrev pub singles_among : List Link → List ℕ
singles_among [] = []
singles_among (Pair i j ∷ ls) = singles_among ls
singles_among (Single i ∷ ls) = i ∷ singles_among ls

-- where walks over the pairs of the links lead from a place
abbrev pub ends : ℕ → List Link → ℕ → Reached
ends n ls i = reached n (pairs_among ls) i (2 * n)

-- walks from the place lead to one place both ways, or to a single
abbrev pub is_fixed : ℕ → List Link → ℕ → Bool
is_fixed n ls i = list_any (λ q. listed q (ends n ls i).oddly) (ends n ls i).evenly || list_any (λ q. listed q (ends n ls i).evenly || listed q (ends n ls i).oddly) (singles_among ls)

-- a place is free exactly where it is not fixed
abbrev pub FreeIsNotFixed : Type 0
FreeIsNotFixed = (n : ℕ) (ls : List Link) (i : ℕ) → AreOfPlaces n ls → i < n → is_free n ls i ≡ not (is_fixed n ls i)

-- a single follows exactly where its place is fixed
abbrev pub SingleFollows : Type 0
SingleFollows = (n : ℕ) (ls : List Link) (i : ℕ) → AreOfPlaces n ls → i < n → follows n ls (Single i) ≡ is_fixed n ls i

-- a pair follows exactly where both places are fixed, or a walk of oddly many pairs leads from one to the other
abbrev pub PairFollows : Type 0
PairFollows = (n : ℕ) (ls : List Link) (i j : ℕ) → AreOfPlaces n ls → i < n → j < n → follows n ls (Pair i j) ≡ ((is_fixed n ls i && is_fixed n ls j) || listed j (ends n ls i).oddly)

-- what is free from more links is free from fewer
abbrev pub FreeFromFewer : Type 0
FreeFromFewer = (n : ℕ) (ls ks : List Link) (i : ℕ) → is_free n (ls ++ ks) i ≡ true → is_free n ls i ≡ true

-- the basis of a basis followed by more links is that of all of them
abbrev pub BasisOfMore : Type 0
BasisOfMore = (n : ℕ) (ls ks : List Link) → basis n (basis n ls ++ ks) ≡ basis n (ls ++ ks)

-- a basis has at most as many links as there are places
abbrev pub BasisIsShort : Type 0
BasisIsShort = (n : ℕ) (ls : List Link) → length (basis n ls) ≤ n
