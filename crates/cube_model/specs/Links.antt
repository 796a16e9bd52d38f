-- Links of rows, lists that suit them, what is free from them and what follows, and walks over pairs.
use Rattle.std.specs.List.{list_all, list_any}
use Rattle.std.specs.Ordering.{int_eq}
use Rattle.std.specs.Prelude.{ℕ, zero, suc, Bool, ◌&&◌, ◌||◌, ◌==◌, List, [], ◌∷◌, ◌++◌, filter, flat_map, fold, slice_index_or, if◌then◌else◌, ℤ, pos, negsuc, ◌+ℤ◌}
use Rattle.cube_model.specs.declared.link.Link.{Link}
use Rattle.cube_model.specs.declared.link.Link.TheVariants.{Pair, Single}
use Rattle.cube_model.specs.declared.request.Request.{Request}
use Rattle.cube_model.specs.Cubes.{Public, count_from}
use Rattle.cube_model.specs.Requests.{rows}
use Rattle.cube_model.specs.Protection.{listed}

-- the first with the second, the third with the fourth, and so on; a last one alone
abbrev pub linked : List ℕ → List Link
linked [] = []
linked (i ∷ []) = Single i ∷ []
linked (i ∷ j ∷ is) = Pair i j ∷ linked is

-- the links of a request, row after row
unfoldable pub links : Public → Request → List Link
links g r = flat_map (λ row. linked row.places) (rows g r)

-- the entries at a pair add to 0, the entry at a single is 0
abbrev pub suits_link : List ℤ → Link → Bool
suits_link xs (Pair i j) = int_eq (slice_index_or xs i (pos 0) +ℤ slice_index_or xs j (pos 0)) (pos 0)
suits_link xs (Single i) = int_eq (slice_index_or xs i (pos 0)) (pos 0)

-- the list suits the links
abbrev pub suits : List ℤ → List Link → Bool
suits xs ls = list_all (suits_link xs) ls

-- the lists of so many entries, each -1, 0 or +1
abbrev pub small_lists : ℕ → List (List ℤ)
small_lists zero = [] ∷ []
small_lists (suc n) = flat_map (λ xs. (negsuc 0 ∷ xs) ∷ (pos 0 ∷ xs) ∷ (pos 1 ∷ xs) ∷ []) (small_lists n)

-- those of one entry per place that suit the links
unfoldable pub suiting : ℕ → List Link → List (List ℤ)
suiting n ls = filter (λ xs. suits xs ls) (small_lists n)

-- some list that suits has +1 at the place
abbrev pub has_plus : List (List ℤ) → ℕ → Bool
has_plus lists i = list_any (λ xs. int_eq (slice_index_or xs i (pos 0)) (pos 1)) lists

-- the place is free from the links
abbrev pub is_free : ℕ → List Link → ℕ → Bool
is_free n ls i = has_plus (suiting n ls) i

-- each list that suits the links suits the link
abbrev pub follows : ℕ → List Link → Link → Bool
follows n ls l = list_all (λ xs. suits_link xs l) (suiting n ls)

-- each link, from the first on, that does not follow from those kept before
abbrev pub basis : ℕ → List Link → List Link
basis n ls = fold (λ kept l. if follows n kept l then kept else kept ++ l ∷ []) [] ls

-- the pairs among links
abbrev pub pairs_among : List Link → List (ℕ × ℕ)
pairs_among [] = []
pairs_among (Pair i j ∷ ls) = (i, j) ∷ pairs_among ls
pairs_among (Single i ∷ ls) = pairs_among ls

-- a pair joins the place to one of these
abbrev pub is_joined : List (ℕ × ℕ) → ℕ → List ℕ → Bool
is_joined ps q these = list_any (λ p. (p.0 == q && listed p.1 these) || (p.1 == q && listed p.0 these)) ps

-- where walks of evenly many and of oddly many pairs lead
pub record Reached : Type 0 where
  pub evenly : List ℕ
  pub oddly : List ℕ

-- one pair further
abbrev pub further : ℕ → List (ℕ × ℕ) → Reached → Reached
further n ps w = record {
  evenly = filter (λ q. listed q w.evenly || is_joined ps q w.oddly) (count_from 0 n);
  oddly = filter (λ q. listed q w.oddly || is_joined ps q w.evenly) (count_from 0 n);
}

-- the places among n that walks of at most so many pairs reach from a place
abbrev pub reached : ℕ → List (ℕ × ℕ) → ℕ → ℕ → Reached
reached n ps from zero = record { evenly = from ∷ []; oddly = [] }
reached n ps from (suc k) = further n ps (reached n ps from k)
