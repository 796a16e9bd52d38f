-- The checks of one path, by what was read of it.
use Rattle.std.proofs.Common.{◌≡◌, ℕ, ◌+◌, ◌<◌, Bool, true, false, not, List, [], length, get_or, take, map, codes, sym, ap, ◌∙◌, eqb, eq-eqb, arith}
use Rattle.std.specs.List.{list_any, list_all}
use Rattle.std.proofs.lemmas.List.{get_or_default, get_or-map, take-map}
use Rattle.cube_model.specs.Checks.{check}
use Rattle.cube_model.specs.Cubes.{names_at}
use Rattle.cube_model.specs.Names.{is_name}
use Rattle.cube_model.specs.Dims.{NamedDimension, plain}
use Rattle.cube_tables.specs.Tables.{item_of}
use Rattle.cube_dims.specs.DimsFile.{path_faults, parts_ways, leaf, stands_in}
use Rattle.cube_dims.specs.declared.fault.DimsFault.TheVariants.{NoMemory, Uneven, BadName, LeafTwice, TwoParents}
use Rattle.cube_tables.proofs.Turns.{Refused, check_none, check_fault, both_nothing, first, next, item_number}

pub path_read : (paths read : List (List (List ℕ))) (path : List (List ℕ)) (i : ℕ) → read ≡ paths → i < length paths → path ≡ get_or read i path → path ≡ get_or paths i []
path_read paths read path i same l at = at ∙ ap (λ (ps : List (List (List ℕ))). get_or ps i path) same ∙ get_or_default paths i path [] l

-- whether the leaf stood before, by the names of the finest level
pub leaf_told : (d : NamedDimension) (names : List (List ℕ)) (i : ℕ) (b : Bool) → names ≡ names_at (plain d) 0 → i < length d.paths → b ≡ stands_in (get_or names i []) (take i names) → stands_in (leaf (get_or d.paths i [])) (map leaf (take i d.paths)) ≡ b
leaf_told d names i b same l told = sym (told
    ∙ ap (λ (xs : List (List ℕ)). stands_in (get_or xs i []) (take i xs)) same
    ∙ ap (λ x. stands_in x (take i (map leaf d.paths))) (get_or-map leaf d.paths i [] [] l)
    ∙ ap (stands_in (leaf (get_or d.paths i []))) (take-map leaf i d.paths))

module _ (entry : List ℕ) (levels : ℕ) (paths : List (List (List ℕ))) (i : ℕ) (l : i < length paths) where
  abbrev path : List (List ℕ)
  path = get_or paths i []

  abbrev key : List ℕ
  key = item_of entry (codes "paths") (length (take i paths) + 1)

  numbered : key ≡ item_of entry (codes "paths") (i + 1)
  numbered = item_number entry (codes "paths") paths i (omega (arith, l))

  even_none : length path ≡ levels → check (not (eqb (length path) levels)) (Uneven key) ≡ []
  even_none even = check_none (Uneven key) (not (eqb (length path) levels)) (ap not (eq-eqb (length path) levels even))

  names_none : list_all is_name path ≡ true → check (not (list_all is_name path)) (BadName key) ≡ []
  names_none names = check_none (BadName key) (not (list_all is_name path)) (ap not names)

  pub leaf_twice : (text : List ℕ) → text ≡ item_of entry (codes "paths") (i + 1) → length path ≡ levels → list_all is_name path ≡ true → stands_in (leaf path) (map leaf (take i paths)) ≡ true → Refused NoMemory (LeafTwice text) (path_faults entry levels (take i paths) path)
  leaf_twice text is even names twice =
      first NoMemory (LeafTwice text) _ _ (next NoMemory (LeafTwice text) _ _ (both_nothing _ _ (even_none even) (names_none names))
      (check_fault NoMemory (LeafTwice key) (LeafTwice text) (stands_in (leaf path) (map leaf (take i paths))) twice (ap LeafTwice (numbered ∙ sym is))))

  pub two_parents : (text : List ℕ) → text ≡ item_of entry (codes "paths") (i + 1) → length path ≡ levels → list_all is_name path ≡ true → stands_in (leaf path) (map leaf (take i paths)) ≡ false → list_any (parts_ways path) (take i paths) ≡ true → Refused NoMemory (TwoParents text) (path_faults entry levels (take i paths) path)
  two_parents text is even names once apart =
      next NoMemory (TwoParents text) _ _ (both_nothing _ _ (both_nothing _ _ (even_none even) (names_none names)) (check_none (LeafTwice key) _ once))
      (check_fault NoMemory (TwoParents key) (TwoParents text) (list_any (parts_ways path) (take i paths)) apart (ap TwoParents (numbered ∙ sym is)))

  pub no_fault : length path ≡ levels → list_all is_name path ≡ true → stands_in (leaf path) (map leaf (take i paths)) ≡ false → list_any (parts_ways path) (take i paths) ≡ false → path_faults entry levels (take i paths) path ≡ []
  no_fault even names once together =
      both_nothing _ _ (both_nothing _ _ (both_nothing _ _ (even_none even) (names_none names)) (check_none (LeafTwice key) _ once)) (check_none (TwoParents key) _ together)
