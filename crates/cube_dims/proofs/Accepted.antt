-- What no fault of a dimension says: it keeps the rules.
use Rattle.std.proofs.Common.{◌≡◌, ℕ, zero, suc, ◌<◌, ◌≤◌, Bool, true, false, not, List, [], ◌∷◌, length, get_or, take, map, refl, sym, ap, ◌∙◌, eqb, eqb-true, eq-eqb, ltb, arith}
use Rattle.std.specs.List.{list_any, list_all}
use Rattle.std.specs.Str.{bytes_eq}
use Rattle.std.proofs.lemmas.Bool.{ltb-true, ltb-false}
use Rattle.std.proofs.lemmas.List.{get_or-take, length-take-le, get_or-map, take-map, length-map}
use Rattle.std.specs.Prelude.{Option}
use Rattle.std.proofs.lemmas.Slice.Eq.{bytes_eq-Decides}
use Rattle.toml.specs.Data.{Data}
use Rattle.cube_model.specs.Checks.{in_turn}
use Rattle.cube_model.specs.Cubes.{names_at, place_of, distinct, IsHierarchy}
use Rattle.cube_model.specs.Names.{is_name, is_level_name}
use Rattle.cube_model.specs.Dims.{NamedDimension, plain, AreDistinct, IsDimension}
use Rattle.cube_model.proofs.DimsFacts.{distinct_by_turns, up-named, same_number}
use Rattle.cube_model.proofs.Members.{tested}
use Rattle.cube_tables.specs.Tables.{as_list, value_or}
use Rattle.cube_dims.specs.DimsFile.{list_faults, bad_level, level_twice, path_faults, named_faults, parts_ways, leaf, stands_in, AreHierarchy}
use Rattle.cube_dims.specs.declared.fault.DimsFault.TheVariants.{Missing, WrongKind}
use Rattle.cube_tables.proofs.Nonempty as nonempty
use Rattle.cube_tables.proofs.Turns.{no_append, no_check, turn_at}
use Rattle.cube_dims.proofs.Hierarchy.{none_at, name_at, name_of_path, in_range, same_parent}

pub not_false : (b : Bool) → not b ≡ false → b ≡ true
not_false true h = refl
not_false false h = sym h

-- what each path without a fault is behind the earlier ones
pub record Follows (levels : ℕ) (before : List (List (List ℕ))) (path : List (List ℕ)) : Type 0 where
  pub even : length path ≡ levels
  pub names : list_all is_name path ≡ true
  pub new : stands_in (leaf path) (map leaf before) ≡ false
  pub agrees : list_any (parts_ways path) before ≡ false

follows : (entry : List ℕ) (levels : ℕ) (before : List (List (List ℕ))) (path : List (List ℕ)) → path_faults entry levels before path ≡ [] → Follows levels before path
follows entry levels before path h =
    let last = no_append _ _ h in
    let third = no_append _ _ last.0 in
    let second = no_append _ _ third.0 in
    record {
      even = eqb-true (length path) levels (not_false (eqb (length path) levels) (no_check _ _ second.0));
      names = not_false (list_all is_name path) (no_check _ _ second.1);
      new = no_check _ _ third.1;
      agrees = no_check _ _ last.1;
    }

pub follow : (entry : List ℕ) (levels : ℕ) (paths : List (List (List ℕ))) → in_turn (path_faults entry levels) [] paths ≡ [] → (k : ℕ) → k < length paths → Follows levels (take k paths) (get_or paths k [])
follow entry levels paths h k l = follows entry levels (take k paths) (get_or paths k []) (turn_at (path_faults entry levels) paths k [] l h)

pub are_hierarchy : (entry : List ℕ) (levels : ℕ) (paths : List (List (List ℕ))) → in_turn (path_faults entry levels) [] paths ≡ [] → AreHierarchy levels paths
are_hierarchy entry levels paths h = record {
  even = λ k l. (follow entry levels paths h k l).even;
  agree = λ j k before l.
      let long = length-take-le k paths (omega (arith, l)) in
      ap (parts_ways (get_or paths k [])) (sym (get_or-take k paths j [] before))
      ∙ none_at (parts_ways (get_or paths k [])) (take k paths) [] j (omega (arith, long, before)) (follow entry levels paths h k l).agrees;
}

-- ---- a list that is there, of the kind, and not empty

pub has_items : {X : Type 0} (kind : Data → Option X) (key : List ℕ) (value : Option Data) → list_faults (as_list kind) key value ≡ [] → 1 ≤ length (value_or [] (as_list kind) value)
has_items kind key value h = nonempty.has_items Missing WrongKind kind key value h

-- ---- the rules

all_by_index : {X : Type 0} (p : X → Bool) (xs : List X) (d : X) → ((k : ℕ) → k < length xs → p (get_or xs k d) ≡ true) → list_all p xs ≡ true
all_by_index p [] d h = refl
all_by_index p (x ∷ xs) d h = rw (h zero (omega arith)) (all_by_index p xs d (λ k l. h (suc k) (omega (arith, l))))

leaves_distinct : (entry : List ℕ) (levels : ℕ) (paths : List (List (List ℕ))) → in_turn (path_faults entry levels) [] paths ≡ [] → AreDistinct (map leaf paths)
leaves_distinct entry levels paths h = distinct_by_turns (map leaf paths) (λ k l.
    let long = length-map paths leaf in
    let within : k < length paths = omega (arith, long, l) in
    ap (λ x. list_any (bytes_eq x) (take k (map leaf paths))) (get_or-map leaf paths k [] [] within)
    ∙ ap (list_any (bytes_eq (leaf (get_or paths k [])))) (take-map leaf k paths)
    ∙ (follow entry levels paths h k within).new)

-- one of two paths does not part ways with the other, so they have the same parent
one_parent : (d : NamedDimension) → AreHierarchy (length d.levels) d.paths → (l x y : ℕ) → suc l < length d.levels → x < length d.paths → y < length d.paths → name_at d l x ≡ name_at d l y → name_at d (suc l) x ≡ name_at d (suc l) y
one_parent d s l x y h a b e =
    tested (ltb x y)
    (λ t. sym (later x y (ltb-true x y t) b (sym e)))
    (λ f. tested (ltb y x)
    (λ t. later y x (ltb-true y x t) a e)
    (λ g. let u = ltb-false x y f in let v = ltb-false y x g in let same : x ≡ y = omega (arith, u, v) in ap (name_at d (suc l)) same))
  where
    later : (j k : ℕ) → j < k → k < length d.paths → name_at d l k ≡ name_at d l j → name_at d (suc l) k ≡ name_at d (suc l) j
    later j k before within alike =
        let even_k = s.even k within in
        let even_j = s.even j (omega (arith, before, within)) in
        name_of_path d (suc l) k within
        ∙ same_parent (get_or d.paths k []) (get_or d.paths j []) l (s.agree j k before within) (omega (arith, even_k, h)) (omega (arith, even_j, h))
        (sym (name_of_path d l k within) ∙ alike ∙ name_of_path d l j (omega (arith, before, within)))
        ∙ sym (name_of_path d (suc l) j (omega (arith, before, within)))

is_hierarchy : (d : NamedDimension) → AreDistinct (names_at (plain d) 0) → AreHierarchy (length d.levels) d.paths → IsHierarchy (plain d)
is_hierarchy d once s l x y h a b e =
    let numbers = sym (up-named d l x once (omega (arith, h)) a) ∙ e ∙ up-named d l y once (omega (arith, h)) b in
    let tests = eq-eqb (place_of (name_at d l x) (distinct (names_at (plain d) l))) (place_of (name_at d l y) (distinct (names_at (plain d) l))) numbers in
    let names = (bytes_eq-Decides (name_at d l x) (name_at d l y)).0 (sym (same_number (names_at (plain d) l) x y (in_range d l x a) (in_range d l y b)) ∙ tests) in
    up-named d (suc l) x once h a
    ∙ ap (λ z. place_of z (distinct (names_at (plain d) (suc l)))) (one_parent d s l x y h a b names)
    ∙ sym (up-named d (suc l) y once h b)

pub is_dimension : (entry : List ℕ) (earlier : List NamedDimension) (d : NamedDimension) → 1 ≤ length d.levels → 1 ≤ length d.paths → named_faults entry earlier d ≡ [] → IsDimension d
unfolding named_faults
is_dimension entry earlier d has_levels has_leaves h =
    let last = no_append _ _ h in
    let sizes = no_append _ _ last.0 in
    let naming = no_append _ _ sizes.0 in
    let bad = no_append _ _ naming.0 in
    let names = no_append _ _ bad.0 in
    let twice = no_append _ _ naming.1 in
    let size = no_append _ _ sizes.1 in
    let once = leaves_distinct entry (length d.levels) d.paths last.1 in
    record {
      name = not_false _ (no_check _ _ names.0);
      column = not_false _ (no_check _ _ names.1);
      has_levels = has_levels;
      few_levels = ltb-false 5 (length d.levels) (no_check _ _ size.0);
      level_names = all_by_index is_level_name d.levels [] (λ k l. not_false _ (no_check _ _ (turn_at (bad_level entry) d.levels k [] l bad.1)));
      distinct_levels = distinct_by_turns d.levels (λ k l. no_check _ _ (turn_at (level_twice entry) d.levels k [] l twice.1));
      has_leaves = has_leaves;
      few_leaves = ltb-false 65536 (length d.paths) (no_check _ _ size.1);
      even = all_by_index (λ path. eqb (length path) (length d.levels)) d.paths [] (λ k l. eq-eqb _ _ (follow entry (length d.levels) d.paths last.1 k l).even);
      member_names = all_by_index (λ path. list_all is_name path) d.paths [] (λ k l. (follow entry (length d.levels) d.paths last.1 k l).names);
      distinct_leaves = once;
      one_parent = is_hierarchy d once (are_hierarchy entry (length d.levels) d.paths last.1);
    }
