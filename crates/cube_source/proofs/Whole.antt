-- Where each place of an object's slice stands in a block that has places apart at its cuboid or one above, no cell of the object is whole.
use Rattle.std.specs.List.{list_any}
use Rattle.std.proofs.Common.{◌≡◌, ℕ, ◌<◌, Bool, true, false, not, ◌&&◌, List, [], length, map, filter, find, get_or, None, sym, ap, ◌∙◌, subst}
use Rattle.std.proofs.lemmas.Bool.{false≢true, and_parts, and_from, not-true, not_from_false}
use Rattle.std.proofs.lemmas.List.{length-map}
use Rattle.cube_model.specs.declared.answer.Row.{Row}
use Rattle.cube_model.specs.declared.cell.Cell.{Cell}
use Rattle.cube_model.specs.declared.policy.Object.{Object}
use Rattle.cube_model.specs.declared.policy.Method.TheVariants.{Plain}
use Rattle.cube_model.specs.Cores.{Core, IsCore}
use Rattle.cube_model.specs.Cubes.{Public, Each, IsHierarchy, IsPoint, ancestors, same, key_at, together, point, is_finer, covers, places, cuboids_below}
use Rattle.cube_model.specs.Dims.{NamedMeasure, plains}
use Rattle.cube_model.specs.Protection.{listed, in_slice, touched, under}
use Rattle.cube_model.proofs.Filled.{cores_are_worlds}
use Rattle.cube_model.proofs.Finer.{is_finer_trans}
use Rattle.cube_model.proofs.Members.{tested, filter_has, IsIn-flat_map, same_refl}
use Rattle.cube_model.proofs.Objects.{below_finer, touched_is}
use Rattle.cube_model.proofs.Orders.{coarser_together, place_of}
use Rattle.cube_model.proofs.Sources.{Each-get_or}
use Rattle.cube_model.proofs.Sums.{length-count_from}
use Rattle.cube_model.proofs.Walks.{any_from, any_has}
use Rattle.cube_source.specs.Blocks.{bare, is_split, is_mixed, is_parted, AreBlocks, AreFlags}
use Rattle.cube_source.proofs.Contained.{none_from}
use Rattle.cube_source.proofs.Counted.{flag_at}
use Rattle.cube_source.proofs.Cuts.{first_in, block_below, parted_is}

-- ---- finer cuboids

hierarchies_of : (c : Core) → IsCore c → Each IsHierarchy (plains c.dims)
hierarchies_of c ok = (cores_are_worlds c (record { methods = map (λ (m : NamedMeasure). Plain) c.dims.measures; objects = [] }) ok (length-map c.dims.measures (λ (m : NamedMeasure). Plain))).hierarchies

-- what a cuboid has together, each coarser one has
together_above : (c : Core) (a k : List ℕ) (i j : ℕ) → IsCore c → i < length c.shape.points → j < length c.shape.points → is_finer k a ≡ true → together (bare c) k i j ≡ true → together (bare c) a i j ≡ true
unfolding key_at
together_above c a k i j ok p q f s =
    let ds = plains c.dims in
    let x = point (bare c) i in
    let y = point (bare c) j in
    ap (same (ancestors ds a x)) (sym (coarser_together ds k a x y (hierarchies_of c ok) (Each-get_or (IsPoint ds) c.shape.points i [] ok.points p) (Each-get_or (IsPoint ds) c.shape.points j [] ok.points q) f s))
    ∙ same_refl (ancestors ds a x)

-- a block that has places apart at a cuboid has some apart at each finer one
mixed_below : (c : Core) (a k : List ℕ) (blocks : List Row) (i : ℕ) → IsCore c → AreBlocks (length c.shape.points) blocks → is_finer k a ≡ true → is_mixed (bare c) a blocks i ≡ true → is_mixed (bare c) k blocks i ≡ true
mixed_below c a k blocks i ok are f e =
    let g = bare c in
    let b = any_from (λ block. is_split g a block.places && listed i block.places) blocks e in
    let s = and_parts (is_split g a b.0.places) (listed i b.0.places) b.2 in
    let first = get_or b.0.places 0 0 in
    let j = any_from (λ j. not (together g a first j)) b.0.places s.0 in
    let apart = not-true (together g a first j.0) j.2 in
    let p = block_below (length c.shape.points) blocks b.0 first are b.1 (first_in b.0.places j.0 j.1) in
    let q = block_below (length c.shape.points) blocks b.0 j.0 are b.1 j.1 in
    let split : is_split g k b.0.places ≡ true = any_has (λ j. not (together g k first j)) j.0 b.0.places j.1 (tested (together g k first j.0)
    (λ d. absurd (false≢true (sym apart ∙ together_above c a k first j.0 ok p q f d)))
    (λ d. not_from_false (together g k first j.0) d)) in
    any_has (λ block. is_split g k block.places && listed i block.places) b.0 blocks b.1 (and_from (is_split g k b.0.places) (listed i b.0.places) split s.1)

-- ---- the cells of an object

mixed_flags : (g : Public) (c : List ℕ) (blocks : List Row) → AreFlags (length g.shape.points) (is_mixed g c blocks) (map (is_mixed g c blocks) (places g))
mixed_flags g c blocks = record {
  long = length-map (places g) (is_mixed g c blocks) ∙ length-count_from 0 (length g.shape.points);
  at = λ k l. flag_at (is_mixed g c blocks) (length g.shape.points) k l;
}

parted_by : (g : Public) (blocks : List Row) (t : Cell) (i : ℕ) → AreBlocks (length g.shape.points) blocks → i < length g.shape.points → covers g t i ≡ true → is_mixed g t.levels blocks i ≡ true → is_parted g blocks t ≡ true
parted_by g blocks t i are l e mixed =
    let flags = map (is_mixed g t.levels blocks) (places g) in
    sym (parted_is g blocks t flags are (mixed_flags g t.levels blocks))
    ∙ any_has (λ i. get_or flags i false) i (filter (covers g t) (places g)) (filter_has (covers g t) i (places g) e (place_of g i l)) (flag_at (is_mixed g t.levels blocks) (length g.shape.points) i l ∙ mixed)

flagged : (g : Public) (o : Object) (flags : List Bool) (i : ℕ) → list_any (λ i. not (get_or flags i false) && in_slice g o i) (places g) ≡ false → i < length g.shape.points → in_slice g o i ≡ true → get_or flags i false ≡ true
flagged g o flags i none l s = tested (get_or flags i false) (λ e. e)
    (λ e. absurd (false≢true (sym none ∙ any_has (λ i. not (get_or flags i false) && in_slice g o i) i (places g) (place_of g i l) (and_from (not (get_or flags i false)) (in_slice g o i) (not_from_false (get_or flags i false) e) s))))

-- where each place of the slice is flagged at a cuboid that the object stands at or below, no cell of the object is whole
pub none_whole : (c : Core) (o : Object) (a : List ℕ) (blocks : List Row) (flags : List Bool) → IsCore c → AreBlocks (length c.shape.points) blocks → is_finer o.levels a ≡ true → AreFlags (length c.shape.points) (is_mixed (bare c) a blocks) flags
    → list_any (λ i. not (get_or flags i false) && in_slice (bare c) o i) (places (bare c)) ≡ false → find (λ t. not (is_parted (bare c) blocks t)) (under (bare c) o) ≡ None
none_whole c o a blocks flags ok are under_a f none =
    let g = bare c in
    none_from (λ t. not (is_parted g blocks t)) (under g o) (λ t m.
    let k = IsIn-flat_map (touched g o) t (cuboids_below o.levels) m in
    let d = touched_is g o k.0 t k.2 in
    let finer = subst (λ (ls : List ℕ). is_finer ls o.levels ≡ true) d.0 (below_finer o.levels k.0 k.1) in
    let at = d.1.1 in
    let mixed = mixed_below c a t.levels blocks at.0 ok are (is_finer_trans t.levels o.levels a finer under_a) (sym (f.at at.0 at.1) ∙ flagged g o flags at.0 none at.1 at.2) in
    ap not (parted_by g blocks t at.0 are at.1 at.3 mixed))
