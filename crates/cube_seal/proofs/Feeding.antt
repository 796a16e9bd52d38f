-- What a hasher holds while the values of a core are fed to it.
use Rattle.std.proofs.Common.{◌≡◌, ◌∙◌, ◌+◌, ◌<◌, ◌≤◌, ℕ, zero, suc, ℤ, pos, List, [], ◌∷◌, ◌++◌, length, take, get_or, refl, sym, ap, arith}
use Rattle.std.specs.List.{flat_map, zip}
use Rattle.std.proofs.lemmas.List.{flat_map_more, take_all, take_more}
use Rattle.cube_model.specs.Cores.{Core, IsCore}
use Rattle.cube_model.specs.Cubes.{Each}
use Rattle.cube_model.specs.Dims.{NamedMeasure, no_measure}
use Rattle.cube_seal.specs.Values.{value_bytes, measure_bytes}

-- one item more
pub fed_more : {X : Type 0} (f : X → List ℕ) (m : List ℕ) (xs : List X) (i : ℕ) (d : X) → i < length xs → (m ++ flat_map f (take i xs)) ++ f (get_or xs i d) ≡ m ++ flat_map f (take (i + 1) xs)
fed_more f m xs i d within = flat_map_more f m (take i xs) (get_or xs i d) ∙ ap (λ l. m ++ flat_map f l) (sym (take_more xs i d within))

-- all items
pub fed_all : {X : Type 0} (f : X → List ℕ) (m : List ℕ) (xs : List X) (i : ℕ) → length xs ≤ i → m ++ flat_map f (take i xs) ≡ m ++ flat_map f xs
fed_all f m xs i past = ap (λ l. m ++ flat_map f l) (take_all i xs past)

pub zip_long : {K X : Type 0} (ks : List K) (xs : List X) → length xs ≡ length ks → length (zip ks xs) ≡ length ks
zip_long [] xs even = refl
zip_long (k ∷ ks) [] even = absurd (omega (arith, even))
zip_long (k ∷ ks) (x ∷ xs) even = ap suc (zip_long ks xs (omega (arith, even)))

pub zip_at : {K X : Type 0} (ks : List K) (xs : List X) (i : ℕ) (k : K) (x : X) → length xs ≡ length ks → i < length ks → get_or (zip ks xs) i (k, x) ≡ (get_or ks i k, get_or xs i x)
zip_at [] xs i k x even within = absurd (omega (arith, within))
zip_at (y ∷ ks) [] i k x even within = absurd (omega (arith, even))
zip_at (y ∷ ks) (z ∷ xs) zero k x even within = refl
zip_at (y ∷ ks) (z ∷ xs) (suc i) k x even within = zip_at ks xs i k x (omega (arith, even)) (omega (arith, within))

each_at : {X : Type 0} (P : X → Type 0) (xs : List X) (i : ℕ) (d : X) → Each P xs → i < length xs → P (get_or xs i d)
each_at P [] i d each within = absurd (omega (arith, within))
each_at P (x ∷ xs) zero d each within = each.0
each_at P (x ∷ xs) (suc i) d each within = each_at P xs i d each.1 (omega (arith, within))

-- a measure has a value at each place
pub values_long : (core : Core) (m : ℕ) → IsCore core → m < length core.dims.measures → length (get_or core.cube m []) ≡ length core.shape.points
values_long core m ok within = let many = ok.measures in each_at (λ (vs : List ℤ). length vs ≡ length core.shape.points) core.cube m [] ok.values (omega (arith, many, within))

-- one value more
pub value_more : (core : Core) (measure i : ℕ) (value : ℤ) (m : List ℕ) → IsCore core → measure < length core.dims.measures → i < length core.shape.points → value ≡ get_or (get_or core.cube measure []) i (pos 0)
    → (m ++ flat_map value_bytes (take i (get_or core.cube measure []))) ++ value_bytes value ≡ m ++ flat_map value_bytes (take (i + 1) (get_or core.cube measure []))
value_more core measure i value m ok is_measure is_place is =
    let values = get_or core.cube measure [] in
    let long = values_long core measure ok is_measure in
    ap (λ (v : ℤ). (m ++ flat_map value_bytes (take i values)) ++ value_bytes v) is ∙ fed_more value_bytes m values i (pos 0) (omega (arith, long, is_place))

-- one measure more
pub measure_more : (core : Core) (m : List ℕ) (i : ℕ) → IsCore core → i < length core.dims.measures
    → (m ++ flat_map measure_bytes (take i (zip core.dims.measures core.cube))) ++ measure_bytes (get_or core.dims.measures i no_measure, get_or core.cube i []) ≡ m ++ flat_map measure_bytes (take (i + 1) (zip core.dims.measures core.cube))
measure_more core m i ok within =
    let even = ok.measures in
    let long = zip_long core.dims.measures core.cube even in
    ap (λ (x : NamedMeasure × List ℤ). (m ++ flat_map measure_bytes (take i (zip core.dims.measures core.cube))) ++ measure_bytes x) (sym (zip_at core.dims.measures core.cube i no_measure [] even within))
    ∙ fed_more measure_bytes m (zip core.dims.measures core.cube) i (no_measure, []) (omega (arith, long, within))
