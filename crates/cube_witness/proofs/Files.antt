-- Lines of a file, one field or one line after another.
use Rattle.std.proofs.Common.{◌≡◌, refl, sym, ap, ap₂, ◌∙◌, ℕ, zero, suc, ◌+◌, ◌-◌, ◌<◌, ◌≤◌, List, [], ◌∷◌, ◌++◌, length, map, flat_map, take, get_or, append_assoc, arith, add-one}
use Rattle.std.proofs.Math.Seq.{take-suc, take-length}
use Rattle.std.proofs.lemmas.List.{map-append}
use Rattle.std.proofs.lemmas.List.Concat.{flat_map-append}
use Rattle.cube_model.specs.Cubes.{count_from}
use Rattle.cube_model.specs.Dims.{Dims, NamedMeasure, column_names}
use Rattle.cube_model.proofs.DimsFacts.{count_from-more}
use Rattle.cube_text.specs.Keys.{closed}
use Rattle.cube_text.specs.Quoting.{field, csv_line}
use Rattle.cube_text.proofs.Lines.{lines_behind}

counted : (n : ℕ) → count_from 0 (n + 1) ≡ count_from 0 n ++ n ∷ []
counted n = let e : 0 + n ≡ n = omega arith in rw e at (count_from-more 0 n)

-- the lines of one more number
pub lines_more : (f : ℕ → List ℕ) (old made new : List ℕ) (n : ℕ) → made ≡ old ++ flat_map f (count_from 0 n) → new ≡ made ++ f n → new ≡ old ++ flat_map f (count_from 0 (n + 1))
lines_more f old made new n so_far grown =
    let more : flat_map f (count_from 0 (n + 1)) ≡ flat_map f (count_from 0 n) ++ f n = ap (flat_map f) (counted n) ∙ flat_map-append f (count_from 0 n) (n ∷ []) ∙ ap (λ (xs : List ℕ). flat_map f (count_from 0 n) ++ xs) (simp Rattle.std.proofs.Common.append-nil) in
    grown ∙ ap (λ (xs : List ℕ). xs ++ f n) so_far ∙ append_assoc old (flat_map f (count_from 0 n)) (f n) ∙ ap (λ (xs : List ℕ). old ++ xs) (sym more)

-- the fields of one more number
pub fields_more : (f : ℕ → List ℕ) (old made new x : List ℕ) (n : ℕ) → made ≡ old ++ flat_map closed (map f (count_from 0 n)) → x ≡ f n → new ≡ made ++ closed x → new ≡ old ++ flat_map closed (map f (count_from 0 (n + 1)))
fields_more f old made new x n so_far is grown =
    let all : map f (count_from 0 (n + 1)) ≡ map f (count_from 0 n) ++ f n ∷ [] = ap (map f) (counted n) ∙ map-append f (count_from 0 n) (n ∷ []) in
    let more : flat_map closed (map f (count_from 0 (n + 1))) ≡ flat_map closed (map f (count_from 0 n)) ++ closed (f n) = ap (flat_map closed) all ∙ flat_map-append closed (map f (count_from 0 n)) (f n ∷ []) ∙ ap (λ (xs : List ℕ). flat_map closed (map f (count_from 0 n)) ++ xs) (simp Rattle.std.proofs.Common.append-nil) in
    grown ∙ ap₂ (λ (xs y : List ℕ). xs ++ closed y) so_far is ∙ append_assoc old (flat_map closed (map f (count_from 0 n))) (closed (f n)) ∙ ap (λ (xs : List ℕ). old ++ xs) (sym more)

-- two lists of fields, a last one and a line feed
pub line_done : (old a b c d : List ℕ) (xs zs ys : List (List ℕ)) (y : List ℕ) → a ≡ old ++ flat_map closed xs → b ≡ a ++ flat_map closed zs → c ≡ b ++ field y → d ≡ c ++ 10 ∷ [] → (xs ++ zs) ++ y ∷ [] ≡ ys → d ≡ old ++ csv_line ys
line_done old a b c d xs zs ys y first second third fourth all =
    let both : b ≡ old ++ flat_map closed (xs ++ zs) = second ∙ ap (λ (t : List ℕ). t ++ flat_map closed zs) first ∙ append_assoc old (flat_map closed xs) (flat_map closed zs) ∙ ap (λ (t : List ℕ). old ++ t) (sym (flat_map-append closed xs zs)) in
    fourth ∙ ap (λ (t : List ℕ). t ++ 10 ∷ []) (third ∙ ap (λ (t : List ℕ). t ++ field y) both) ∙ lines_behind old (xs ++ zs) y ∙ ap (λ (fs : List (List ℕ)). old ++ csv_line fs) all

-- the fields of all numbers, the last one apart
pub last_apart : (f : ℕ → List ℕ) (xs : List (List ℕ)) (y : List ℕ) (last many : ℕ) → 1 ≤ many → last ≡ many - 1 → y ≡ f last → (xs ++ map f (count_from 0 last)) ++ y ∷ [] ≡ xs ++ map f (count_from 0 many)
last_apart f xs y last many some is e =
    let next : last + 1 ≡ many = omega arith in
    append_assoc xs (map f (count_from 0 last)) (y ∷ []) ∙ ap (λ (zs : List (List ℕ)). xs ++ zs)
    (ap (λ (z : List ℕ). map f (count_from 0 last) ++ z ∷ []) e ∙ sym (ap (map f) (counted last) ∙ map-append f (count_from 0 last) (last ∷ [])) ∙ ap (λ (n : ℕ). map f (count_from 0 n)) next)

-- the columns of all measures, the last one apart
pub columns_apart : (s : Dims) (ms : List NamedMeasure) (m : NamedMeasure) (xs : List (List ℕ)) (y : List ℕ) (last : ℕ) → ms ≡ s.measures → last < length ms → last + 1 ≡ length ms → m ≡ get_or ms last m → y ≡ m.column → xs ≡ map (λ d. d.column) s.dimensions
    → (xs ++ map (λ (k : NamedMeasure). k.column) (take last ms)) ++ y ∷ [] ≡ column_names s
columns_apart s ms m xs y last are below next is named first =
    append_assoc xs (map (λ (k : NamedMeasure). k.column) (take last ms)) (y ∷ []) ∙ ap₂ (λ (zs ws : List (List ℕ)). zs ++ ws) first
    (ap (λ (z : List ℕ). map (λ (k : NamedMeasure). k.column) (take last ms) ++ z ∷ []) (named ∙ ap (λ (k : NamedMeasure). k.column) is)
    ∙ sym (map-append (λ (k : NamedMeasure). k.column) (take last ms) (get_or ms last m ∷ []))
    ∙ ap (map (λ (k : NamedMeasure). k.column)) (sym (take-suc ms last m below) ∙ ap (λ (n : ℕ). take n ms) (sym (add-one last) ∙ next) ∙ take-length ms ∙ are))
