-- The links of rows are links of their places.
use Rattle.std.specs.List.{All, flat_map, slice_index}
use Rattle.std.specs.List.Sorted.{IsStrictlyIncreasing}
use Rattle.std.proofs.Common.{◌≡◌, ℕ, suc, ◌<◌, List, [], ◌∷◌, ◌++◌, inl, inr, refl, sym, ◌∙◌, arith, subst, true, not, ◌&&◌, ltb, eqb, ap, ◌+◌, ◌*◌, length, get_or, drop, drop-cons, append_assoc}
use Rattle.std.proofs.lemmas.Bool.{and_from, lt-ltb, ne_eqb}
use Rattle.cube_model.specs.declared.answer.Row.{Row}
use Rattle.cube_model.specs.declared.link.Link.{Link}
use Rattle.cube_model.specs.declared.link.Link.TheVariants.{Pair}
use Rattle.cube_model.specs.Cubes.{IsIn}
use Rattle.cube_model.specs.Entries.{is_link}
use Rattle.cube_model.specs.Links.{linked}
use Rattle.cube_model.specs.LinkLaws.{IsOfPlaces, AreOfPlaces}
use Rattle.cube_model.proofs.Members.{IsIn-flat_map}

-- what holds of each element, at one of them
pub All-member : {X : Type 0} (P : X → Type 0) (x : X) (xs : List X) → All P xs → IsIn x xs → P x
All-member P x [] a h = absurd h
All-member P x (y ∷ ys) a (inl e) = subst P e (a 0 y (omega arith))
All-member P x (y ∷ ys) a (inr k) = All-member P x ys (λ i d lt. a (suc i) d (omega (arith, lt))) k

-- one more pair of a row's places
pub pair_more : (front start made : List Link) (places : List ℕ) (k : ℕ) → 2 * k + 1 < length places → made ≡ front ++ Pair (get_or places (2 * k) 0) (get_or places (2 * k + 1) 0) ∷ [] → front ++ linked (drop (2 * k) places) ≡ start → made ++ linked (drop (2 * (k + 1)) places) ≡ start
pair_more front start made places k lt is so_far =
    let one : suc (2 * k) ≡ 2 * k + 1 = omega arith in
    let two : suc (2 * k + 1) ≡ 2 * (k + 1) = omega arith in
    let first : drop (2 * k) places ≡ get_or places (2 * k) 0 ∷ drop (2 * k + 1) places = drop-cons places (2 * k) 0 (omega (arith, lt)) ∙ ap (λ (m : ℕ). get_or places (2 * k) 0 ∷ drop m places) one in
    let second : drop (2 * k + 1) places ≡ get_or places (2 * k + 1) 0 ∷ drop (2 * (k + 1)) places = drop-cons places (2 * k + 1) 0 lt ∙ ap (λ (m : ℕ). get_or places (2 * k + 1) 0 ∷ drop m places) two in
    let cut : drop (2 * k) places ≡ get_or places (2 * k) 0 ∷ get_or places (2 * k + 1) 0 ∷ drop (2 * (k + 1)) places = first ∙ ap (λ (ps : List ℕ). get_or places (2 * k) 0 ∷ ps) second in
    let rest = linked (drop (2 * (k + 1)) places) in
    ap (λ (ls : List Link). ls ++ rest) is ∙ append_assoc front (Pair (get_or places (2 * k) 0) (get_or places (2 * k + 1) 0) ∷ []) rest ∙ sym (ap (λ (ps : List ℕ). front ++ linked ps) cut) ∙ so_far

-- the links of one row
pub linked_places : (n : ℕ) (xs : List ℕ) → ((x : ℕ) → IsIn x xs → x < n) → (l : Link) → IsIn l (linked xs) → IsOfPlaces n l
linked_places n [] below l h = absurd h
linked_places n (i ∷ []) below l (inl e) = subst (IsOfPlaces n) e (below i (inl refl))
linked_places n (i ∷ []) below l (inr h) = absurd h
linked_places n (i ∷ j ∷ is) below l (inl e) = subst (IsOfPlaces n) e (below i (inl refl), below j (inr (inl refl)))
linked_places n (i ∷ j ∷ is) below l (inr h) = linked_places n is (λ x k. below x (inr (inr k))) l h

-- the links of all rows
pub rows_places : (n : ℕ) (rows : List Row) (links : List Link) → links ≡ flat_map (λ row. linked row.places) rows → All (λ row. All (λ place. place < n) row.places) rows → AreOfPlaces n links
rows_places n rows links is below l h =
    let r = IsIn-flat_map (λ (row : Row). linked row.places) l rows (subst (IsIn l) is h) in
    linked_places n r.0.places (λ x k. All-member (λ place. place < n) x r.0.places (All-member (λ (row : Row). All (λ place. place < n) row.places) r.0 rows below r.1) k) l r.2

-- the links of one row whose places stand in order
pub linked_apart : (n : ℕ) (xs : List ℕ) → ((x : ℕ) → IsIn x xs → x < n) → IsStrictlyIncreasing xs → (l : Link) → IsIn l (linked xs) → is_link n l ≡ true
linked_apart n [] below rising l h = absurd h
linked_apart n (i ∷ []) below rising l (inl e) = subst (λ (k : Link). is_link n k ≡ true) e (lt-ltb i n (below i (inl refl)))
linked_apart n (i ∷ []) below rising l (inr h) = absurd h
linked_apart n (i ∷ j ∷ is) below rising l (inl e) =
    let lt : i < j = rising 0 (omega arith) in
    subst (λ (k : Link). is_link n k ≡ true) e (and_from (ltb i n && ltb j n) (not (eqb i j)) (and_from (ltb i n) (ltb j n) (lt-ltb i n (below i (inl refl))) (lt-ltb j n (below j (inr (inl refl))))) (ap not (ne_eqb i j (λ z. absurd (omega arith)))))
linked_apart n (i ∷ j ∷ is) below rising l (inr h) = linked_apart n is (λ x k. below x (inr (inr k))) (λ k lt. let e : suc (suc k) + 1 ≡ suc (suc (k + 1)) = omega arith in subst (λ (m : ℕ). slice_index is k < slice_index (i ∷ j ∷ is) m) e (rising (suc (suc k)) (omega (arith, lt)))) l h

-- the links of all rows
pub rows_apart : (n : ℕ) (rows : List Row) (links : List Link) → links ≡ flat_map (λ row. linked row.places) rows → All (λ row. All (λ place. place < n) row.places) rows → All (λ row. IsStrictlyIncreasing row.places) rows → (l : Link) → IsIn l links → is_link n l ≡ true
rows_apart n rows links is below rising l h =
    let r = IsIn-flat_map (λ (row : Row). linked row.places) l rows (subst (IsIn l) is h) in
    linked_apart n r.0.places (λ x k. All-member (λ place. place < n) x r.0.places (All-member (λ (row : Row). All (λ place. place < n) row.places) r.0 rows below r.1) k) (All-member (λ (row : Row). IsStrictlyIncreasing row.places) r.0 rows rising r.1) l r.2
