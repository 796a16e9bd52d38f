-- What a twin answers.
use Rattle.std.proofs.Common.{◌≡◌, ◌≢◌, ℕ, ◌<◌, inl, inr, true, List, [], ◌∷◌, length, map, filter, ℤ, pos, ◌+ℤ◌, refl, sym, ap, ap₂, ◌∙◌, subst, arith, get_or-set_other, get_or-set_same, ⊎_elim}
use Rattle.std.proofs.lemmas.Bool.{cases_eq, eq-eqb}
use Rattle.std.proofs.lemmas.Int.{ints}
use Rattle.cube_model.specs.declared.answer.AnswerRow.{AnswerRow}
use Rattle.cube_model.specs.declared.answer.Row.{Row}
use Rattle.cube_model.specs.declared.request.Request.{Request}
use Rattle.cube_model.specs.declared.request.What.{What}
use Rattle.cube_model.specs.declared.request.What.TheVariants.{Count, Measure}
use Rattle.cube_model.specs.Cubes.{Public, World, places, IsIn}
use Rattle.cube_model.specs.Requests.{values, summed, answer, row_keys, row_at, in_row, total, asks, is_measure}
use Rattle.cube_model.specs.Twins.{added, twin}
use Rattle.cube_model.proofs.Sums.{total-added}

pub map_alike : {X Y : Type 0} (f g : X → Y) (xs : List X) → ((x : X) → IsIn x xs → f x ≡ g x) → map f xs ≡ map g xs
map_alike f g [] h = refl
map_alike f g (x ∷ xs) h = ap₂ (λ a b. a ∷ b) (h x (inl refl)) (map_alike f g xs (λ y k. h y (inr k)))

map_map : {X Y Z : Type 0} (f : Y → Z) (g : X → Y) (xs : List X) → map f (map g xs) ≡ map (λ x. f (g x)) xs
map_map f g [] = refl
map_map f g (x ∷ xs) = ap (λ b. f (g x) ∷ b) (map_map f g xs)

pub values_twin : (w : World) (m : ℕ) (ch : List ℤ) → m < length w.cube → values (twin w m ch) m ≡ added (values w m) ch
values_twin w m ch h = get_or-set_same w.cube m (added (values w m) ch) [] h

pub values_other : (w : World) (m k : ℕ) (ch : List ℤ) → k ≢ m → values (twin w m ch) k ≡ values w k
values_other w m k ch h = get_or-set_other w.cube m k (added (values w m) ch) [] h

-- sums that the changes leave are the same in the twin
total_twin : (w : World) (m : ℕ) (ch : List ℤ) (is : List ℕ) → m < length w.cube → length (values w m) ≡ length ch → total ch is ≡ pos 0 → total (values (twin w m ch) m) is ≡ total (values w m) is
total_twin w m ch is h e z =
    let a : total (added (values w m) ch) is ≡ total (values w m) is +ℤ total ch is = total-added (values w m) ch is e in
    ap (λ vs. total vs is) (values_twin w m ch h) ∙ a ∙ ap (λ x. total (values w m) is +ℤ x) z ∙ plus_zero (total (values w m) is)
  where
    plus_zero : (x : ℤ) → x +ℤ pos 0 ≡ x
    plus_zero x = omega (arith, ints)

pub sum_twin : (w : World) (m : ℕ) (ch : List ℤ) (is : List ℕ) → m < length w.cube → length (values w m) ≡ length ch → total ch is ≡ pos 1 → total (values (twin w m ch) m) is ≡ total (values w m) is +ℤ pos 1
sum_twin w m ch is h e z =
    let a : total (added (values w m) ch) is ≡ total (values w m) is +ℤ total ch is = total-added (values w m) ch is e in
    ap (λ vs. total vs is) (values_twin w m ch h) ∙ a ∙ ap (λ x. total (values w m) is +ℤ x) z

-- the changes leave each row of the request
abbrev pub IsBalanced : Public → List ℤ → Request → Type 0
IsBalanced g ch r = (key : List ℕ) → IsIn key (row_keys g r) → total ch (filter (in_row g r key) (places g)) ≡ pos 0

total_what : (w : World) (m : ℕ) (ch : List ℤ) (is : List ℕ) (what : What) → m < length w.cube → length (values w m) ≡ length ch → (is_measure m what ≡ true → total ch is ≡ pos 0) → total (summed (twin w m ch) what) is ≡ total (summed w what) is
total_what w m ch is Count h e b = refl
total_what w m ch is (Measure k) h e b = ⊎_elim
    (λ (km : k ≡ m). subst (λ n. total (values (twin w m ch) n) is ≡ total (values w n) is) (sym km) (total_twin w m ch is h e (b (eq-eqb k m km))))
    (λ ne. ap (λ vs. total vs is) (values_other w m k ch ne))
    (cases_eq k m)

line : World → Request → Row → AnswerRow
line v r row = record { key = row.key; sum = total (summed v r.what) row.places }

-- a request whose rows the changes leave has one answer in both
pub answer_twin : (w : World) (m : ℕ) (ch : List ℤ) (r : Request) → m < length w.cube → length (values w m) ≡ length ch → (asks m r ≡ true → IsBalanced w.shown ch r) → answer (twin w m ch) r ≡ answer w r
unfolding line
answer_twin w m ch r h e b =
    map_map (line (twin w m ch) r) (row_at w.shown r) (row_keys w.shown r)
    ∙ map_alike _ _ (row_keys w.shown r) (λ key k. ap (row_of key) (total_what w m ch (filter (in_row w.shown r key) (places w.shown)) r.what h e (λ a. b a key k)))
    ∙ sym (map_map (line w r) (row_at w.shown r) (row_keys w.shown r))
  where
    row_of : List ℕ → ℤ → AnswerRow
    row_of key x = record { key = key; sum = x }
