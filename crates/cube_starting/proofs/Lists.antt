-- Lists, item by item.
use Rattle.std.proofs.Common.{◌≡◌, ◌≤◌, ◌-◌, refl, ap, ap₂, subst, ℕ, suc, List, [], ◌∷◌, ◌++◌, length, map, take, drop, get_or, inl, inr, arith}
use Rattle.std.proofs.lemmas.List.{take_all}
use Rattle.cube_model.specs.Cubes.{IsIn, Each}
use Rattle.cube_starting.specs.Grouping.{AllOf}

pub head_alike : {X : Type 0} {x y : X} {xs ys : List X} → (x ∷ xs) ≡ (y ∷ ys) → x ≡ y
head_alike e = cc

pub tail_alike : {X : Type 0} {x y : X} {xs ys : List X} → (x ∷ xs) ≡ (y ∷ ys) → xs ≡ ys
tail_alike e = cc

-- a list that has a first item
pub first_and_rest : {X : Type 0} (list : List X) (f : X) → 1 ≤ length list → f ≡ get_or list 0 f → f ∷ take (length list - 1) (drop 1 list) ≡ list
first_and_rest [] f some is = absurd (omega (arith, some))
first_and_rest (x ∷ xs) f some is = ap₂ (λ y ys. y ∷ ys) is (take_all (length (x ∷ xs) - 1) xs (omega arith))

-- ---- what holds of each

pub each_in : {X : Type 0} (P : X → Type 0) (xs : List X) → ((x : X) → IsIn x xs → P x) → Each P xs
each_in P [] h = tt
each_in P (x ∷ xs) h = (h x (inl refl), each_in P xs (λ y k. h y (inr k)))

pub each_at : {X : Type 0} (P : X → Type 0) (xs : List X) (x : X) → Each P xs → IsIn x xs → P x
each_at P [] x a k = absurd k
each_at P (y ∷ xs) x a (inl e) = subst P e a.0
each_at P (y ∷ xs) x a (inr k) = each_at P xs x a.1 k

pub each_map : {X Y : Type 0} (P : Y → Type 0) (f : X → Y) (xs : List X) → Each (λ x. P (f x)) xs → Each P (map f xs)
each_map P f [] a = tt
each_map P f (x ∷ xs) a = (a.0, each_map P f xs a.1)

pub each_both : {X : Type 0} (P Q R : X → Type 0) (xs : List X) → ((x : X) → P x → Q x → R x) → Each P xs → Each Q xs → Each R xs
each_both P Q R [] f a b = tt
each_both P Q R (x ∷ xs) f a b = (f x a.0 b.0, each_both P Q R xs f a.1 b.1)

pub all_map : {X Y : Type 0} (P : ℕ → Y → Type 0) (f : X → Y) (k : ℕ) (xs : List X) → AllOf (λ n x. P n (f x)) k xs → AllOf P k (map f xs)
all_map P f k [] a = tt
all_map P f k (x ∷ xs) a = (a.0, all_map P f (suc k) xs a.1)

-- ---- maps

pub map_twice : {X Y Z : Type 0} (f : X → Y) (g : Y → Z) (h : X → Z) (xs : List X) → ((x : X) → g (f x) ≡ h x) → map g (map f xs) ≡ map h xs
map_twice f g h [] e = refl
map_twice f g h (x ∷ xs) e = ap₂ (λ z zs. z ∷ zs) (e x) (map_twice f g h xs e)

pub map_append : {X Y : Type 0} (f : X → Y) (xs ys : List X) → map f (xs ++ ys) ≡ map f xs ++ map f ys
map_append f [] ys = refl
map_append f (x ∷ xs) ys = ap (λ zs. f x ∷ zs) (map_append f xs ys)

pub map_at : {X Y : Type 0} (f g : X → Y) (xs : List X) (x : X) → map f xs ≡ map g xs → IsIn x xs → f x ≡ g x
map_at f g [] x e k = absurd k
map_at f g (y ∷ xs) x e (inl is) = subst (λ z. f z ≡ g z) is (head_alike e)
map_at f g (y ∷ xs) x e (inr k) = map_at f g xs x (tail_alike e) k

pub at_seam : {X Y : Type 0} (f g : X → Y) (front back : List X) (x : X) → map f (front ++ x ∷ back) ≡ map g (front ++ x ∷ back) → f x ≡ g x
at_seam f g [] back x e = head_alike e
at_seam f g (y ∷ front) back x e = at_seam f g front back x (tail_alike e)
