-- Keys in order, with one more key behind them.
use Rattle.std.proofs.Common.{◌≡◌, ◌⊎◌, inl, inr, ℕ, List, [], ◌∷◌, ◌++◌}
use Rattle.cube_model.specs.Cubes.{with_key, in_order, IsIn}
use Rattle.cube_model.proofs.Boxes.{same_increasing}
use Rattle.cube_model.proofs.Members.{IsIn-append, append_left, append_right, IsIn-in_order}
use Rattle.cube_model.proofs.Orders.{in_order_has, in_order_increasing}

-- a key behind others is as one before them
pub in_order_behind : (ks : List (List ℕ)) (k : List ℕ) → in_order (ks ++ k ∷ []) ≡ with_key k (in_order ks)
in_order_behind ks k = same_increasing (in_order (ks ++ k ∷ [])) (in_order (k ∷ ks)) (in_order_increasing (ks ++ k ∷ [])) (in_order_increasing (k ∷ ks))
    (λ z h. in_order_has z (k ∷ ks) (forth z (IsIn-append z ks (k ∷ []) (IsIn-in_order z (ks ++ k ∷ []) h))))
    (λ z h. in_order_has z (ks ++ k ∷ []) (back z (IsIn-in_order z (k ∷ ks) h)))
  where
    forth : (z : List ℕ) → IsIn z ks ⊎ IsIn z (k ∷ []) → IsIn z (k ∷ ks)
    forth z (inl h) = inr h
    forth z (inr (inl e)) = inl e
    forth z (inr (inr h)) = absurd h

    back : (z : List ℕ) → IsIn z (k ∷ ks) → IsIn z (ks ++ k ∷ [])
    back z (inl e) = append_right z ks (k ∷ []) (inl e)
    back z (inr h) = append_left z ks (k ∷ []) h
