-- The worked run in which the journal fails for the first of two asks.
use Rattle.std.proofs.Common.{◌≡◌, ◌⊎◌, inl, inr, ⊎_elim, ℕ, List, [], ◌∷◌, ◌++◌, refl, sym, ◌∙◌, subst, append-nil}
use Rattle.cube_model.specs.Cubes.{Each, IsIn}
use Rattle.cube_model.specs.Rooms.{Room}
use Rattle.cube_io.specs.Desks.{LeavesOf, LeavesAll}
use Rattle.cube_io.specs.States.{State, IsImage, settled}
use Rattle.cube_server.specs.Crashes.{IsInHand}
use Rattle.cube_server.specs.Failing.{Gives, enters, failed_first, half, kept, log_before, log_behind}

pub never_both : (r : Room) → IsInHand (enters r) [] failed_first (r ∷ r ∷ r ∷ []) → ⊥
never_both r (inl e) = cc
never_both r (inr (inl (found, e))) = cc
never_both r (inr (inr (inl e))) = cc
never_both r (inr (inr (inr (inl (found, e))))) = cc
never_both r (inr (inr (inr (inr e)))) = cc

-- ---- what a crash leaves of each state

none_of : (xs ys : List ℕ) → [] ≡ xs ++ ys → xs ≡ []
none_of [] ys e = refl
none_of (x ∷ xs) ys e = cc

one_of : (n : ℕ) (xs ys : List ℕ) → n ∷ [] ≡ xs ++ ys → (xs ≡ []) ⊎ (xs ≡ n ∷ [])
one_of n [] ys e = inl refl
one_of n (x ∷ []) ys e = inr (same x e)
  where
    same : (x : ℕ) → n ∷ [] ≡ x ∷ ys → x ∷ [] ≡ n ∷ []
    same x e = cc
one_of n (x ∷ y ∷ xs) ys e = cc

image_settled : (bytes left : List ℕ) → IsImage (settled bytes) left → left ≡ bytes
image_settled bytes left i = by i.is_tail
  where
    by : IsIn (i.kept ++ i.lost) ([] ∷ []) → left ≡ bytes
    by (inl e) = i.whole ∙ subst (λ (l : List ℕ). bytes ++ l ≡ bytes) (sym (none_of i.kept i.lost e)) (append-nil bytes)
    by (inr e) = absurd e

image_half : (n : ℕ) (left : List ℕ) → IsImage (half n) left → (left ≡ []) ⊎ (left ≡ n ∷ [])
image_half n left i = by i.is_tail
  where
    by : IsIn (i.kept ++ i.lost) ([] ∷ (n ∷ []) ∷ []) → (left ≡ []) ⊎ (left ≡ n ∷ [])
    by (inl e) = inl (i.whole ∙ none_of i.kept i.lost e)
    by (inr (inl e)) = ⊎_elim (λ none. inl (i.whole ∙ none)) (λ one. inr (i.whole ∙ one)) (one_of n i.kept i.lost e)
    by (inr (inr e)) = absurd e

-- ---- the run

module _ (r : Room) where
  abbrev these : List Room → Type 0
  these here = IsInHand (enters r) [] failed_first here

  abbrev Left : List ℕ → Type 0
  Left bytes = (here : List Room) × these here × Gives r here bytes

  nothing : (bytes : List ℕ) → bytes ≡ [] → Left bytes
  nothing bytes e = ([], inl refl, inl (refl, e))

  first : (bytes : List ℕ) → bytes ≡ 1 ∷ [] → Left bytes
  first bytes e = (r ∷ [], inr (inl ((λ k. cc), refl)), inr (inl (refl, e)))

  second : (bytes : List ℕ) → bytes ≡ 2 ∷ [] → Left bytes
  second bytes e = (r ∷ r ∷ [], inr (inr (inr (inl ((λ k. cc), refl)))), inr (inr (refl, e)))

  in_first : LeavesOf (Gives r) these log_before.state (half 1)
  in_first bytes image = inr (⊎_elim (λ e. nothing bytes e) (λ e. first bytes e) (image_half 1 bytes image))

  in_second : LeavesOf (Gives r) these log_before.state (half 2)
  in_second bytes image = inr (⊎_elim (λ e. nothing bytes e) (λ e. second bytes e) (image_half 2 bytes image))

  at_last : LeavesOf (Gives r) these log_before.state (settled (2 ∷ []))
  at_last bytes image = inr (second bytes (image_settled (2 ∷ []) bytes image))

  pub leaves_these : LeavesAll (Gives r) these log_before log_behind
  leaves_these = record {
    passed = record {
      states = half 1 ∷ settled [] ∷ half 2 ∷ settled (2 ∷ []) ∷ [];
      trail = refl;
      each = (in_first, ((λ bytes image. inl image), (in_second, (at_last, tt))));
    };
    last = at_last;
  }

  -- of the second ask alone this is not true: the request of the first was left by itself
  one_alone : (here : List Room) → IsInHand (enters r) [] (kept ∷ []) here → Gives r here (1 ∷ []) → ⊥
  one_alone here i (inl (e, bytes)) = cc
  one_alone here (inl e) (inr (inl (is, bytes))) = different (sym is ∙ e)
    where
      different : r ∷ [] ≡ [] → ⊥
      different k = cc
  one_alone here (inr (inl (found, e))) (inr (inl (is, bytes))) = different (sym is ∙ e)
    where
      different : r ∷ [] ≡ r ∷ r ∷ [] → ⊥
      different k = cc
  one_alone here (inr (inr e)) (inr (inl (is, bytes))) = different (sym is ∙ e)
    where
      different : r ∷ [] ≡ r ∷ r ∷ [] → ⊥
      different k = cc
  one_alone here i (inr (inr (is, bytes))) = different bytes
    where
      different : ◌≡◌ {A = List ℕ} (1 ∷ []) (2 ∷ []) → ⊥
      different k = cc

  not_before : IsImage log_before.state (1 ∷ []) → ⊥
  not_before i = different (image_settled [] (1 ∷ []) i)
    where
      different : ◌≡◌ {A = List ℕ} (1 ∷ []) [] → ⊥
      different k = cc

  pub leaves_more : LeavesAll (Gives r) (IsInHand (enters r) [] (kept ∷ [])) log_before log_behind → ⊥
  leaves_more l =
      let each = subst (λ (states : List State). Each (LeavesOf (Gives r) (IsInHand (enters r) [] (kept ∷ [])) log_before.state) states) (sym l.passed.trail) l.passed.each in
      ⊎_elim (λ before. not_before before) (λ x. one_alone x.0 x.1 x.2) (each.0 (1 ∷ []) (record { kept = 1 ∷ []; lost = []; is_tail = inr (inl refl); whole = refl }))
