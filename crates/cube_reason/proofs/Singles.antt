-- Places alone, a tie further.
use Rattle.std.proofs.Common.{◌≡◌, ℕ, zero, suc, ◌+◌, ◌<◌, ◌⊎◌, inl, inr, List, [], ◌∷◌, ◌++◌, length, replicate, set, take, get_or, Option, Some, None, is_some, refl, sym, ap, ◌∙◌, subst, arith, ⊎_elim, get_or-set_other, get_or-set_same}
use Rattle.std.proofs.lemmas.List.{take_more}
use Rattle.std.proofs.Math.ListN.{length-set}
use Rattle.cube_model.specs.declared.link.Link.{Link}
use Rattle.cube_model.specs.declared.link.Link.TheVariants.{Pair, Single}
use Rattle.cube_model.specs.LinkLaws.{IsOfPlaces}
use Rattle.cube_model.proofs.Members.{IsIn-append, append_left, append_right}
use Rattle.cube_reason.specs.Found.{set_if, set_single, AreSingles}
use Rattle.cube_reason.specs.Tied.{tied}
use Rattle.cube_reason.specs.declared.ties.Bringer.{Bringer}
use Rattle.cube_reason.specs.declared.ties.Tie.{Tie}

abbrev nothing : Option Bringer
nothing = None

none_at : (n a : ℕ) → get_or (replicate n nothing) a None ≡ None
none_at zero a = refl
none_at (suc n) zero = refl
none_at (suc n) (suc a) = none_at n a

none_long : (n : ℕ) → length (replicate n nothing) ≡ n
none_long zero = refl
none_long (suc n) = ap suc (none_long n)

pub singles_start : (n : ℕ) (singles : List (Option Bringer)) → singles ≡ replicate n nothing → AreSingles n [] singles
singles_start n singles e = record {
  long = ap length e ∙ none_long n;
  sound = λ a b l s. absurd (neither (get_or singles a None) (ap (λ xs. get_or xs a None) e ∙ none_at n a) b s);
  complete = λ a b k. absurd k;
}
  where
    neither : (o : Option Bringer) → o ≡ None → (b : Bringer) → o ≡ Some b → ⊥
    neither o x b y = cc

equal_or : (a b : ℕ) → (a ≡ b) ⊎ (a ≡ b → ⊥)
equal_or zero zero = inl refl
equal_or zero (suc b) = inr (λ e. absurd (omega (arith, e)))
equal_or (suc a) zero = inr (λ e. absurd (omega (arith, e)))
equal_or (suc a) (suc b) = ⊎_elim (λ e. inl (ap suc e)) (λ d. inr (λ e. d (omega (arith, e)))) (equal_or a b)

pub singles_more : (n i : ℕ) (ties : List Tie) (d : Tie) (singles more : List (Option Bringer)) → i < length ties → IsOfPlaces n (get_or ties i d).link → more ≡ set_single singles (get_or ties i d) → AreSingles n (take i ties) singles → AreSingles n (take (i + 1) ties) more
singles_more n i ties d singles more l of_places is s = subst (λ ts. AreSingles n ts more) (sym (take_more ties i d l)) (subst (AreSingles n (take i ties ++ get_or ties i d ∷ [])) (sym is) (go (get_or ties i d).link (get_or ties i d).by of_places))
  where
    go : (k : Link) (b : Bringer) → IsOfPlaces n k → AreSingles n (take i ties ++ tied k b ∷ []) (set_if singles k b)
    go (Pair x y) b p = record {
      long = s.long;
      sound = λ a c lt e. append_left (tied (Single a) c) (take i ties) (tied (Pair x y) b ∷ []) (s.sound a c lt e);
      complete = λ a c k. ⊎_elim (λ z. s.complete a c z) (λ z. ⊎_elim (λ e. absurd (differ x y a (ap (λ (t : Tie). t.link) e))) (λ z. absurd z) z) (IsIn-append (tied (Single a) c) (take i ties) (tied (Pair x y) b ∷ []) k);
    }
      where
        differ : (x y a : ℕ) → Pair x y ≡ Single a → ⊥
        differ x y a e = cc
    go (Single x) b p = record {
      long = length-set singles x (Some b) ∙ s.long;
      sound = λ a c lt e. ⊎_elim
          (λ q. append_right (tied (Single a) c) (take i ties) (tied (Single x) b ∷ []) (inl (there a c q (at_same a q) e)))
          (λ q. append_left (tied (Single a) c) (take i ties) (tied (Single x) b ∷ []) (s.sound a c lt (sym (at_other a q) ∙ e)))
          (equal_or x a);
      complete = λ a c k. ⊎_elim
          (λ z. ⊎_elim (λ q. ap is_some (at_same a q)) (λ q. ap is_some (at_other a q) ∙ s.complete a c z) (equal_or x a))
          (λ z. ⊎_elim (λ e. ap is_some (at_same a (place_of x a (ap (λ (t : Tie). t.link) e)))) (λ z. absurd z) z)
          (IsIn-append (tied (Single a) c) (take i ties) (tied (Single x) b ∷ []) k);
    }
      where
        place_of : (x a : ℕ) → Single x ≡ Single a → x ≡ a
        place_of x a e = cc

        at_same : (a : ℕ) → x ≡ a → get_or (set singles x (Some b)) a None ≡ Some b
        at_same a q = let long = s.long in let lt : x < length singles = omega (arith, p, long) in subst (λ y. get_or (set singles x (Some b)) y None ≡ Some b) q (rw get_or-set_same refl)

        at_other : (a : ℕ) → (x ≡ a → ⊥) → get_or (set singles x (Some b)) a None ≡ get_or singles a None
        at_other a q = let ne : a ≡ x → ⊥ = λ e. q (sym e) in rw get_or-set_other refl

        there : (a : ℕ) (c : Bringer) → x ≡ a → get_or (set singles x (Some b)) a None ≡ Some b → get_or (set singles x (Some b)) a None ≡ Some c → tied (Single x) b ≡ tied (Single a) c
        there a c q u v = let e : b ≡ c = one (get_or (set singles x (Some b)) a None) u v in ap (λ y. tied (Single y) b) q ∙ ap (tied (Single a)) e
          where
            one : (o : Option Bringer) → o ≡ Some b → o ≡ Some c → b ≡ c
            one o u v = cc
