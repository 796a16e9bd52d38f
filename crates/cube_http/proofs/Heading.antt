-- Texts written one behind another.
use Rattle.std.proofs.Common.{◌≡◌, ℕ, List, ◌++◌, refl}

-- six texts, each told as another that is the same
pub six_texts : (u v w x y z a b c d e f a' b' c' d' e' f' : List ℕ) → u ≡ a' → v ≡ u ++ b' → w ≡ v ++ c' → x ≡ w ++ d' → y ≡ x ++ e' → z ≡ y ++ f' → a' ≡ a → b' ≡ b → c' ≡ c → d' ≡ d → e' ≡ e → f' ≡ f
    → z ≡ ((((a ++ b) ++ c) ++ d) ++ e) ++ f
six_texts u v w x y z a b c d e f a' b' c' d' e' f' pu pv pw px py pz pa pb pc pd pe pf = rw (pz, py, px, pw, pv, pu, pa, pb, pc, pd, pe, pf) refl
