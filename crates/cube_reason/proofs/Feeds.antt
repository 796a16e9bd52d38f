-- Texts without some byte, and where a text is cut at one.
use Rattle.std.specs.List.{list_all, list_any, flat_map}
use Rattle.std.specs.Prelude.{codes}
use Rattle.std.specs.Fmt.{decimal}
use Rattle.std.proofs.Common.{◌≡◌, ◌≢◌, ℕ, ◌+◌, ◌^◌, ◌<◌, ◌%◌, Bool, true, false, cond, not, ◌||◌, ◌==◌, List, [], ◌∷◌, ◌++◌, refl, sym, ap, ap₂, ◌∙◌, subst, arith}
use Rattle.std.proofs.lemmas.Bool.{false≢true, and_parts, eq-eqb}
use Rattle.std.proofs.lemmas.Fmt.{decimal_by_steps}
use Rattle.cube_model.specs.Cubes.{Each}
use Rattle.cube_model.specs.Names.{is_control}
use Rattle.cube_text.specs.Quoting.{is_bare_name, is_marked, spelled, quoted, printed}
use Rattle.cube_query.specs.Canonical.{behind}

abbrev pub Lacks : ℕ → List ℕ → Type 0
Lacks b xs = Each (λ x. x ≢ b) xs

pub lacks_more : (b : ℕ) (x y : List ℕ) → Lacks b x → Lacks b y → Lacks b (x ++ y)
lacks_more b [] y f g = g
lacks_more b (c ∷ x) y f g = (f.0, lacks_more b x y f.1 g)

lacks_not : (b : ℕ) (y t : List ℕ) → Lacks b (y ++ b ∷ t) → ⊥
lacks_not b [] t f = f.0 refl
lacks_not b (c ∷ y) t f = lacks_not b y t f.1

-- what stands before and behind the first such byte
pub cut_first : (b : ℕ) (x y s t : List ℕ) → Lacks b x → Lacks b y → x ++ b ∷ s ≡ y ++ b ∷ t → (x ≡ y) × (s ≡ t)
cut_first b [] [] s t f g e = let k : s ≡ t = cc in (refl, k)
cut_first b [] (c ∷ y) s t f g e = let k : c ≡ b = cc in absurd (g.0 k)
cut_first b (c ∷ x) [] s t f g e = let k : c ≡ b = cc in absurd (f.0 k)
cut_first b (c ∷ x) (d ∷ y) s t f g e =
    let k : c ≡ d = cc in
    let l : x ++ b ∷ s ≡ y ++ b ∷ t = cc in
    let more = cut_first b x y s t f.1 g.1 l in
    (ap₂ (λ h u. h ∷ u) k more.0, more.1)

-- what stands before and behind the last such byte
pub cut_last : (b : ℕ) (x y s t : List ℕ) → Lacks b s → Lacks b t → x ++ b ∷ s ≡ y ++ b ∷ t → (x ≡ y) × (s ≡ t)
cut_last b [] [] s t f g e = let k : s ≡ t = cc in (refl, k)
cut_last b [] (c ∷ y) s t f g e = let k : s ≡ y ++ b ∷ t = cc in absurd (lacks_not b y t (subst (Lacks b) k f))
cut_last b (c ∷ x) [] s t f g e = let k : t ≡ x ++ b ∷ s = cc in absurd (lacks_not b x s (subst (Lacks b) k g))
cut_last b (c ∷ x) (d ∷ y) s t f g e =
    let k : c ≡ d = cc in
    let l : x ++ b ∷ s ≡ y ++ b ∷ t = cc in
    let more = cut_last b x y s t f g l in
    (ap₂ (λ h u. h ∷ u) k more.0, more.1)

-- a text of which this can be computed
pub lacks_by : (b : ℕ) (xs : List ℕ) → list_all (λ x. not (x == b)) xs ≡ true → Lacks b xs
lacks_by b [] e = tt
lacks_by b (x ∷ xs) e =
    let p = and_parts (not (x == b)) (list_all (λ x. not (x == b)) xs) e in
    ((λ is. false≢true (sym (ap not (eq-eqb x b is)) ∙ p.0)), lacks_by b xs p.1)

-- digits are above many bytes
pub decimal_lacks : (b n : ℕ) → b < 48 → n < 2 ^ 64 → Lacks b (decimal n)
decimal_lacks b n low small = decimal_by_steps (λ m ds. Lacks b ds)
    (λ m one. ((λ is. absurd (omega (arith, low, is))), tt))
    (λ m ds many more. lacks_more b ds ((48 + m % 10) ∷ []) more ((λ is. absurd (omega (arith, low, is))), tt))
    n small

-- ---- names

no_control : (x : ℕ) → is_control x ≡ false → x ≢ 10
no_control x e is = let f : is_control 10 ≡ false = subst (λ n. is_control n ≡ false) is e in false≢true (sym f)

clean_name : (x : List ℕ) → list_any is_control x ≡ false → Lacks 10 x
clean_name [] e = tt
clean_name (b ∷ x) e = go (is_control b) refl e (clean_name x)
  where
    go : (t : Bool) → is_control b ≡ t → (t || list_any is_control x) ≡ false → (list_any is_control x ≡ false → Lacks 10 x) → Lacks 10 (b ∷ x)
    go true is f more = absurd (false≢true (sym f))
    go false is f more = (no_control b is, more f)

spelled_lacks : (b : ℕ) → b ≢ 10 → Lacks 10 (spelled b)
spelled_lacks b ne = go (is_marked b)
  where
    go : (t : Bool) → Lacks 10 (cond t (92 ∷ b ∷ []) (b ∷ []))
    go true = ((λ is. absurd (omega (arith, is))), (ne, tt))
    go false = (ne, tt)

all_spelled : (x : List ℕ) → Lacks 10 x → Lacks 10 (flat_map spelled x)
all_spelled [] f = tt
all_spelled (b ∷ x) f = lacks_more 10 (spelled b) (flat_map spelled x) (spelled_lacks b f.0) (all_spelled x f.1)

pub printed_lacks : (x : List ℕ) → list_any is_control x ≡ false → Lacks 10 (printed x)
printed_lacks x e = go (is_bare_name x) (clean_name x e)
  where
    go : (t : Bool) → Lacks 10 x → Lacks 10 (cond t x (quoted x))
    go true f = f
    go false f = ((λ is. absurd (omega (arith, is))), lacks_more 10 (flat_map spelled x) (34 ∷ []) (all_spelled x f) ((λ is. absurd (omega (arith, is))), tt))

pub behind_lacks : (w : List ℕ) (texts : List (List ℕ)) → Lacks 10 w → Each (Lacks 10) texts → Lacks 10 (behind w texts)
behind_lacks w [] f each = tt
behind_lacks w (x ∷ xs) f each = lacks_more 10 (w ++ x) (behind (codes ", ") xs) (lacks_more 10 w x f each.0) (behind_lacks (codes ", ") xs (lacks_by 10 (codes ", ") refl) each.1)
