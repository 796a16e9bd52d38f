-- Links behind the links of a history, and behind their basis.
use Rattle.std.specs.List.{list_all}
use Rattle.std.proofs.Common.{◌≡◌, ℕ, ◌⊎◌, Bool, true, false, cond, ◌&&◌, List, [], ◌∷◌, ◌++◌, length, take, find, fold, ℤ, None, is_some, refl, sym, ap, ◌∙◌, arith, append_assoc, append-nil, length-append, inl, inr}
use Rattle.std.proofs.lemmas.Bool.{and_parts}
use Rattle.std.proofs.lemmas.List.Sums.{fold-append}
use Rattle.cube_model.specs.declared.link.Link.{Link}
use Rattle.cube_model.specs.Cubes.{IsIn, count_from}
use Rattle.cube_model.specs.Links.{suits_link, suiting, follows, basis}
use Rattle.cube_model.specs.LinkLaws.{Suits, SuitsAll}
use Rattle.cube_model.specs.Verdicts.{fixed_by, first_stop}
use Rattle.cube_model.proofs.Alike.{with_more, suiting_alike, pointwise}
use Rattle.cube_model.proofs.Boxes.{IsIn-take}
use Rattle.cube_model.proofs.Compacts.{kept_more}
use Rattle.cube_model.proofs.LinkFacts.{basis_suits, follows_is}
use Rattle.cube_model.proofs.Members.{append_left, IsIn-append}
use Rattle.cube_model.proofs.Parities.{all_at}

-- ---- the same lists suit links and their basis

basis_suiting : (n : ℕ) (ls : List Link) → suiting n (basis n ls) ≡ suiting n ls
basis_suiting n ls = suiting_alike n ls (basis n ls) (basis_suits n ls)

pub more_suiting : (n : ℕ) (ls more : List Link) → suiting n (basis n ls ++ more) ≡ suiting n (ls ++ more)
more_suiting n ls more = suiting_alike n (ls ++ more) (basis n ls ++ more) (with_more n ls (basis n ls) more (basis_suits n ls))

pub follows_basis : (n : ℕ) (ls : List Link) → follows n (basis n ls) ≡ follows n ls
follows_basis n ls = pointwise (λ l. ap (list_all (λ xs. suits_link xs l)) (basis_suiting n ls))

pub stop_basis : (n : ℕ) (guards : List ℕ) (ls others : List Link) → first_stop n guards (basis n ls) others ≡ first_stop n guards ls others
stop_basis n guards ls others = ap (λ (test : ℕ → Bool). find test (count_from 1 (length others))) (pointwise (λ k. ap (λ (lists : List (List ℤ)). is_some (fixed_by lists guards)) (more_suiting n ls (take k others))))

-- ---- a basis with more links

-- it only grows
pub grows : (n : ℕ) (kept others : List Link) → (more : List Link) × (fold (kept_more n) kept others ≡ kept ++ more)
unfolding kept_more
grows n kept [] = ([], sym (append-nil kept))
grows n kept (l ∷ ls) = go (follows n kept l) (grows n kept ls) (grows n (kept ++ l ∷ []) ls)
  where
    go : (b : Bool) → (more : List Link) × (fold (kept_more n) kept ls ≡ kept ++ more) → (more : List Link) × (fold (kept_more n) (kept ++ l ∷ []) ls ≡ (kept ++ l ∷ []) ++ more)
        → (more : List Link) × (fold (kept_more n) (cond b kept (kept ++ l ∷ [])) ls ≡ kept ++ more)
    go true same grown = same
    go false same grown = (l ∷ grown.0, grown.1 ∙ append_assoc kept (l ∷ []) grown.0)

-- it stays where each link follows, and only there
pub stays_where : (n : ℕ) (kept others : List Link) → length (fold (kept_more n) kept others) ≡ length kept → list_all (follows n kept) others ≡ true
unfolding kept_more
stays_where n kept [] e = refl
stays_where n kept (l ∷ ls) e = go (follows n kept l) (stays_where n kept ls) (grows n (kept ++ l ∷ []) ls) e
  where
    go : (b : Bool) → (length (fold (kept_more n) kept ls) ≡ length kept → list_all (follows n kept) ls ≡ true) → (more : List Link) × (fold (kept_more n) (kept ++ l ∷ []) ls ≡ (kept ++ l ∷ []) ++ more)
        → length (fold (kept_more n) (cond b kept (kept ++ l ∷ [])) ls) ≡ length kept → (b && list_all (follows n kept) ls) ≡ true
    go true again grown e = again e
    go false again grown e =
        let long : length ((kept ++ l ∷ []) ++ grown.0) ≡ length kept = ap length (sym grown.1) ∙ e in
        absurd (omega (arith, simp length-append at long))

pub follows_stay : (n : ℕ) (kept others : List Link) → list_all (follows n kept) others ≡ true → fold (kept_more n) kept others ≡ kept
unfolding kept_more
follows_stay n kept [] e = refl
follows_stay n kept (l ∷ ls) e =
    let both = and_parts (follows n kept l) (list_all (follows n kept) ls) e in
    ap (λ (b : Bool). fold (kept_more n) (cond b kept (kept ++ l ∷ [])) ls) both.0 ∙ follows_stay n kept ls both.1

-- a basis with more links begins with the basis
pub basis_more : (n : ℕ) (ls others : List Link) → basis n (ls ++ others) ≡ fold (kept_more n) (basis n ls) others
unfolding kept_more
basis_more n ls others = fold-append (kept_more n) [] ls others

-- ---- where each link follows, nothing new is fixed

follows_alike : (n : ℕ) (kept others : List Link) → list_all (follows n kept) others ≡ true → (k : ℕ) → suiting n (kept ++ take k others) ≡ suiting n kept
follows_alike n kept others e k = suiting_alike n kept (kept ++ take k others) (λ xs. (back xs, there xs))
  where
    there : (xs : List ℤ) → SuitsAll n kept xs → SuitsAll n (kept ++ take k others) xs
    there xs s = record {
      long = s.long;
      small = s.small;
      all = λ l h. by xs s l (IsIn-append l kept (take k others) h);
    }
      where
        by : (xs : List ℤ) → SuitsAll n kept xs → (l : Link) → IsIn l kept ⊎ IsIn l (take k others) → Suits xs l
        by xs s l (inl h) = s.all l h
        by xs s l (inr h) = (follows_is n kept l).0 (all_at (follows n kept) l others e (IsIn-take k l others h)) xs s

    back : (xs : List ℤ) → SuitsAll n (kept ++ take k others) xs → SuitsAll n kept xs
    back xs s = record { long = s.long; small = s.small; all = λ l h. s.all l (append_left l kept (take k others) h) }

find_nothing : (test : ℕ → Bool) (xs : List ℕ) → ((k : ℕ) → test k ≡ false) → find test xs ≡ None
find_nothing test [] h = refl
find_nothing test (x ∷ xs) h = rw (h x) (find_nothing test xs h)

pub follows_no_stop : (n : ℕ) (guards : List ℕ) (kept others : List Link) → fixed_by (suiting n kept) guards ≡ None → list_all (follows n kept) others ≡ true → first_stop n guards kept others ≡ None
follows_no_stop n guards kept others free e =
    find_nothing (λ k. is_some (fixed_by (suiting n (kept ++ take k others)) guards)) (count_from 1 (length others))
    (λ k. ap (λ (lists : List (List ℤ)). is_some (fixed_by lists guards)) (follows_alike n kept others e k) ∙ ap is_some free)
