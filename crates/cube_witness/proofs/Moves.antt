-- The first place that a cell covers, and the entries of a list that are not 0.
use Rattle.std.specs.List.{All}
use Rattle.std.specs.Ordering.{int_eq}
use Rattle.std.proofs.Common.{zero, suc, inl, inr, subst, ◌≡◌, ℕ, ◌+◌, ◌<◌, Bool, true, false, cond, not, List, [], ◌∷◌, ◌++◌, length, map, filter, find, get_or, Some, None, ℤ, pos, refl, sym, ap, ◌∙◌, arith, append-nil}
use Rattle.std.proofs.lemmas.List.{map-append}
use Rattle.std.proofs.lemmas.List.Elements.{filter-append}
use Rattle.cube_model.specs.declared.cell.Cell.{Cell}
use Rattle.cube_model.specs.declared.change.Change.{Change}
use Rattle.cube_model.specs.declared.policy.Policy.{Policy}
use Rattle.cube_model.specs.Cores.{Core, shown}
use Rattle.cube_model.specs.Cubes.{covered, covers, places, key_at, count_from, IsIn}
use Rattle.cube_model.specs.Protection.{first}
use Rattle.cube_model.proofs.DimsFacts.{count_from-more}
use Rattle.cube_model.proofs.Members.{IsIn-map, IsIn-filter, IsIn-count_from}
use Rattle.cube_source.specs.Blocks.{bare}
use Rattle.cube_source.proofs.Steps.{first_number, no_number}
use Rattle.cube_witness.specs.Grounds.{moves_in}

-- ---- the first place

-- what a cell covers does not look at the policy
covered_shown : (core : Core) (p : Policy) (t : Cell) → covered (shown core p) t ≡ covered (bare core) t
unfolding key_at
covered_shown core p t = refl

first_kept : {X : Type 0} (test : X → Bool) (xs : List X) → first (filter test xs) ≡ find test xs
first_kept test [] = refl
first_kept test (x ∷ xs) = go (test x) (first_kept test xs)
  where
    go : (b : Bool) → first (filter test xs) ≡ find test xs → first (cond b (x ∷ filter test xs) (filter test xs)) ≡ cond b (Some x) (find test xs)
    go true again = refl
    go false again = again

pub is_first : (core : Core) (p : Policy) (t : Cell) (k : ℕ) → k < length core.shape.points → ((j : ℕ) → j < k → covers (bare core) t j ≡ false) → covers (bare core) t k ≡ true → Some k ≡ first (covered (shown core p) t)
is_first core p t k below none here = sym
    (ap first (covered_shown core p t) ∙ first_kept (covers (bare core) t) (places (bare core)) ∙ first_number (covers (bare core) t) 0 (length core.shape.points) k (omega arith) (omega (arith, below)) none here)

pub is_none : (core : Core) (p : Policy) (t : Cell) → ((j : ℕ) → j < length core.shape.points → covers (bare core) t j ≡ false) → None ≡ first (covered (shown core p) t)
is_none core p t none = sym
    (ap first (covered_shown core p t) ∙ first_kept (covers (bare core) t) (places (bare core)) ∙ no_number (covers (bare core) t) 0 (length core.shape.points) (λ j l. none j (omega (arith, l))))

-- ---- the moves

module _ (signs : List ℤ) where
  is_move : ℕ → Bool
  is_move p = not (int_eq (get_or signs p (pos 0)) (pos 0))

  move_at : ℕ → Change
  move_at p = record { place = p; by = get_or signs p (pos 0) }

  more : (n : ℕ) → moves_in signs (n + 1) ≡ moves_in signs n ++ map move_at (filter is_move (n ∷ []))
  unfolding is_move move_at
  more n =
      let e : 0 + n ≡ n = omega arith in
      let counted : count_from 0 (n + 1) ≡ count_from 0 n ++ n ∷ [] = rw e at (count_from-more 0 n) in
      ap (λ (ns : List ℕ). map move_at (filter is_move ns)) counted
      ∙ ap (map move_at) (filter-append is_move (count_from 0 n) (n ∷ []))
      ∙ map-append move_at (filter is_move (count_from 0 n)) (filter is_move (n ∷ []))

  pub no_more : (made new : List Change) (n : ℕ) (x : ℤ) (b : Bool) → x ≡ get_or signs n (pos 0) → b ≡ not (int_eq x (pos 0)) → b ≡ false → made ≡ moves_in signs n → new ≡ made → new ≡ moves_in signs (n + 1)
  unfolding is_move
  no_more made new n x b at test fails so_far same = same ∙ so_far
      ∙ sym (more n ∙ ap (λ (b : Bool). moves_in signs n ++ map move_at (cond b (n ∷ []) [])) (sym (ap (λ (y : ℤ). not (int_eq y (pos 0))) at) ∙ sym test ∙ fails) ∙ append-nil (moves_in signs n))

  pub one_more : (made pushed new : List Change) (n : ℕ) (x : ℤ) (b : Bool) (c : Change) → x ≡ get_or signs n (pos 0) → b ≡ not (int_eq x (pos 0)) → b ≡ true → made ≡ moves_in signs n → c ≡ record { place = n; by = x } → pushed ≡ made ++ c ∷ [] → new ≡ pushed → new ≡ moves_in signs (n + 1)
  unfolding is_move move_at
  one_more made pushed new n x b c at test other so_far is grown same = same ∙ grown ∙ ap (λ (ms : List Change). ms ++ c ∷ []) so_far ∙ ap (λ (x : Change). moves_in signs n ++ x ∷ []) (is ∙ ap (λ (y : ℤ). record { place = n; by = y }) at)
      ∙ sym (more n ∙ ap (λ (b : Bool). moves_in signs n ++ map move_at (cond b (n ∷ []) [])) (sym (ap (λ (y : ℤ). not (int_eq y (pos 0))) at) ∙ sym test ∙ other))

-- ---- places of moves

all_in : {X : Type 0} (P : X → Type 0) (xs : List X) → ((x : X) → IsIn x xs → P x) → All P xs
all_in P [] h k d l = absurd (omega (arith, l))
all_in P (x ∷ xs) h zero d l = h x (inl refl)
all_in P (x ∷ xs) h (suc k) d l = all_in P xs (λ y i. h y (inr i)) k d (omega (arith, l))

-- each move is at one of so many places
pub moves_below : (signs : List ℤ) (made : List Change) (n : ℕ) → made ≡ moves_in signs n → All (λ (c : Change). c.place < n) made
unfolding is_move move_at
moves_below signs made n is = rw is (all_in (λ (c : Change). c.place < n) (moves_in signs n) below)
  where
    below : (c : Change) → IsIn c (moves_in signs n) → c.place < n
    below c h =
        let at = IsIn-map (move_at signs) c (filter (is_move signs) (count_from 0 n)) h in
        let kept = IsIn-filter (is_move signs) at.0 (count_from 0 n) at.1 in
        let low = (IsIn-count_from at.0 0 n kept.1).1 in
        let same = ap (λ (d : Change). d.place) at.2 in
        omega (arith, low, same)

pub moves_there : (made : List Change) (a b : ℕ) → a ≡ b → All (λ (c : Change). c.place < a) made → All (λ (c : Change). c.place < b) made
moves_there made a b e h = subst (λ (n : ℕ). All (λ (c : Change). c.place < n) made) e h
