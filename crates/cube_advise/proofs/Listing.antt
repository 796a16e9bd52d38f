-- The lines on measures, and what the history holds of one.
use Rattle.std.proofs.Common.{◌≡◌, ◌+◌, ◌<◌, ℕ, true, List, [], ◌∷◌, ◌++◌, length, flat_map, get_or, Option, Some, None, All, ap, ◌∙◌, subst, zero-add, append-nil}
use Rattle.std.proofs.lemmas.List.{length-map}
use Rattle.std.proofs.lemmas.Grind.{flat_map-append}
use Rattle.cube_model.specs.declared.entry.Entry.{Entry}
use Rattle.cube_model.specs.declared.policy.Method.{Method}
use Rattle.cube_model.specs.declared.policy.Method.TheVariants.{Lattice, Parity}
use Rattle.cube_model.specs.Cubes.{Public, Dimension, count_from, are_levels}
use Rattle.cube_model.specs.Dims.{Dims, plains, plain}
use Rattle.cube_model.specs.Protection.{method}
use Rattle.cube_model.specs.Verdicts.{source, links_of}
use Rattle.cube_model.proofs.Compacts.{InRange as InRangeOf, source_in_range}
use Rattle.cube_model.proofs.DimsFacts.{count_from-more}
use Rattle.cube_model.proofs.Histories.{admissible_allowed, length-levels}
use Rattle.cube_admit.proofs.Standing.{admissible_history}
use Rattle.cube_admit.specs.declared.held.Held.{Held}
use Rattle.cube_admit.specs.declared.held.Held.TheVariants as held
use Rattle.cube_admit.specs.declared.held.Pending.{Pending}
use Rattle.cube_admit.specs.States.{State, entry_of, whole, source_in, colouring_in, coloured, IsHeldBy, IsStateOf}
use Rattle.cube_advise.specs.Open.{InRange, finest_by}
use Rattle.cube_advise.proofs.Narrowing.{get_or_in}
use Rattle.cube_advise.proofs.Opening.{listed_levels}

-- the lines of the first so many, and of one more
pub lines_more : (f : ℕ → List ℕ) (k : ℕ) → flat_map f (count_from 0 (k + 1)) ≡ flat_map f (count_from 0 k) ++ f k
lines_more f k =
    ap (flat_map f) (count_from-more 0 k ∙ ap (λ (j : ℕ). count_from 0 k ++ j ∷ []) (zero-add k))
    ∙ flat_map-append f (count_from 0 k) (k ∷ [])
    ∙ ap (λ (x : List ℕ). flat_map f (count_from 0 k) ++ x) (append-nil (f k))

-- what is kept of a lattice measure is its source
held_source : (g : Public) (h k : List Entry) (m : ℕ) (way : Method) (x : Held) → way ≡ Lattice → IsHeldBy way g h k m x → source_in x ≡ source h m
held_source g h k m way held.Open e i = absurd (subst (λ (w : Method). IsHeldBy w g h k m held.Open) e i)
held_source g h k m way (held.Source c) e i = subst (λ (w : Method). IsHeldBy w g h k m (held.Source c)) e i
held_source g h k m way (held.Links c) e i = absurd (subst (λ (w : Method). IsHeldBy w g h k m (held.Links c)) e i)

pub kept_source : (g : Public) (s : State) (m : ℕ) → IsStateOf g s → method g m ≡ Lattice → m < length s.held → source_in (get_or s.held m held.Open) ≡ source s.history m
kept_source g s m stands way below = held_source g s.history (whole s) m (method g m) (get_or s.held m held.Open) way (stands.held m below)

in_range : (g : Public) (o : Option (List ℕ)) → InRangeOf g o → InRange g.dimensions o
in_range g None r = tt
in_range g (Some c) r = r

held_links : (g : Public) (h k : List Entry) (m : ℕ) (way : Method) (x : Held) → way ≡ Parity → IsHeldBy way g h k m x → colouring_in x ≡ Some (coloured g m (links_of g k m))
held_links g h k m way held.Open e i = absurd (subst (λ (w : Method). IsHeldBy w g h k m held.Open) e i)
held_links g h k m way (held.Source c) e i = absurd (subst (λ (w : Method). IsHeldBy w g h k m (held.Source c)) e i)
held_links g h k m way (held.Links c) e i = ap Some (subst (λ (w : Method). IsHeldBy w g h k m (held.Links c)) e i)

-- what is kept of a parity measure, where no request waits, is a colouring by the links of its history
pub kept_links : (g : Public) (s : State) (m : ℕ) → IsStateOf g s → s.pending ≡ None → method g m ≡ Parity → m < length s.held → colouring_in (get_or s.held m held.Open) ≡ Some (coloured g m (links_of g s.history m))
kept_links g s m stands none way below =
    held_links g s.history (whole s) m (method g m) (get_or s.held m held.Open) way (stands.held m below)
    ∙ ap (λ (h : List Entry). Some (coloured g m (links_of g h m))) (ap (λ (p : Option Pending). s.history ++ entry_of p) none ∙ append-nil s.history)

pub source_range : (g : Public) (s : State) (m : ℕ) → IsStateOf g s → InRange g.dimensions (source s.history m)
source_range g s m stands = in_range g (source s.history m) (source_in_range g s.history m (admissible_allowed g [] s.history (admissible_history g s stands)))

-- levels in range are one for each dimension
pub levels_long : (s : Dims) (c : List ℕ) → are_levels (plains s) c ≡ true → length c ≡ length s.dimensions
levels_long s c r = length-levels (plains s) c r ∙ length-map s.dimensions plain

-- each listed cuboid has a level for each dimension
pub listed_long : (s : Dims) (g : Public) (o : Option (List ℕ)) (m : ℕ) → g.dimensions ≡ plains s → All (λ c. length c ≡ length s.dimensions) (finest_by g o m)
listed_long s g o m e k d lt = levels_long s (get_or (finest_by g o m) k d)
    (subst (λ (ds : List Dimension). are_levels ds (get_or (finest_by g o m) k d) ≡ true) e (listed_levels g o m (get_or (finest_by g o m) k d) (get_or_in (finest_by g o m) k d lt)))
