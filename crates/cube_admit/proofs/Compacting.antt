-- What is kept of the measures is what the compacted history holds.
use Rattle.std.proofs.Common.{◌≡◌, ℕ, suc, ◌+◌, ◌<◌, List, [], ◌∷◌, ◌++◌, length, map, flat_map, get_or, None, refl, ap, ◌∙◌, subst, arith, append-nil}
use Rattle.cube_model.specs.declared.entry.Entry.{Entry}
use Rattle.cube_model.specs.declared.policy.Method.{Method}
use Rattle.cube_model.specs.declared.policy.Method.TheVariants.{Plain, Lattice, Parity}
use Rattle.cube_model.specs.declared.entry.Entry.TheVariants.{Linked}
use Rattle.cube_model.specs.Cubes.{Public, count_from}
use Rattle.cube_model.specs.Compaction.{source_entry, compacted_by, compacted_on, compacted}
use Rattle.cube_model.specs.Protection.{method}
use Rattle.cube_admit.specs.declared.held.Held.{Held}
use Rattle.cube_admit.specs.declared.held.Held.TheVariants as held
use Rattle.cube_admit.specs.States.{State, entry_of, IsHeldBy, IsStateOf}
use Rattle.cube_admit.specs.Compacting.{held_entries, held_from}

-- what is kept of one measure
held_is : (way : Method) (g : Public) (h : List Entry) (m : ℕ) (x : Held) → IsHeldBy way g h h m x → held_entries m x ≡ compacted_by way g h m
held_is Plain g h m held.Open i = refl
held_is Plain g h m (held.Source c) i = absurd i
held_is Plain g h m (held.Links c) i = absurd i
held_is Lattice g h m held.Open i = absurd i
held_is Lattice g h m (held.Source c) i = ap (source_entry m) i
held_is Lattice g h m (held.Links c) i = absurd i
held_is Parity g h m held.Open i = absurd i
held_is Parity g h m (held.Source c) i = absurd i
held_is Parity g h m (held.Links c) i = ap (λ d. map (Linked m) d.kept) i

-- from a measure on
from_is : (g : Public) (h : List Entry) (from : ℕ) (xs : List Held) → ((i : ℕ) → i < length xs → IsHeldBy (method g (from + i)) g h h (from + i) (get_or xs i held.Open)) → held_from from xs ≡ flat_map (compacted_on g h) (count_from from (length xs))
from_is g h from [] each = refl
from_is g h from (x ∷ xs) each = ap (λ es. es ++ held_from (from + 1) xs) first ∙ ap (λ es. compacted_on g h from ++ es) (ap (λ n. held_from n xs) next ∙ from_is g h (suc from) xs more)
  where
    none : from + 0 ≡ from
    none = omega arith

    next : from + 1 ≡ suc from
    next = omega arith

    first : held_entries from x ≡ compacted_on g h from
    first = held_is (method g from) g h from x (subst (λ m. IsHeldBy (method g m) g h h m x) none (each 0 (omega arith)))

    more : (i : ℕ) → i < length xs → IsHeldBy (method g (suc from + i)) g h h (suc from + i) (get_or xs i held.Open)
    more i below = subst (λ m. IsHeldBy (method g m) g h h m (get_or xs i held.Open)) there (each (suc i) (omega arith))
      where
        there : from + suc i ≡ suc from + i
        there = omega arith

-- where no request waits, all that is kept is the compacted history
pub all_is_compacted : (g : Public) (s : State) → IsStateOf g s → s.pending ≡ None → held_from 0 s.held ≡ compacted g s.history
all_is_compacted g s stands none = from_is g s.history 0 s.held each ∙ ap (λ n. flat_map (compacted_on g s.history) (count_from 0 n)) stands.long
  where
    whole_is : s.history ++ entry_of s.pending ≡ s.history
    whole_is = ap (λ p. s.history ++ entry_of p) none ∙ append-nil s.history

    each : (m : ℕ) → m < length s.held → IsHeldBy (method g (0 + m)) g s.history s.history (0 + m) (get_or s.held m held.Open)
    each m below = subst (λ n. IsHeldBy (method g n) g s.history s.history n (get_or s.held m held.Open)) there (subst (λ k. IsHeldBy (method g m) g s.history k m (get_or s.held m held.Open)) whole_is (stands.held m below))
      where
        there : m ≡ 0 + m
        there = omega arith
