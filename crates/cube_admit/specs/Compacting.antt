-- What is kept of the measures, written down as entries.
use Rattle.std.specs.Prelude.{ℕ, ◌+◌, List, [], ◌∷◌, ◌++◌, map}
use Rattle.cube_model.specs.declared.entry.Entry.{Entry}
use Rattle.cube_model.specs.declared.entry.Entry.TheVariants.{Linked}
use Rattle.cube_model.specs.Compaction.{source_entry}
use Rattle.cube_admit.specs.declared.held.Held.{Held}
use Rattle.cube_admit.specs.declared.held.Held.TheVariants as held

-- of a measure: its source, or the links that are kept
abbrev pub held_entries : ℕ → Held → List Entry
held_entries m held.Open = []
held_entries m (held.Source c) = source_entry m c
held_entries m (held.Links c) = map (Linked m) c.kept

-- of the measures from this one on
abbrev pub held_from : ℕ → List Held → List Entry
held_from m [] = []
held_from m (x ∷ xs) = held_entries m x ++ held_from (m + 1) xs
