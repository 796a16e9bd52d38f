-- What the journals of groups are called.
use Rattle.std.proofs.Common.{◌≤◌, ◌==◌, ℕ, Bool, true, false, List, [], ◌∷◌, ◌++◌, length, length-append, map, if◌then◌else◌, codes, arith}
use Rattle.cube_model.specs.Cubes.{Each}
use Rattle.cube_opening.specs.declared.ruling.RuledGroup.{RuledGroup}
use Rattle.cube_starting.specs.Grouping.{journal_of}

-- each name is short enough for a report
pub short_names : (gs : List RuledGroup) → Each (λ g. length g.name ≤ 32) gs → Each (λ (n : List ℕ). length n ≤ 40) (map journal_of gs)
short_names [] s = tt
short_names (g ∷ gs) s = (short_one (length g.name == 0) g.name s.0, short_names gs s.1)
  where
    short_one : (b : Bool) (name : List ℕ) → length name ≤ 32 → length (codes "journal" ++ (if b then [] else codes " " ++ name)) ≤ 40
    short_one true name few = omega arith
    short_one false name few = let long = length-append (codes "journal") (codes " " ++ name) in let more = length-append (codes " ") name in omega (arith, long, more, few)
