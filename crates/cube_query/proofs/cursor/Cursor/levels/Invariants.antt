use Rattle.std.proofs.Common.{◌≡◌, ◌-◌, [], length}
use Rattle.cube_query.specs.Reading.{items_in, level_in}
use Rattle.cube_query.proofs.cursor.Cursor.levels.Given as goal

abbrev pub invariant-loop-turn : goal.invariant-loop-turn
invariant-loop-turn l = (l.self.size ≡ l.initial.self.size)
    × (items_in (level_in l.self.size) l.self.size (length l.initial.self.rest - l._turn) l.levels l.self.rest ≡ items_in (level_in l.initial.self.size) l.initial.self.size (length l.initial.self.rest) [] l.initial.self.rest)
