use Rattle.std.proofs.Common.{◌≡◌, ◌-◌, [], length}
use Rattle.cube_query.specs.Reading.{items_in, pick_in}
use Rattle.cube_query.proofs.cursor.Cursor.picks.Given as goal

abbrev pub invariant-loop-turn : goal.invariant-loop-turn
invariant-loop-turn l = (l.self.size ≡ l.initial.self.size)
    × (items_in (pick_in l.is_span l.self.size) l.self.size (length l.initial.self.rest - l._turn) l.picks l.self.rest ≡ items_in (pick_in l.is_span l.initial.self.size) l.initial.self.size (length l.initial.self.rest) [] l.initial.self.rest)
