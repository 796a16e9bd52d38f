use Rattle.std.proofs.Common.{◌≡◌, ◌++◌, drop}
use Rattle.cube_query.specs.Canonical.{behind, pick_texts, PicksFit}
use Rattle.cube_query.proofs.canonical.push_picks.Given as goal

abbrev pub invariant-loop-d : goal.invariant-loop-d
invariant-loop-d l = (l.text ++ behind l.separator (pick_texts l.is_span (drop l.d l.dims.dimensions) (drop l.d l.picks)) ≡ l.fn.text ++ behind l.word (pick_texts l.is_span l.dims.dimensions l.picks))
    × PicksFit (drop l.d l.dims.dimensions) (drop l.d l.picks)
