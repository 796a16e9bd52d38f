-- Sends and closes on a wire, one behind another.
use Rattle.std.proofs.Common.{◌∙◌, refl, arith}
use Rattle.cube_io.specs.Seen.{WireState}
use Rattle.cube_io.proofs.Told.{plays_none, plays_then}
use Rattle.cube_server.specs.Seen.{OnlySends}

pub sends_none : (s : WireState) → OnlySends s s
sends_none s = record { plays = plays_none s; faults = refl; sends = omega arith }

pub sends_then : (a b c : WireState) → OnlySends a b → OnlySends b c → OnlySends a c
sends_then a b c f g = record { plays = plays_then a b c f.plays g.plays; faults = g.faults ∙ f.faults; sends = omega (arith, f.sends, g.sends) }
