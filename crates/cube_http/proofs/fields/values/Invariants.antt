use Rattle.std.proofs.Common.{map}
use Rattle.httparse.specs.Spans.{header_bytes}
use Rattle.cube_http.specs.Checks.{named}
use Rattle.cube_http.proofs.Named.{Stands, left}
use Rattle.cube_http.proofs.fields.values.Given as goal

abbrev pub invariant-loop-header : goal.invariant-loop-header
invariant-loop-header l = Stands l.found (named l.name (map (header_bytes l.bytes) l.headers)) (left l.bytes l.headers l.name l.header-index)
