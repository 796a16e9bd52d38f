use Rattle.std.proofs.Common.{◌≡◌, codes, map}
use Rattle.std.specs.List.{list_any}
use Rattle.httparse.specs.Spans.{header_bytes}
use Rattle.cube_http.specs.Checks.{named, has_word}
use Rattle.cube_http.proofs.Named.{left}
use Rattle.cube_http.proofs.fields.asks_close.Given as goal

abbrev pub invariant-loop-header : goal.invariant-loop-header
invariant-loop-header l = list_any (has_word (codes "close")) (named (codes "connection") (map (header_bytes l.bytes) l.headers))
    ≡ list_any (has_word (codes "close")) (left l.bytes l.headers (codes "connection") l.header-index)
