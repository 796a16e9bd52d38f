use Rattle.std.specs.List.{All}
use Rattle.std.proofs.Common.{◌≡◌, map, take, true, Ok}
use Rattle.cube_query.specs.Canonical.{is_request}
use Rattle.cube_query.specs.Faults.{request_of}
use Rattle.cube_made.proofs.reading.requests_in.Given as goal

abbrev pub invariant-texts : goal.invariant-texts
invariant-texts l = record {
  read : map (request_of l.dims) (take l.text-index l.texts) ≡ map Ok l.requests;
  valid : All (λ request. is_request l.dims request ≡ true) l.requests;
}
