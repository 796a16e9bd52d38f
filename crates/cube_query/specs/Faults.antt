-- The request that a text names, or the fault; and the reply to a fault.
use Rattle.std.specs.Prelude.{ℕ, List, [], ◌∷◌, ◌++◌, codes, Result, Ok, Err}
use Rattle.std.specs.Fmt.{decimal}
use Rattle.cube_model.specs.Dims.{Dims}
use Rattle.cube_model.specs.declared.request.Request.{Request}
use Rattle.cube_query.specs.declared.query.Query.{Query}
use Rattle.cube_query.specs.declared.query.QueryFault.{QueryFault}
use Rattle.cube_query.specs.declared.query.QueryFault.TheVariants as query
use Rattle.cube_query.specs.declared.resolving.ResolveFault.{ResolveFault}
use Rattle.cube_query.specs.declared.resolving.ResolveFault.TheVariants as resolve
use Rattle.cube_query.specs.declared.fault.RequestFault.{RequestFault}
use Rattle.cube_query.specs.declared.fault.RequestFault.TheVariants as fault
use Rattle.cube_query.specs.Grammar.{query_of}
use Rattle.cube_query.specs.Requests.{resolved}

abbrev pub of_query : QueryFault → RequestFault
of_query (query.Syntax at) = fault.Syntax at
of_query query.NoMemory = fault.NoMemory

abbrev pub of_resolve : ResolveFault → RequestFault
of_resolve (resolve.UnknownMeasure at) = fault.UnknownMeasure at
of_resolve (resolve.UnknownDimension at) = fault.UnknownDimension at
of_resolve (resolve.DimensionTwice at) = fault.DimensionTwice at
of_resolve (resolve.UnknownLevel at) = fault.UnknownLevel at
of_resolve (resolve.UnknownMember at) = fault.UnknownMember at
of_resolve (resolve.Backwards at) = fault.Backwards at
of_resolve resolve.NoMemory = fault.NoMemory

abbrev pub with_fault : Result Request ResolveFault → Result Request RequestFault
with_fault (Ok r) = Ok r
with_fault (Err e) = Err (of_resolve e)

abbrev pub requested : Dims → Result Query QueryFault → Result Request RequestFault
requested s (Ok q) = with_fault (resolved s q)
requested s (Err e) = Err (of_query e)

-- the request that a text names, or the fault of its grammar, or else the first fault of what it names
unfoldable pub request_of : Dims → List ℕ → Result Request RequestFault
request_of s text = requested s (query_of text)

-- ---- the reply to a fault

abbrev pub fault_status : RequestFault → ℕ
fault_status (fault.Syntax at) = 400
fault_status (fault.UnknownMeasure at) = 404
fault_status (fault.UnknownDimension at) = 404
fault_status (fault.DimensionTwice at) = 400
fault_status (fault.UnknownLevel at) = 404
fault_status (fault.UnknownMember at) = 404
fault_status (fault.Backwards at) = 400
fault_status fault.NoMemory = 500

abbrev pub at_byte : List ℕ → ℕ → List ℕ
at_byte what at = what ++ codes " at byte " ++ decimal at ++ 10 ∷ []

abbrev pub fault_body : RequestFault → List ℕ
fault_body (fault.Syntax at) = at_byte (codes "syntax") at
fault_body (fault.UnknownMeasure at) = at_byte (codes "unknown measure") at
fault_body (fault.UnknownDimension at) = at_byte (codes "unknown dimension") at
fault_body (fault.DimensionTwice at) = at_byte (codes "dimension twice") at
fault_body (fault.UnknownLevel at) = at_byte (codes "unknown level") at
fault_body (fault.UnknownMember at) = at_byte (codes "unknown member") at
fault_body (fault.Backwards at) = at_byte (codes "backwards") at
fault_body fault.NoMemory = codes "no memory\n"
