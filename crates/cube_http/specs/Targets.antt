-- What a request asks for.
use Rattle.std.specs.Prelude.{ℕ, ◌||◌, ◌==◌, Bool, List, [], ◌∷◌, take, drop, nat_eq, Option, Some, None, option_map, if◌then◌else◌, bytes_eq, codes}
use Rattle.std.specs.List.{starts_with, before_first, after_first, position_or_len}
use Rattle.cube_model.specs.Names.{is_group_name}
use Rattle.cube_model.specs.declared.ask.Ask.{Ask}
use Rattle.cube_model.specs.declared.ask.Question.{Question}
use Rattle.cube_model.specs.declared.ask.Question.TheVariants as question
use Rattle.cube_model.specs.declared.reply.Fixed.TheVariants.{NoPath, MethodForm, MethodGet, NoQuery}
use Rattle.cube_http.specs.declared.targets.Wanted.{Wanted}
use Rattle.cube_http.specs.declared.targets.Wanted.TheVariants.{Asked, Constant}
use Rattle.cube_http.specs.declared.targets.Route.{Route}
use Rattle.cube_http.specs.declared.targets.Route.TheVariants as route
use Rattle.cube_http.specs.Form.{first_named}
use Rattle.cube_http.specs.Checks.{same_word}
use Rattle.cube_http.specs.declared.head.MethodKind.{MethodKind}
use Rattle.cube_http.specs.Methods.{kind_of, is_read, is_post}
use Rattle.cube_http.specs.Stream.{Request}

abbrev pub is_slash : ℕ → Bool
is_slash b = b == 47

abbrev pub is_question : ℕ → Bool
is_question b = b == 63

-- from the first slash on
abbrev pub from_slash : List ℕ → List ℕ
from_slash text = drop (position_or_len is_slash text) text

-- a host ends in front of a path or a query
abbrev pub ends_host : ℕ → Bool
ends_host b = is_slash b || is_question b

abbrev pub behind_host : List ℕ → List ℕ
behind_host text = drop (position_or_len ends_host text) text

abbrev pub or_root : List ℕ → List ℕ
or_root [] = 47 ∷ []
or_root (b ∷ bs) = b ∷ bs

-- the target without a scheme and a host
abbrev pub own_target : List ℕ → List ℕ
own_target target = if same_word (take 7 target) (codes "http://") then or_root (behind_host (drop 7 target)) else target

abbrev pub path_of : List ℕ → List ℕ
path_of target = before_first is_question (own_target target)

-- what follows the first question mark
abbrev pub query_of : List ℕ → List ℕ
query_of target = after_first is_question (own_target target)

-- the table of paths
abbrev pub plain_route : List ℕ → Option Route
plain_route path =
    if bytes_eq path (codes "/v1/query") then Some route.Query
    else if bytes_eq path (codes "/v1/witness") then Some route.Witness
    else if bytes_eq path (codes "/v1/shape") then Some route.Shape
    else None

-- what is asked of a group, or of the server's own cube
abbrev pub aimed : Option (List ℕ) → Question → Ask
aimed group question = record { group = group; question = question }

-- behind `/g/` a name and a path of the table
abbrev pub group_way : List ℕ → Option (Option (List ℕ) × Route)
group_way path = if is_group_name (before_first is_slash path) then option_map (λ r. (Some (before_first is_slash path), r)) (plain_route (from_slash path)) else None

-- where a path leads: to a group or to the server's own cube, and by which route
abbrev pub found : List ℕ → Option (Option (List ℕ) × Route)
found path =
    if starts_with nat_eq path (codes "/g/") then group_way (drop 3 path)
    else option_map (λ r. (None, r)) (plain_route path)

-- the text of an ask: of the body of a POST, or of the target's query
abbrev pub text_of : MethodKind → List ℕ → List ℕ → Option (List ℕ)
text_of kind query body = first_named (codes "q") (if is_post kind then body else query)

abbrev pub or_no_query : (List ℕ → Question) → Option (List ℕ) → Option (List ℕ) → Wanted
or_no_query make group None = Constant NoQuery
or_no_query make group (Some text) = Asked (aimed group (make text))

-- what is asked for by a route, of a group or of the server's own cube
abbrev pub by_route : MethodKind → List ℕ → List ℕ → Option (List ℕ) → Route → Wanted
by_route kind query body group route.Query = if is_read kind || is_post kind then or_no_query question.Query group (text_of kind query body) else Constant MethodForm
by_route kind query body group route.Witness = if is_read kind || is_post kind then or_no_query question.Witness group (text_of kind query body) else Constant MethodForm
by_route kind query body group route.Shape = if is_read kind then Asked (aimed group question.Shape) else Constant MethodGet

abbrev pub wanted_by : MethodKind → List ℕ → List ℕ → Option (Option (List ℕ) × Route) → Wanted
wanted_by kind target body None = Constant NoPath
wanted_by kind target body (Some (group, way)) = by_route kind (query_of target) body group way

-- What a request asks for, by the table of paths and methods.
abbrev pub wanted : Request → Wanted
wanted r = wanted_by (kind_of r.head.method) r.head.target r.body (found (path_of r.head.target))
