-- The way of a path, as the code has it.
use Rattle.std.specs.Prelude.{ℕ, List, Option, option_map}
use Rattle.cube_http.specs.declared.targets.Way.{Way}
use Rattle.cube_http.specs.declared.targets.Route.{Route}
use Rattle.cube_http.specs.declared.targets.Wanted.{Wanted}
use Rattle.cube_http.specs.declared.head.MethodKind.{MethodKind}
use Rattle.cube_http.specs.Targets.{by_route}

-- the group, if any, and the route
abbrev pub way_view : Way → Option (List ℕ) × Route
way_view w = (option_map (λ g. g.now) w.group, w.route)

-- what is asked for by a way
abbrev pub by_way : MethodKind → List ℕ → List ℕ → Option (List ℕ) × Route → Wanted
by_way kind query body (group, route) = by_route kind query body group route
