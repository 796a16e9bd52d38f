-- What sockets tell that have one client.
use Rattle.std.specs.Prelude.{ℕ, ◌==◌, Bool, true, false, List, [], Option, Some, None, if◌then◌else◌}
use Rattle.cube_edge.specs.Sockets.{SocketState, SocketsState}

-- whether it is the number of the client, which has one once it was accepted
abbrev pub is_number : Option ℕ → ℕ → Bool
is_number None c = false
is_number (Some d) c = d == c

-- of a number that no client has: it gives nothing and takes nothing
abbrev pub nobody : SocketState
nobody = record { taken = []; given = []; gone = true; shut = true }

-- the client under its number
abbrev pub of_client : Option ℕ → SocketState → ℕ → SocketState
of_client number client c = if is_number number c then client else nobody

abbrev pub one_client : Option ℕ → SocketState → ℕ → SocketsState
one_client number client waits = record { faults = 0; told = true; socket = of_client number client; clock = 0; waits = waits }
