-- Pools of connections.
use Rattle.std.specs.Prelude.{◌≡◌, [], length}
use Rattle.cube_server.specs.declared.pools.Pool.{Pool}
use Rattle.cube_server.specs.Ears.{HasCapacity}

-- no connection of the pool is open
pub record IsFree (pool : Pool) : Type 0 where
  pub capacity : HasCapacity pool.lines 0
  pub none : pool.lines.lines.items ≡ []
  pub buf : length pool.buf.items ≡ 65536
