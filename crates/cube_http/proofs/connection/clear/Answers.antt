use Rattle.cube_http.proofs.Heads.{nothing_goes_on}
use Rattle.cube_http.proofs.connection.clear.Goals as goal

pub returns : goal.returns
returns c = (
  record {
    goes_on = rw c.clear.ensures.items nothing_goes_on;
    empty = c.clear-2.ensures.items;
    capacity = record { head = rw c.clear.ensures.capacity c.requires.head; body = rw c.clear-2.ensures.capacity c.requires.body };
  },
  c.clear.ensures.items,
)
