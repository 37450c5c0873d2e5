-- The seats of a cache that a test makes.
use Rattle.std.specs.Prelude.{◌≡◌, ◌≤◌, length}
use Rattle.write_history.specs.Passes.{HistoryId}
use Rattle.pequod_cache.specs.Sitting.{AreOf, AreOfParts, AreWriters}
use Rattle.pequod_cache.specs.declared.seats.Seats.{Seats}

-- seats of the history with a name, for clients, parts of the base pairs, and some cells, 65,536 at most
pub record AreSeats (name : HistoryId) (seats : Seats) : Type 0 where
  pub named : seats.history ≡ name
  pub clients : AreWriters name (length seats.clients.items) seats.clients.items
  pub shards : AreOfParts name seats.shards.items
  pub cells : AreOf name (length seats.cells.items) seats.cells.items
  pub some : 1 ≤ length seats.cells.items
  pub few : length seats.cells.items ≤ 65536
