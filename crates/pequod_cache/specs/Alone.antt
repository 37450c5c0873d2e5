-- The client of a cache that has no other.
use Rattle.std.specs.Prelude.{◌≡◌}
use Rattle.protocol.specs.Own.{AreOwn}
use Rattle.write_history.specs.Passes.{PassView}

-- the client has the number 0, no other may write, and every entry that it has seen is its own
pub record IsAlone (client : PassView) : Type 0 where
  pub numbered : client.number ≡ 0
  pub one : client.writers ≡ 1
  pub own : AreOwn client.view
