-- Clients that meet one of them, and a history that holds what they wrote.
use Rattle.std.specs.Prelude.{◌≡◌, ℕ, ◌<◌, List, length, slice_index_or}
use Rattle.semantics.specs.Histories.{History, IsPrefix}
use Rattle.write_history.specs.Entries.{IsRecorded, written_by}
use Rattle.write_history.specs.Passes.{PassView, own}
use Rattle.pequod_cache.specs.Adding.{OnlyReads}

-- a client has written nothing, and has then seen a history first, and nothing beyond another
pub record HasMet (low high : History) (before after : PassView) : Type 0 where
  pub reads : OnlyReads before after
  pub begins : IsPrefix low after.view
  pub within : IsPrefix after.view high

-- so have all clients
pub record HaveMet (low high : History) (before after : List PassView) : Type 0 where
  pub counted : length after ≡ length before
  pub each : (i : ℕ) (d e : PassView) → i < length before → HasMet low high (slice_index_or before i d) (slice_index_or after i e)

-- the history begins with what the client had seen, has of its number exactly what it had written, and may stand where so many may write
pub record HasAllOf (history : History) (client : PassView) : Type 0 where
  pub within : IsPrefix client.view history
  pub own : written_by client.number history ≡ own client
  pub recorded : IsRecorded client.writers history
