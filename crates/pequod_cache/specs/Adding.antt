-- What clients add to their history.
use Rattle.std.specs.Prelude.{◌≡◌, ◌++◌}
use Rattle.semantics.specs.Histories.{History, IsPrefix}
use Rattle.write_history.specs.Passes.{PassView, GoesOn, own}

-- the client has the number that it had, and has seen what it had seen first; its own entries are those that it had, and these behind them
pub record HasAdded (entries : History) (old new : PassView) : Type 0 where
  pub same_number : new.number ≡ old.number
  pub same_writers : new.writers ≡ old.writers
  pub begins : IsPrefix old.view new.view
  pub adds : own new ≡ own old ++ entries

-- the client goes on, and has written nothing
pub record OnlyReads (old new : PassView) : Type 0 where
  pub goes_on : GoesOn old new
  pub none : own new ≡ own old
