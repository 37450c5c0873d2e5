-- Passes of tests.
use Rattle.std.specs.Prelude.{◌≡◌, ℕ, ◌<◌, length}
use Rattle.write_history.specs.Entries.{IsRecorded}
use Rattle.write_history.specs.Passes.{HistoryId, PassView}
use Rattle.write_history.specs.declared.known.Mark.TheVariants.{Free, Pinned}

-- the pass is of the history, may append to it, and is not pinned
pub record IsWriter (history : HistoryId) (pass : PassView) : Type 0 where
  pub same_history : pass.history ≡ history
  pub writer : pass.number < pass.writers
  pub free : pass.mark ≡ Free

-- the pass is of the history, may append to it, and is pinned after all entries that it has seen, so many, which may stand in a history
pub record IsAtEnd (history : HistoryId) (pass : PassView) (p : ℕ) : Type 0 where
  pub same_history : pass.history ≡ history
  pub writer : pass.number < pass.writers
  pub pinned : pass.mark ≡ Pinned p
  pub whole : p ≡ length pass.view
  pub recorded : IsRecorded pass.writers pass.view
