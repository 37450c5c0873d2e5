-- Passes of tests, by what their words say.
use Rattle.std.specs.Prelude.{◌≡◌, ℕ, ◌≤◌, length}
use Rattle.write_history.specs.Passes.{HistoryId, PassView}
use Rattle.write_history.specs.declared.known.Mark.TheVariants.{Free, Pinned}

-- the pass is of the history, and is not pinned but may be
pub record IsFree (history : HistoryId) (pass : PassView) : Type 0 where
  pub same_history : pass.history ≡ history
  pub free : pass.mark ≡ Free

-- the pass is of the history, and is pinned after so many entries, which it has seen
pub record IsPinned (history : HistoryId) (pass : PassView) (count : ℕ) : Type 0 where
  pub same_history : pass.history ≡ history
  pub pinned : pass.mark ≡ Pinned count
  pub within : count ≤ length pass.view
