-- What is true of the lowest reader of a history that threads share.
use Rattle.std.specs.Prelude.{◌≡◌, ℕ, ◌≤◌, length, take}
use Rattle.join_set.specs.Sets.{Joins, AreJoins}
use Rattle.write_history.specs.Entries.{IsRecorded}
use Rattle.write_history.specs.Marks.{reach}
use Rattle.write_history.specs.Passes.{HistoryId, PassView}
use Rattle.base_shards.specs.Reading.{ReachesBack}

-- a pass of the history with a name has seen so many entries and more, it may have seen what it has, its pin reaches back to them, and these are the joins after them, which tell of dropped ones from where it reaches to
pub record IsReadable (name history : HistoryId) (joins : Joins) (p : ℕ) (pass : PassView) : Type 0 where
  pub this : history ≡ name
  pub same_history : pass.history ≡ name
  pub recorded : IsRecorded pass.writers pass.view
  pub within : p ≤ length pass.view
  pub are_joins : AreJoins (reach pass.mark) joins (take p pass.view)
  pub pinned : ReachesBack pass p
