-- A client as contracts see it, and what is true of it.
use Rattle.std.specs.Prelude.{◌≡◌, ℕ, ◌<◌, ◌≤◌, length, take}
use Rattle.semantics.specs.Texts.{Range, Table, pairs_within}
use Rattle.semantics.specs.Histories.{History, IsPrefix}
use Rattle.semantics.specs.States.{state}
use Rattle.join_set.specs.Sets.{Joins, AreJoins}
use Rattle.write_history.specs.Entries.{IsRecorded}
use Rattle.write_history.specs.Marks.{before}
use Rattle.write_history.specs.Passes.{HistoryId, PassView}
use Rattle.write_history.specs.declared.known.Mark.TheVariants.{Free}
use Rattle.protocol.specs.Requests.{Earlier}
use Rattle.semantics.specs.Answers.{pairs}
use Rattle.protocol.specs.Replies.{Reply, answered}
use Rattle.protocol.specs.Earlier.{earlier_reply}

-- the joins are those that stood when the last of them had been declared or dropped, which the pass has seen; from the position
-- 65,536 below what it has seen on they tell which tables are bare
pub record KeepsJoins (joins : Joins) (view : History) : Type 0 where
  pub within : joins.changed ≤ length view
  pub are : AreJoins (before (length view)) joins (take joins.changed view)

-- a pass of the history, which is not pinned and may have seen what it has, and the joins up to a declaration or drop in that
pub record IsSeated (history : HistoryId) (pass : PassView) (joins : Joins) : Type 0 where
  pub same_history : pass.history ≡ history
  pub free : pass.mark ≡ Free
  pub recorded : IsRecorded pass.writers pass.view
  pub kept : KeepsJoins joins pass.view

-- the pass of a client may write besides
pub record IsClient (history : HistoryId) (pass : PassView) (joins : Joins) : Type 0 where
  pub seated : IsSeated history pass joins
  pub writer : pass.number < pass.writers

-- a range was read after all entries that the client had seen, and others that it saw then
pub record IsFound (before after : PassView) (range : Range) (position : ℕ) (pairs : Table) : Type 0 where
  pub seen : History
  pub begins : IsPrefix before.view seen
  pub goes_on : IsPrefix seen after.view
  pub at : position ≡ length seen
  pub is : pairs ≡ pairs_within range (state seen)

-- a scan was answered after all entries that the client had seen, and others that it saw then
pub record IsScanned (before after : PassView) (range : Range) (reply : Reply) : Type 0 where
  pub seen : History
  pub begins : IsPrefix before.view seen
  pub goes_on : IsPrefix seen after.view
  pub is : reply ≡ answered (pairs (length seen) (pairs_within range (state seen)))

-- a question about an earlier position was answered after all entries that the client had seen, and others that it saw then
pub record IsReplied (before after : PassView) (e : Earlier) (reply : Reply) : Type 0 where
  pub seen : History
  pub begins : IsPrefix before.view seen
  pub goes_on : IsPrefix seen after.view
  pub is : reply ≡ earlier_reply e seen
