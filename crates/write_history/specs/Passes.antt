-- A pass as contracts see it, and how it goes on.
use Rattle.std.specs.Prelude.{◌≡◌, ℕ, ◌<◌, ◌≤◌, [], length}
use Rattle.atomic_table.specs.Seated.{TableId}
use Rattle.semantics.specs.Histories.{Write, Entry, History, IsPrefix}
use Rattle.write_history.specs.Entries.{IsRecorded, written_by}
use Rattle.write_history.specs.Marks.{first_mark, IsLow}
use Rattle.write_history.specs.declared.known.Kinds.{Kinds}
use Rattle.write_history.specs.declared.known.Mark.{Mark}

-- a history: its table, and how many passes it has of each kind
pub record HistoryId : Type 0 where
  pub table : TableId
  pub kinds : Kinds

-- of which history it is, its number, how many passes of that history may write, the entries that it has seen, what its word says, and a number of first entries that it knows to be dropped
pub record PassView : Type 0 where
  pub history : HistoryId
  pub number : ℕ
  pub writers : ℕ
  pub view : History
  pub mark : Mark
  pub floor : ℕ

-- a pass that has seen nothing
abbrev pub new_pass : HistoryId → ℕ → PassView
new_pass history number = record { history = history; number = number; writers = history.kinds.writers; view = []; mark = first_mark history.kinds number; floor = 0 }

-- the entry of a write by the pass
abbrev pub entry_by : PassView → Write → Entry
entry_by pass write = record { client = pass.number; write = write }

-- the entries of the view that the pass wrote
abbrev pub own : PassView → History
own pass = written_by pass.number pass.view

-- the pass has the number that it had, and its view begins with what it was; the view may stand in a history with its writers
pub record GoesOn (old new : PassView) : Type 0 where
  pub same_history : new.history ≡ old.history
  pub same_number : new.number ≡ old.number
  pub same_writers : new.writers ≡ old.writers
  pub begins : IsPrefix old.view new.view
  pub recorded : IsRecorded new.writers new.view
  pub same_mark : new.mark ≡ old.mark
  pub higher : old.floor ≤ new.floor
  pub low : IsLow new.mark new.floor

-- the pass is of the history, and may append to it
pub record MayAppend (history : HistoryId) (pass : PassView) : Type 0 where
  pub same_history : pass.history ≡ history
  pub writer : pass.number < pass.writers

-- the pass is of the history, and has seen so many entries, at least
pub record HasSeen (history : HistoryId) (pass : PassView) (count : ℕ) : Type 0 where
  pub same_history : pass.history ≡ history
  pub within : count ≤ length pass.view
