-- How a pass goes on that only reads, and how far back it may ask.
use Rattle.std.specs.Prelude.{◌≡◌, ℕ, ◌+◌, ◌≤◌}
use Rattle.semantics.specs.Histories.{IsPrefix}
use Rattle.write_history.specs.Entries.{IsRecorded}
use Rattle.write_history.specs.Marks.{IsLow}
use Rattle.write_history.specs.Passes.{PassView, own}
use Rattle.write_history.specs.declared.known.Mark.TheVariants.{Pinned}

-- the pass is pinned, and a position is at most 65,536 entries before the pin
pub record ReachesBack (pass : PassView) (p : ℕ) : Type 0 where
  pub pin : ℕ
  pub pinned : pass.mark ≡ Pinned pin
  pub near : pin ≤ p + 65536

-- the pass is the same, has written nothing, is pinned where it was or has noted what it had, and its view begins with what it was; the view may stand in a history if the old one might
pub record ReadsOn (old new : PassView) : Type 0 where
  pub same_history : new.history ≡ old.history
  pub same_number : new.number ≡ old.number
  pub same_writers : new.writers ≡ old.writers
  pub begins : IsPrefix old.view new.view
  pub own : own new ≡ own old
  pub recorded : IsRecorded old.writers old.view → IsRecorded new.writers new.view
  pub same_mark : new.mark ≡ old.mark
  pub higher : old.floor ≤ new.floor
  pub low : IsLow old.mark old.floor → IsLow new.mark new.floor
