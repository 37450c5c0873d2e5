-- The passes of a history that a cache is made of.
use Rattle.std.specs.Prelude.{◌≡◌, ℕ, ◌<◌, List, [], length, slice_get, Some}
use Rattle.std.specs.List.{AllByRecursion}
use Rattle.write_history.specs.Passes.{HistoryId, PassView, new_pass}
use Rattle.write_history.specs.declared.known.Mark.TheVariants.{Free, Noted}

-- all passes of the history that may write, so many, which have seen nothing, with the numbers from 0 up
pub record AreWriters (history : HistoryId) (count : ℕ) (passes : List PassView) : Type 0 where
  pub counted : length passes ≡ count
  pub all : history.kinds.writers ≡ count
  pub each : (number : ℕ) → number < count → slice_get passes number ≡ Some (new_pass history number)

-- so many passes of the history
pub record AreOf (history : HistoryId) (count : ℕ) (passes : List PassView) : Type 0 where
  pub counted : length passes ≡ count
  pub each : AllByRecursion (λ pass. pass.history ≡ history) passes

-- a pass of the history for each part of the base pairs, which has noted nothing yet
pub record AreOfParts (history : HistoryId) (passes : List PassView) : Type 0 where
  pub are_of : AreOf history 16 passes
  pub noted : AllByRecursion (λ pass. pass.mark ≡ Noted 0) passes

-- a pass of the history that has seen nothing, and may be pinned
pub record IsFresh (history : HistoryId) (pass : PassView) : Type 0 where
  pub same_history : pass.history ≡ history
  pub unseen : pass.view ≡ []
  pub free : pass.mark ≡ Free
