-- Lists of entries: what one ends with, whose entries are whose, and which may stand in a history.
use Rattle.std.specs.Prelude.{◌≡◌, ℕ, ◌<◌, ◌==◌, [], ◌∷◌, ◌++◌, filter}
use Rattle.std.specs.List.{AllByRecursion}
use Rattle.semantics.specs.Histories.{Entry, History}
use Rattle.growing_history.specs.Entered.{HasEntered}

-- the list ends with the entry
pub record EndsWith (e : Entry) (h : History) : Type 0 where
  pub before : History
  pub is : h ≡ before ++ e ∷ []

-- the entries that were written by the pass with a number, in order
abbrev pub written_by : ℕ → History → History
written_by number h = filter (λ e. e.client == number) h

-- so many passes may have written these entries: each had no cause against it at its place, is of a key or of a join, and is by one of them
pub record IsRecorded (writers : ℕ) (h : History) : Type 0 where
  pub entered : HasEntered h
  pub below : AllByRecursion (λ e. e.client < writers) h
