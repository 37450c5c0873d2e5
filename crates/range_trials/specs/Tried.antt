-- What a trial of a kept range knows.
use Rattle.std.specs.Prelude.{ℕ, ◌≤◌, length, take}
use Rattle.semantics.specs.Histories.{History, joins_of}
use Rattle.growing_history.specs.Entered.{HasEntered, HasRank}
use Rattle.kept_ranges.specs.Sound.{KeptRange, IsSound}

-- the join stands with its rank after each number of entries from one to another
abbrev pub StandsThrough : History → ℕ → ℕ → KeptRange → Type 0
StandsThrough h from to s = (p : ℕ) → from ≤ p → p ≤ to → HasRank (joins_of (take p h)) s.join s.rank

-- a kept range is right over entries that entered, at least so many, and its join stands from a position up to there
pub record IsTried (h : History) (from to : ℕ) (s : KeptRange) : Type 0 where
  pub entered : HasEntered h
  pub long : to ≤ length h
  pub ranked : s.rank ≤ 8
  pub stands : StandsThrough h from to s
  pub sound : IsSound s h
