-- When scans under way are right for a history.
use Rattle.std.specs.Prelude.{◌≡◌, ℕ, ◌≤◌, List, length, take, Some}
use Rattle.semantics.specs.Texts.{Range, pairs_within}
use Rattle.semantics.specs.Histories.{History}
use Rattle.semantics.specs.States.{state}
use Rattle.scan_core.specs.Progress.{Progress, progress_at}

-- the range up to which a scan is answered
abbrev pub answered_range : Progress → Range
answered_range g = record { low = g.scan.range.low; high = g.scan.place }

-- a scan does not stand past the history, and it has the pairs of the state there up to its place
pub record IsGoing (h : History) (g : Progress) : Type 0 where
  pub stands : g.scan.position ≤ length h
  pub has : g.pairs ≡ pairs_within (answered_range g) (state (take g.scan.position h))

-- each of them does
abbrev pub AreGoing : History → List Progress → Type 0
AreGoing h table = (number : ℕ) (g : Progress) → progress_at number table ≡ Some g → IsGoing h g
