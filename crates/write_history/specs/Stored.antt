-- What the log stores of a history.
use Rattle.std.specs.Prelude.{◌≡◌, ℕ, ◌≤◌, length, drop}
use Rattle.semantics.specs.Histories.{History}
use Rattle.join_set.specs.Summaries.{Summary, StandsFor}

-- the entries that are stored, and what is kept of all entries to judge the next write
pub record Stored : Type 0 where
  pub lacks : ℕ
  pub entries : History
  pub summary : Summary

-- the log is that of the history, and lacks so many of its first entries
pub record IsLog (h : History) (floor : ℕ) (log : Stored) : Type 0 where
  pub within : floor ≤ length h
  pub lacked : log.lacks ≡ floor
  pub entries : log.entries ≡ drop floor h
  pub stands : StandsFor log.summary h

-- entries, and for how many more there is room
pub record EntriesWithRoom : Type 0 where
  pub lacks : ℕ
  pub entries : History
  pub room : ℕ
