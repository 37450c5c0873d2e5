-- What an object in memory keeps of the calls that were made of it.
use Rattle.std.specs.Prelude.{ℕ, ◌+◌, List, Bool, Contains, if◌then◌else◌}
use Rattle.pq_io.specs.Faults.{next_count}

-- how many calls were made, the numbers of those that fail, counted from 1, and how many have failed
pub record CallLog : Type 0 where
  pub made : ℕ
  pub fails : List ℕ
  pub faults : ℕ

-- nothing was called yet
abbrev pub no_calls : List ℕ → CallLog
no_calls fails = record { made = 0; fails = fails; faults = 0 }

-- the next call is one of those that fail
abbrev pub NextIsListed : CallLog → Type 0
NextIsListed log = Contains log.fails (log.made + 1)

-- the log after one more call, by whether it failed
abbrev pub after_call : CallLog → Bool → CallLog
after_call log failed =
    record { made = next_count log.made; fails = log.fails; faults = if failed then next_count log.faults else log.faults }

-- the log after the object was opened, which is not one of the calls that are counted, by whether that failed
abbrev pub after_opening : CallLog → Bool → CallLog
after_opening log failed = record log { faults = if failed then next_count log.faults else log.faults }
