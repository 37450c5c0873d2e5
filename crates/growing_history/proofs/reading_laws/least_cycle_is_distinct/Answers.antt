use Rattle.growing_history.proofs.ReadingLemmas.{least_cycle_is_distinct_lem}
use Rattle.growing_history.proofs.reading_laws.least_cycle_is_distinct.Goals as goal

pub returns : goal.returns
returns c = least_cycle_is_distinct_lem
