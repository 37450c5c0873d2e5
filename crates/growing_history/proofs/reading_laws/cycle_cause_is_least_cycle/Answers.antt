use Rattle.growing_history.proofs.ReadingLemmas.{cycle_cause_is_least_cycle_lem}
use Rattle.growing_history.proofs.reading_laws.cycle_cause_is_least_cycle.Goals as goal

pub returns : goal.returns
returns c = cycle_cause_is_least_cycle_lem
