use Rattle.growing_history.proofs.ReadingLemmas.{refused_cycle_is_distinct_lem}
use Rattle.growing_history.proofs.reading_laws.refused_cycle_is_distinct.Goals as goal

pub returns : goal.returns
returns c = refused_cycle_is_distinct_lem
