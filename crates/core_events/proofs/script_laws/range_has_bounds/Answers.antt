use Rattle.core_events.proofs.BoundLemmas.{range_has_bounds}
use Rattle.core_events.proofs.script_laws.range_has_bounds.Goals as goal

pub returns : goal.returns
returns c = range_has_bounds
