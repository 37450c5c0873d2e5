use Rattle.core_events.proofs.BoundLemmas.{bound_is_of_table}
use Rattle.core_events.proofs.script_laws.bound_is_of_table.Goals as goal

pub returns : goal.returns
returns c = bound_is_of_table
