use Rattle.core_events.proofs.PlainLemmas.{cell_events_leave_world}
use Rattle.core_events.proofs.plain_laws.cell_events_leave_world.Goals as goal

pub returns : goal.returns
returns c = cell_events_leave_world
