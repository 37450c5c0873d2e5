use Rattle.core_events.proofs.PlainLemmas.{cell_events_change_nothing}
use Rattle.core_events.proofs.plain_laws.cell_events_change_nothing.Goals as goal

pub returns : goal.returns
returns c = cell_events_change_nothing
