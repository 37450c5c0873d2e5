use Rattle.core_events.proofs.PrintedLemmas.{cell_events_print_nothing}
use Rattle.core_events.proofs.printed_laws.cell_events_print_nothing.Goals as goal

pub returns : goal.returns
returns c = cell_events_print_nothing
