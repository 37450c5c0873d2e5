use Rattle.std.proofs.Common.{◌≡◌, take, map}
use Rattle.core_events.specs.Events.{is_cell_event}
use Rattle.core_events.specs.PlainEvents.{plain_event}
use Rattle.event_script.proofs.answers.marks_of_cells.Given as goal

abbrev pub invariant-loop-event : goal.invariant-loop-event
invariant-loop-event l = l.marks.items ≡ map (λ event. is_cell_event (plain_event event)) (take l.event-index l.events)
