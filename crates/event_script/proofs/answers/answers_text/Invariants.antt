use Rattle.std.proofs.Common.{◌≡◌, ◌++◌, map}
use Rattle.core_events.specs.PlainEvents.{plain_done}
use Rattle.event_script.proofs.AnswerLemmas.{marked}
use Rattle.event_script.proofs.answers.answers_text.Given as goal

abbrev pub invariant-loop-done : goal.invariant-loop-done
invariant-loop-done l = l.text.items ++ marked l.marks (map plain_done l.done-iterator.rest.items) ≡ marked l.of_cells (map plain_done l.fn.answers.items)
