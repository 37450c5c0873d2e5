use Rattle.std.proofs.Common.{◌≡◌, ◌+◌, ◌≤◌, length, map}
use Rattle.core_events.specs.Scripts.{script_lines, events_of_lines, script_events}
use Rattle.core_events.specs.PlainEvents.{plain_event}
use Rattle.event_script.proofs.ScriptLemmas.{onto_all}
use Rattle.event_script.proofs.script.read_script.Given as goal

abbrev pub invariant-loop-line : goal.invariant-loop-line
invariant-loop-line l = record {
  read : onto_all (map plain_event l.events.items) (events_of_lines l.number (script_lines l.rest)) ≡ script_events l.bytes;
  few : l.number + length l.rest ≤ length l.bytes + 1;
}

abbrev pub decreases-loop-line : goal.decreases-loop-line
decreases-loop-line l = length l.rest
