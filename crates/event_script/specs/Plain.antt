-- Scripts as the data that the definitions speak of.
use Rattle.std.specs.Prelude.{ℕ, List, map, Result, Ok, Err}
use Rattle.semantics.specs.Texts.{Text}
use Rattle.core_events.specs.Events.{Event}
use Rattle.core_events.specs.PlainEvents.{plain_event}
use Rattle.event_script.specs.declared.script.RefusedLine.{RefusedLine}
use Rattle.event_script.specs.declared.script.Script.{Script}
use Rattle.event_script.specs.declared.script.Script.TheVariants.{Events, Refused}

-- the number and the name of a refused line
abbrev pub plain_refusal : RefusedLine → ℕ × Text
plain_refusal line = (line.number, line.name.now)

-- the events of a script, or its first line that is refused
abbrev pub plain_script : Script → Result (List Event) (ℕ × Text)
plain_script (Events events) = Ok (map plain_event events.items)
plain_script (Refused line) = Err (plain_refusal line)
