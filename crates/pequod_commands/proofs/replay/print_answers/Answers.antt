use Rattle.std.proofs.Common.{◌≡◌, map, Ok, Err, sym, ap, ◌∙◌}
use Rattle.core_events.specs.Events.{is_cell_event}
use Rattle.core_events.specs.Scripts.{script_events}
use Rattle.core_events.specs.PlainEvents.{plain_event}
use Rattle.event_script.specs.Plain.{plain_refusal, plain_script}
use Rattle.pequod_commands.proofs.ReplayLemmas.{refused_is, events_are, marks_are}
use Rattle.pequod_commands.proofs.replay.print_answers.Goals as goal

pub returns-in_ok-refused_text-in-Refused-clause-text : goal.returns-in_ok-refused_text-in-Refused-clause-text
returns-in_ok-refused_text-in-Refused-clause-text c =
    let is : Err (plain_refusal c.in-Refused.line) ≡ script_events c.args.bytes.now = ap plain_script (sym c.in-Refused.is) ∙ c.in_ok-line.ensures in
    refused_is c.args.bytes.now _ (plain_refusal c.in-Refused.line) c.in_ok-refused_text-in-Refused.ensures is

pub returns-in_ok-answers_text-in-Events-clause-text : goal.returns-in_ok-answers_text-in-Events-clause-text
returns-in_ok-answers_text-in-Events-clause-text c =
    let events = map plain_event c.in-Events.events.items in
    let is : Ok events ≡ script_events c.args.bytes.now = ap plain_script (sym c.in-Events.is) ∙ c.in_ok-line.ensures in
    let marks = c.as_slice-in-Events.ensures.value ∙ c.in_ok-marks-in-Events.ensures ∙ ap (map (λ event. is_cell_event (plain_event event))) c.as_slice.ensures.value ∙ marks_are plain_event c.in-Events.events.items in
    events_are c.args.bytes.now _ events (c.in_ok-answers_text-in-Events.ensures.plainly events marks c.in_ok-answers-in-Events.ensures) is
