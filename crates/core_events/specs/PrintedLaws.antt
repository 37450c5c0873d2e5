-- Laws on what is printed.
use Rattle.std.specs.Prelude.{◌≡◌, List}
use Rattle.core_events.specs.Events.{Event, Done}
use Rattle.core_events.specs.Plain.{AnswersPlainly}
use Rattle.core_events.specs.Printed.{event_texts, events_text}
use Rattle.core_events.specs.PlainLaws.{without_cells}

-- where events are answered plainly, what is printed for their answers is the text of the events
abbrev pub AnswersPrintText : Type 0
AnswersPrintText = (events : List Event) (answers : List Done) → AnswersPlainly events answers → event_texts events answers ≡ events_text events

-- the text is of the events that are of no cell alone
abbrev pub CellEventsPrintNothing : Type 0
CellEventsPrintNothing = (events : List Event) → events_text (without_cells events) ≡ events_text events
