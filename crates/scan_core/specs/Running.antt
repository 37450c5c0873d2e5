-- How a list of events is answered.
use Rattle.std.specs.Prelude.{List}
use Rattle.core_events.specs.Events.{Event, Done}
use Rattle.core_events.specs.Plain.{World, AnswersPlainly, world_after}
use Rattle.core_events.specs.PlainLaws.{LookAlike}

-- events so far are answered as with nothing kept, and the world looks as after them
pub record RunsPlainly (events : List Event) (answers : List Done) (w : World) : Type 0 where
  pub plainly : AnswersPlainly events answers
  pub looks : LookAlike w (world_after events)
