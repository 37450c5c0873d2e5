-- Events and answers as the data that the definitions speak of.
use Rattle.join_types.specs.Writes.{plain_write}
use Rattle.join_types.specs.Causes.{plain_cause}
use Rattle.core_events.specs.Events as plain
use Rattle.core_events.specs.declared.event.Event.{Event}
use Rattle.core_events.specs.declared.event.Event.TheVariants.{Append, Begin, Piece, Advance, Mend, Evict, Finish}
use Rattle.core_events.specs.declared.event.Done.{Done}
use Rattle.core_events.specs.declared.event.Done.TheVariants.{Entered, Refused, Begun, Answered, Brought, Mended, Evicted, Finished, Nothing}

-- an event with its write, its range or its text
abbrev pub plain_event : Event → plain.Event
plain_event (Append client write) = plain.append client (plain_write write)
plain_event (Begin scan range) = plain.begin scan range
plain_event (Piece scan upto) = plain.piece scan upto
plain_event (Advance cell to) = plain.advance cell to
plain_event (Mend cell range) = plain.mend cell range
plain_event (Evict cell) = plain.evict cell
plain_event (Finish scan) = plain.finish scan

-- an answer with its cause or its pairs
abbrev pub plain_done : Done → plain.Done
plain_done (Entered position) = plain.entered position
plain_done (Refused position cause) = plain.refused position (plain_cause cause)
plain_done (Begun position) = plain.begun position
plain_done Answered = plain.answered
plain_done Brought = plain.brought
plain_done Mended = plain.mended
plain_done Evicted = plain.evicted
plain_done (Finished position pairs) = plain.finished position pairs.items
plain_done Nothing = plain.nothing
