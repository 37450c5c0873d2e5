-- What `replay` prints.
use Rattle.std.specs.Prelude.{ℕ, List, [], ◌∷◌, flat_map, zip, codes, Bool, true, false, Result, Ok, Err}
use Rattle.serde_json.specs.Data.{string}
use Rattle.semantics.specs.Texts.{Text}
use Rattle.semantics.specs.Answers.{pairs}
use Rattle.protocol.specs.Rows.{row}
use Rattle.protocol.specs.Replies.{done, answered as answered_reply, refused as refused_reply, reply_text}
use Rattle.protocol.specs.JoinsFile.{refused_row}
use Rattle.core_events.specs.Events.{Event, Done, entered, refused, begun, answered, finished, brought, mended, evicted, nothing, is_cell_event}
use Rattle.core_events.specs.Plain.{plain}

-- the line that says that there was nothing to do
unfoldable pub nothing_text : Text
nothing_text = row (string (codes "nothing") ∷ [])

-- what is printed for an answer: the reply's line for one to a write, the line of the pairs for a finished scan, and nothing for what only went on
abbrev pub done_text : Done → Text
done_text (entered n) = reply_text (done n)
done_text (refused n cause) = reply_text (refused_reply n cause)
done_text (begun n) = []
done_text answered = []
done_text (finished n table) = reply_text (answered_reply (pairs n table))
done_text brought = []
done_text mended = []
done_text evicted = []
done_text nothing = nothing_text

-- what is printed for answers, in order
abbrev pub done_texts : List Done → Text
done_texts = flat_map done_text

-- an event of a cell prints nothing, whatever it is answered
abbrev pub text_unless : Bool → Done → Text
text_unless true d = []
text_unless false d = done_text d

-- what is printed for an event and its answer
abbrev pub event_text : Event × Done → Text
event_text p = text_unless (is_cell_event p.0) p.1

-- what is printed for events and their answers, one each
abbrev pub event_texts : List Event → List Done → Text
event_texts events answers = flat_map event_text (zip events answers)

-- what is printed for events
abbrev pub events_text : List Event → Text
events_text events = done_texts (plain events)

-- what is printed for a script that was read: the text of its events, or the row of its first line that does not read
abbrev pub script_text : Result (List Event) (ℕ × Text) → Text
script_text (Ok events) = events_text events
script_text (Err fault) = refused_row fault
