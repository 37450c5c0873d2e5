-- Scripts of events: a JSON array on each line.
use Rattle.std.specs.Prelude.{ℕ, ◌+◌, ◌^◌, ◌||◌, List, [], ◌∷◌, codes, nat_lt, Bool, false, if◌then◌else◌, Option, Some, None, option_map, option_and_then, unwrap_or, Result, Ok, Err}
use Rattle.serde_json.specs.Data.{Num, unsigned, negative, float, Data, null, boolean, number, string, array, object, Items, no_items, item}
use Rattle.semantics.specs.Texts.{Text, same, is_range}
use Rattle.semantics.specs.Patterns.{pieces}
use Rattle.protocol.specs.Lines.{Bytes}
use Rattle.protocol.specs.JoinsFile.{counted_lines}
use Rattle.protocol.specs.Requests.{Request, write, read, earlier, quit, LineFault, json, form, range, json_of, whole_below, position_of, text_of, form_of, request_of_items}
use Rattle.protocol.specs.Replies.{fault_name}
use Rattle.core_events.specs.Events.{Event, append, begin, piece, advance, mend, evict, finish, is_bound}
use Rattle.core_events.specs.Printed.{script_text}

-- ---- items

-- the number of a client, a scan or a cell
abbrev pub number_of : Data → Option ℕ
number_of = whole_below (2 ^ 32)

-- the event where there is one, and otherwise `form`
abbrev pub or_form : Option (Result Event LineFault) → Result Event LineFault
or_form found = unwrap_or found (Err form)

-- ---- the events by their items

-- whether the texts have the form of a put, a remove or a join
abbrev is_write_of_texts : List Text → Bool
is_write_of_texts [] = false
is_write_of_texts (word ∷ []) = false
is_write_of_texts (word ∷ a ∷ []) = same word (codes "remove") || same word (codes "join")
is_write_of_texts (word ∷ a ∷ b ∷ []) = same word (codes "put")
is_write_of_texts (word ∷ a ∷ b ∷ c ∷ others) = false

-- whether texts with a position behind them have the form of a drop
abbrev is_write_at : List Text → Bool
is_write_at [] = false
is_write_at (word ∷ []) = same word (codes "drop")
is_write_at (word ∷ a ∷ others) = false

-- whether the items have the form of a write
abbrev pub is_write_form : List Text × Option ℕ → Bool
is_write_form (texts, None) = is_write_of_texts texts
is_write_form (texts, Some n) = is_write_at texts

-- the event that appends what is requested, where it is a write
abbrev pub append_written : ℕ → Result Request LineFault → Result Event LineFault
append_written client (Err fault) = Err fault
append_written client (Ok (write w)) = Ok (append client w)
append_written client (Ok (read r)) = Err form
append_written client (Ok (earlier e)) = Err form
append_written client (Ok quit) = Err form

-- the event that appends the write that the texts request
abbrev pub append_texts : ℕ → List Text × Option ℕ → Result Event LineFault
append_texts client items = if is_write_form items then append_written client (request_of_items items) else Err form

-- a scan begins over a range
abbrev pub begin_event : ℕ → Text → Text → Result Event LineFault
begin_event scan low high = if is_range low high then Ok (begin scan (record { low = low; high = high })) else Err range

-- a scan is to be answered up to a text that may bound a range
abbrev pub piece_event : ℕ → Text → Result Event LineFault
piece_event scan upto = if is_bound upto then Ok (piece scan upto) else Err range

-- a cell is to be mended in a range
abbrev pub mend_event : ℕ → Text → Text → Result Event LineFault
mend_event cell low high = if is_range low high then Ok (mend cell (record { low = low; high = high })) else Err range

-- an event with one item behind its word
abbrev pub event_of_one : Text → Data → Result Event LineFault
event_of_one word a =
    if same word (codes "evict") then or_form (option_map (λ cell. Ok (evict cell)) (number_of a))
    else (if same word (codes "finish") then or_form (option_map (λ scan. Ok (finish scan)) (number_of a)) else Err form)

-- an event with two items behind its word
abbrev pub event_of_two : Text → Data → Data → Result Event LineFault
event_of_two word a b =
    if same word (codes "append") then or_form (option_and_then (λ client. option_map (append_texts client) (form_of b)) (number_of a))
    else (if same word (codes "piece") then or_form (option_and_then (λ scan. option_map (piece_event scan) (text_of b)) (number_of a))
    else (if same word (codes "advance") then or_form (option_and_then (λ cell. option_map (λ to. Ok (advance cell to)) (position_of b)) (number_of a))
    else Err form))

-- an event with a range: a number and two texts behind its word
abbrev pub ranged : (ℕ → Text → Text → Result Event LineFault) → Data → Data → Data → Result Event LineFault
ranged made a b c = or_form (option_and_then (λ n. option_and_then (λ low. option_map (made n low) (text_of c)) (text_of b)) (number_of a))

-- an event with three items behind its word
abbrev pub event_of_three : Text → Data → Data → Data → Result Event LineFault
event_of_three word a b c =
    if same word (codes "begin") then ranged begin_event a b c
    else (if same word (codes "mend") then ranged mend_event a b c else Err form)

-- the event that a word and the items behind it are
abbrev pub event_of_word : Text → Items → Result Event LineFault
event_of_word word no_items = Err form
event_of_word word (item a no_items) = event_of_one word a
event_of_word word (item a (item b no_items)) = event_of_two word a b
event_of_word word (item a (item b (item c no_items))) = event_of_three word a b c
event_of_word word (item a (item b (item c (item d others)))) = Err form

-- the event that the items of an array are: the first is its word
abbrev pub event_of_items : Items → Result Event LineFault
event_of_items no_items = Err form
event_of_items (item d ds) = or_form (option_map (λ word. event_of_word word ds) (text_of d))

-- the event that a JSON value is: from `form` on
abbrev pub event_of_value : Data → Result Event LineFault
event_of_value null = Err form
event_of_value (boolean b) = Err form
event_of_value (number n) = Err form
event_of_value (string s) = Err form
event_of_value (array ds) = event_of_items ds
event_of_value (object ms) = Err form

-- the event that a line's JSON value is, where it has one
abbrev pub event_of_json : Option Data → Result Event LineFault
event_of_json None = Err json
event_of_json (Some d) = event_of_value d

-- the event that a line is, or the first of `json`, `form`, `key`, `value`, `range` and `syntax` that refuses it
unfoldable pub event_of : Bytes → Result Event LineFault
event_of line = event_of_json (json_of line)

-- ---- the lines of a script

-- an event before others, where they read
abbrev pub onto_events : Event → Result (List Event) (ℕ × Text) → Result (List Event) (ℕ × Text)
onto_events event (Err refused) = Err refused
onto_events event (Ok events) = Ok (event ∷ events)

-- an event before others, or its line's number, counted from 1, and the name of its fault
abbrev pub at_line : ℕ → Result Event LineFault → Result (List Event) (ℕ × Text) → Result (List Event) (ℕ × Text)
at_line n (Err fault) others = Err (n, fault_name fault)
at_line n (Ok event) others = onto_events event others

-- the events of lines, or the first line that does not read
abbrev pub events_of_lines : ℕ → List Bytes → Result (List Event) (ℕ × Text)
events_of_lines n [] = Ok []
events_of_lines n (line ∷ lines) = at_line n (event_of line) (events_of_lines (n + 1) lines)

-- the lines of a script end at byte 10; the last one counts where it is not empty
abbrev pub script_lines : Bytes → List Bytes
script_lines bytes = counted_lines (pieces 10 bytes)

-- the events of a script, or the number and the name of its first line that does not read
unfoldable pub script_events : Bytes → Result (List Event) (ℕ × Text)
script_events bytes = events_of_lines 1 (script_lines bytes)

-- what `replay` prints about the bytes of a script
unfoldable pub replay_text : Bytes → Text
replay_text bytes = script_text (script_events bytes)
