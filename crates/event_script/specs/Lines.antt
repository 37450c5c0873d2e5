-- The lines of events with two items behind the word, by their parts.
use Rattle.std.specs.Prelude.{◌||◌, codes, Bool, false, option_map, option_and_then, Result, Ok}
use Rattle.std.specs.Option.{option_map_or}
use Rattle.serde_json.specs.Data.{Data, null, boolean, number, string, array, object, Items, no_items, item}
use Rattle.semantics.specs.Texts.{Text, same}
use Rattle.protocol.specs.Requests.{LineFault, position_of, text_of, form_of}
use Rattle.core_events.specs.Events.{Event, advance}
use Rattle.core_events.specs.Scripts.{number_of, or_form, append_texts, piece_event}

-- whether a JSON value is this text
abbrev pub is_word : Text → Data → Bool
is_word text d = option_map_or (λ t. same t text) (text_of d) false

-- whether a JSON value is the word of a remove, a join or a drop, which have one item behind it
abbrev pub has_one_behind : Data → Bool
has_one_behind word = is_word (codes "remove") word || is_word (codes "join") word || is_word (codes "drop") word

-- whether items have the number and the word of a put, a remove, a join or a drop
abbrev pub are_write : Items → Bool
are_write no_items = false
are_write (item word no_items) = false
are_write (item word (item a no_items)) = has_one_behind word
are_write (item word (item a (item b no_items))) = is_word (codes "put") word
are_write (item word (item a (item b (item c others)))) = false

-- whether a JSON value is an array of such items
abbrev pub is_write : Data → Bool
is_write null = false
is_write (boolean b) = false
is_write (number n) = false
is_write (string s) = false
is_write (array ds) = are_write ds
is_write (object ms) = false

-- the event by which a client appends a write
abbrev pub append_event : Data → Data → Result Event LineFault
append_event a b = or_form (option_and_then (λ client. option_map (append_texts client) (form_of b)) (number_of a))

-- the event by which a scan is answered up to a text
abbrev pub piece_of : Data → Data → Result Event LineFault
piece_of a b = or_form (option_and_then (λ scan. option_map (piece_event scan) (text_of b)) (number_of a))

-- the event by which a cell is advanced to a position
abbrev pub advance_of : Data → Data → Result Event LineFault
advance_of a b = or_form (option_and_then (λ cell. option_map (λ to. Ok (advance cell to)) (position_of b)) (number_of a))
