-- The entries that a line of a feed has.
use Rattle.std.specs.Prelude.{ℕ, ◌^◌, List, [], ◌∷◌, codes, Bool, true, false, if◌then◌else◌, Option, Some, None, option_map, option_and_then, Result, Ok, Err}
use Rattle.serde_json.specs.Data.{Data, null, boolean, number, string, array, object, Items, no_items, item}
use Rattle.serde_json.specs.Find.{as_array}
use Rattle.semantics.specs.Texts.{Text, same}
use Rattle.semantics.specs.Histories.{Write, put, remove, declare, drop_join, Entry, History}
use Rattle.protocol.specs.JoinText.{canonical_text}
use Rattle.protocol.specs.Lines.{Bytes}
use Rattle.protocol.specs.Requests.{Request, write, read, earlier, quit, LineFault, json_of, text_of, whole_below, position_of, request_of_value}

-- entries, the position after which they stand, and the number of all
pub record Batch : Type 0 where
  pub from : ℕ
  pub position : ℕ
  pub entries : History

-- the second item, where it is a text
abbrev pub second_text : Items → Option Text
second_text no_items = None
second_text (item d no_items) = None
second_text (item d (item e ds)) = text_of e

abbrev pub is_text : Text → Option Text → Bool
is_text t None = false
is_text t (Some u) = same u t

-- whether the text of a join is its canonical one
abbrev pub keeps_text : Write → Option Text → Bool
keeps_text (put k v) second = true
keeps_text (remove k) second = true
keeps_text (declare j) second = is_text (canonical_text j) second
keeps_text (drop_join n) second = true

abbrev pub write_of_request : Result Request LineFault → Option Text → Option Write
write_of_request (Err fault) second = None
write_of_request (Ok (write w)) second = if keeps_text w second then Some w else None
write_of_request (Ok (read r)) second = None
write_of_request (Ok (earlier e)) second = None
write_of_request (Ok quit) second = None

-- the write that a JSON value is the request of
abbrev pub write_of : Data → Option Write
write_of d = write_of_request (request_of_value d) (option_and_then second_text (as_array d))

-- the number of a client
abbrev pub client_of : Data → Option ℕ
client_of = whole_below (2 ^ 32)

abbrev pub entry_by : Option ℕ → Option Write → Option Entry
entry_by None w = None
entry_by (Some c) None = None
entry_by (Some c) (Some w) = Some (record { client = c; write = w })

abbrev pub entry_of_items : Items → Option Entry
entry_of_items no_items = None
entry_of_items (item c no_items) = None
entry_of_items (item c (item w no_items)) = entry_by (client_of c) (write_of w)
entry_of_items (item c (item w (item d ds))) = None

-- the entry that a JSON value is
abbrev pub entry_of : Data → Option Entry
entry_of d = option_and_then entry_of_items (as_array d)

-- the entries that items are
abbrev pub entries_of : Items → Option History
entries_of no_items = Some []
entries_of (item d ds) = option_and_then (λ e. option_map (λ es. e ∷ es) (entries_of ds)) (entry_of d)

abbrev pub batch_by : Option ℕ → Option ℕ → Option History → Option Batch
batch_by None n es = None
batch_by (Some from) None es = None
batch_by (Some from) (Some n) None = None
batch_by (Some from) (Some n) (Some es) = Some (record { from = from; position = n; entries = es })

abbrev pub batch_of_items : Items → Option Batch
batch_of_items no_items = None
batch_of_items (item w no_items) = None
batch_of_items (item w (item from no_items)) = None
batch_of_items (item w (item from (item n no_items))) = None
batch_of_items (item w (item from (item n (item list no_items)))) =
    if is_text (codes "entries") (text_of w) then batch_by (position_of from) (position_of n) (option_and_then entries_of (as_array list)) else None
batch_of_items (item w (item from (item n (item list (item d ds))))) = None

-- the entries that a line is, without its byte 10
abbrev pub batch_of : Bytes → Option Batch
batch_of line = option_and_then (λ d. option_and_then batch_of_items (as_array d)) (json_of line)
