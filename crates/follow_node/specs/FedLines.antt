-- What a line that a home answers to a feed is.
use Rattle.std.specs.Prelude.{ℕ, List, codes, if◌then◌else◌, Option, Some, None}
use Rattle.serde_json.specs.Data.{Data, Items, no_items, item}
use Rattle.serde_json.specs.Find.{as_array}
use Rattle.protocol.specs.Lines.{Bytes}
use Rattle.protocol.specs.Requests.{json_of, text_of, position_of}
use Rattle.protocol.specs.Batches.{Batch, is_text, batch_of}

-- a line that a home may answer, or another
pub data FedLine : Type 0 where
  of_entries : Batch → FedLine
  of_memory : FedLine
  of_gone : ℕ → FedLine
  of_ahead : ℕ → FedLine
  of_none : FedLine

-- the refusal of a name alone
abbrev pub refusal_named : Option (List ℕ) → FedLine
refusal_named name = if is_text (codes "memory") name then of_memory else of_none

-- the refusal of a name with the number of entries
abbrev pub refusal_numbered : Option (List ℕ) → Option ℕ → FedLine
refusal_numbered name None = of_none
refusal_numbered name (Some n) =
    if is_text (codes "gone") name then of_gone n else (if is_text (codes "ahead") name then of_ahead n else of_none)

abbrev pub refusal_of_items : Items → FedLine
refusal_of_items no_items = of_none
refusal_of_items (item w no_items) = of_none
refusal_of_items (item w (item name no_items)) = if is_text (codes "error") (text_of w) then refusal_named (text_of name) else of_none
refusal_of_items (item w (item name (item n no_items))) =
    if is_text (codes "error") (text_of w) then refusal_numbered (text_of name) (position_of n) else of_none
refusal_of_items (item w (item name (item n (item d ds)))) = of_none

abbrev pub refusal_by : Option Items → FedLine
refusal_by None = of_none
refusal_by (Some items) = refusal_of_items items

-- the refusal that a JSON value is
abbrev pub refusal_of : Data → FedLine
refusal_of d = refusal_by (as_array d)

abbrev pub refusal_in : Option Data → FedLine
refusal_in None = of_none
refusal_in (Some d) = refusal_of d

abbrev pub line_of : Option Batch → Option Data → FedLine
line_of None value = refusal_in value
line_of (Some batch) value = of_entries batch

-- what a line is, without its byte 10
unfoldable pub fed_line : Bytes → FedLine
fed_line line = line_of (batch_of line) (json_of line)
