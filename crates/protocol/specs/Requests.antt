-- What a line asks for.
use Rattle.std.specs.Prelude.{ℕ, ◌^◌, nat_lt, List, [], ◌∷◌, codes, not, if◌then◌else◌, Option, Some, None, option_map, option_and_then, Result, Ok, Err}
use Rattle.std.specs.Str.{is_utf8}
use Rattle.serde_json.specs.Data.{Num, unsigned, negative, float, Data, null, boolean, number, string, array, object, Items, no_items, item}
use Rattle.serde_json.specs.Read.{read as read_json}
use Rattle.semantics.specs.Texts.{Text, Range, same, is_key, is_value, is_range}
use Rattle.semantics.specs.Joins.{Join}
use Rattle.semantics.specs.Histories.{Write, put, remove, declare, drop_join}
use Rattle.semantics.specs.Answers.{Read, get, scan}
use Rattle.protocol.specs.JoinText.{read_join}
use Rattle.protocol.specs.Lines.{Bytes}

-- a question that names a position of the history: the pairs of a range there, what changed in a range since, or the entries after it
pub data Earlier : Type 0 where
  scan_at : Range → ℕ → Earlier
  changes_since : Range → ℕ → Earlier
  feed_from : ℕ → Earlier

-- a request writes, reads after all entries, asks about an earlier position, or ends the session
pub data Request : Type 0 where
  write : Write → Request
  read : Read → Request
  earlier : Earlier → Request
  quit : Request

-- why a line is no request; `syntax` carries the byte of the join text
pub data LineFault : Type 0 where
  json : LineFault
  form : LineFault
  key : LineFault
  value : LineFault
  range : LineFault
  syntax : ℕ → LineFault

-- the JSON value of a line (RFC 8259), where it has one
abbrev pub json_of : Bytes → Option Data
json_of line = if is_utf8 line then read_json line else None

abbrev pub text_of : Data → Option Text
text_of null = None
text_of (boolean b) = None
text_of (number n) = None
text_of (string s) = Some s
text_of (array ds) = None
text_of (object ms) = None

-- the whole number that a JSON number is, where it is below a limit
abbrev pub unsigned_below : ℕ → Num → Option ℕ
unsigned_below limit (unsigned n) = if nat_lt n limit then Some n else None
unsigned_below limit (negative z) = None
unsigned_below limit (float f) = None

-- the whole number that a JSON value is, where it is below a limit
abbrev pub whole_below : ℕ → Data → Option ℕ
whole_below limit null = None
whole_below limit (boolean b) = None
whole_below limit (number n) = unsigned_below limit n
whole_below limit (string s) = None
whole_below limit (array ds) = None
whole_below limit (object ms) = None

-- a position of a history
abbrev pub position_of : Data → Option ℕ
position_of = whole_below (2 ^ 48)

-- a text before others and what stands behind them
abbrev pub with_text : Text → List Text × Option ℕ → List Text × Option ℕ
with_text t items = (t ∷ items.0, items.1)

-- the last item alone: a text, or a position
abbrev pub last_item : Option Text → Option ℕ → Option (List Text × Option ℕ)
last_item (Some t) position = Some (t ∷ [], None)
last_item None (Some n) = Some ([], Some n)
last_item None None = None

-- the items, where each is a string but that the last may be a position: the texts, and the position
abbrev pub texts_and_position : Items → Option (List Text × Option ℕ)
texts_and_position no_items = Some ([], None)
texts_and_position (item d no_items) = last_item (text_of d) (position_of d)
texts_and_position (item d (item e ds)) = option_and_then (λ t. option_map (with_text t) (texts_and_position (item e ds))) (text_of d)

-- the texts of an array of strings, and a position behind them
abbrev pub form_of : Data → Option (List Text × Option ℕ)
form_of null = None
form_of (boolean b) = None
form_of (number n) = None
form_of (string s) = None
form_of (array ds) = texts_and_position ds
form_of (object ms) = None

abbrev pub put_request : Text → Text → Result Request LineFault
put_request k v = if not (is_key k) then Err key else (if not (is_value v) then Err value else Ok (write (put k v)))

abbrev pub remove_request : Text → Result Request LineFault
remove_request k = if is_key k then Ok (write (remove k)) else Err key

abbrev pub get_request : Text → Result Request LineFault
get_request k = if is_key k then Ok (read (get k)) else Err key

abbrev pub scan_request : Text → Text → Result Request LineFault
scan_request low high = if is_range low high then Ok (read (scan (record { low = low; high = high }))) else Err range

abbrev pub join_or_syntax : Result Join ℕ → Result Request LineFault
join_or_syntax (Err at) = Err (syntax at)
join_or_syntax (Ok j) = Ok (write (declare j))

abbrev pub request_of_one : Text → Result Request LineFault
request_of_one word = if same word (codes "quit") then Ok quit else Err form

abbrev pub request_of_two : Text → Text → Result Request LineFault
request_of_two word a =
    if same word (codes "remove") then remove_request a
    else (if same word (codes "join") then join_or_syntax (read_join a)
    else (if same word (codes "get") then get_request a else Err form))

abbrev pub request_of_three : Text → Text → Text → Result Request LineFault
request_of_three word a b =
    if same word (codes "put") then put_request a b
    else (if same word (codes "scan") then scan_request a b else Err form)

-- the request that a list of texts is
abbrev pub request_of_texts : List Text → Result Request LineFault
request_of_texts [] = Err form
request_of_texts (word ∷ []) = request_of_one word
request_of_texts (word ∷ a ∷ []) = request_of_two word a
request_of_texts (word ∷ a ∷ b ∷ []) = request_of_three word a b
request_of_texts (word ∷ a ∷ b ∷ c ∷ others) = Err form

-- a question about a position is asked of a range
abbrev pub earlier_request : (Range → ℕ → Earlier) → Text → Text → ℕ → Result Request LineFault
earlier_request question low high n = if is_range low high then Ok (earlier (question (record { low = low; high = high }) n)) else Err range

abbrev pub numbered_request : Text → ℕ → Result Request LineFault
numbered_request word n =
    if same word (codes "drop") then Ok (write (drop_join n))
    else (if same word (codes "feed") then Ok (earlier (feed_from n)) else Err form)

abbrev pub bounds_request : Text → Text → Text → ℕ → Result Request LineFault
bounds_request word a b n =
    if same word (codes "scan") then earlier_request scan_at a b n
    else (if same word (codes "changes") then earlier_request changes_since a b n else Err form)

-- the request that texts with a position behind them are
abbrev pub request_at : List Text → ℕ → Result Request LineFault
request_at [] n = Err form
request_at (word ∷ []) n = numbered_request word n
request_at (word ∷ a ∷ []) n = Err form
request_at (word ∷ a ∷ b ∷ []) n = bounds_request word a b n
request_at (word ∷ a ∷ b ∷ c ∷ others) n = Err form

abbrev pub request_of_items : List Text × Option ℕ → Result Request LineFault
request_of_items (texts, None) = request_of_texts texts
request_of_items (texts, Some n) = request_at texts n

abbrev pub request_of_form : Option (List Text × Option ℕ) → Result Request LineFault
request_of_form None = Err form
request_of_form (Some items) = request_of_items items

-- the request that a JSON value is: from `form` on
abbrev pub request_of_value : Data → Result Request LineFault
request_of_value d = request_of_form (form_of d)

abbrev pub request_of_json : Option Data → Result Request LineFault
request_of_json None = Err json
request_of_json (Some d) = request_of_value d

-- `Request`: the request that a line is, or the first of `json`, `form`, `key`, `value`, `range` and `syntax` that refuses it
unfoldable pub request_of : Bytes → Result Request LineFault
request_of line = request_of_json (json_of line)
