-- Replies and their texts.
use Rattle.std.specs.Prelude.{ℕ, List, [], ◌∷◌, map, codes, Option, Some, None}
use Rattle.serde_json.specs.Data.{Data, string}
use Rattle.semantics.specs.Texts.{Text}
use Rattle.semantics.specs.Histories.{Write, put, remove, declare, drop_join, Entry, History}
use Rattle.semantics.specs.Verdicts.{Cause, computed, full, nojoin, slots, sources, clash, cycle, deep, many}
use Rattle.semantics.specs.Answers.{Answer, found, absent, pairs}
use Rattle.growing_history.specs.StateChanges.{Change}
use Rattle.protocol.specs.JoinText.{canonical_text}
use Rattle.protocol.specs.Rows.{whole_number, list_of, row}
use Rattle.protocol.specs.JoinsFile.{cause_name}
use Rattle.protocol.specs.Requests.{LineFault, json, form, key, value, range, syntax}

pub data Reply : Type 0 where
  done : ℕ → Reply
  answered : Answer → Reply
  refused : ℕ → Cause → Reply
  gone : ℕ → Reply
  ahead : ℕ → Reply
  changed : ℕ → ℕ → List Change → Reply
  fed : ℕ → ℕ → History → Reply
  unread : LineFault → Reply
  long : Reply
  memory : Reply
  bye : Reply

abbrev pub fault_name : LineFault → Text
fault_name json = codes "json"
fault_name form = codes "form"
fault_name key = codes "key"
fault_name value = codes "value"
fault_name range = codes "range"
fault_name (syntax at) = codes "syntax"

-- what a fault carries behind its name
abbrev pub fault_items : LineFault → List Data
fault_items json = []
fault_items form = []
fault_items key = []
fault_items value = []
fault_items range = []
fault_items (syntax at) = whole_number at ∷ []

-- what a cause carries behind its name and position
abbrev pub cause_items : Cause → List Data
cause_items (computed position) = whole_number position ∷ []
cause_items full = []
cause_items nojoin = []
cause_items slots = []
cause_items sources = []
cause_items (clash position) = whole_number position ∷ []
cause_items (cycle positions) = list_of (map whole_number positions) ∷ []
cause_items deep = []
cause_items many = []

-- a pair is an array of its key and its value
abbrev pub pair_item : Text × Text → Data
pair_item pair = list_of (string pair.0 ∷ string pair.1 ∷ [])

abbrev pub answer_items : Answer → List Data
answer_items (found n v) = string (codes "value") ∷ whole_number n ∷ string v ∷ []
answer_items (absent n) = string (codes "none") ∷ whole_number n ∷ []
answer_items (pairs n table) = string (codes "pairs") ∷ whole_number n ∷ list_of (map pair_item table) ∷ []

-- the value of a key that has one; nothing for a key that has gone
abbrev pub value_items : Option Text → List Data
value_items None = []
value_items (Some v) = string v ∷ []

-- a change is an array of its key, and of its value if it has one
abbrev pub change_item : Change → Data
change_item change = list_of (string change.key ∷ value_items change.value)

-- the position from which changes are listed, that up to which, and the changes
abbrev pub changed_items : ℕ → ℕ → List Change → List Data
changed_items from n changes = string (codes "changes") ∷ whole_number from ∷ whole_number n ∷ list_of (map change_item changes) ∷ []

-- the request that a write is
abbrev pub write_items : Write → List Data
write_items (put k v) = string (codes "put") ∷ string k ∷ string v ∷ []
write_items (remove k) = string (codes "remove") ∷ string k ∷ []
write_items (declare j) = string (codes "join") ∷ string (canonical_text j) ∷ []
write_items (drop_join n) = string (codes "drop") ∷ whole_number n ∷ []

-- an entry is an array of its client's number and its write
abbrev pub entry_item : Entry → Data
entry_item e = list_of (whole_number e.client ∷ list_of (write_items e.write) ∷ [])

-- the position after which entries are listed, the number of all, and the entries
abbrev pub entries_items : ℕ → ℕ → History → List Data
entries_items from n es = string (codes "entries") ∷ whole_number from ∷ whole_number n ∷ list_of (map entry_item es) ∷ []

abbrev pub error_items : Text → List Data → List Data
error_items name others = string (codes "error") ∷ string name ∷ others

-- the items of the array that a reply is
abbrev pub reply_items : Reply → List Data
reply_items (done n) = string (codes "ok") ∷ whole_number n ∷ []
reply_items (answered a) = answer_items a
reply_items (refused n cause) = error_items (cause_name cause) (whole_number n ∷ cause_items cause)
reply_items (gone n) = error_items (codes "gone") (whole_number n ∷ [])
reply_items (ahead n) = error_items (codes "ahead") (whole_number n ∷ [])
reply_items (changed from n changes) = changed_items from n changes
reply_items (fed from n es) = entries_items from n es
reply_items (unread fault) = error_items (fault_name fault) (fault_items fault)
reply_items long = error_items (codes "long") []
reply_items memory = error_items (codes "memory") []
reply_items bye = string (codes "bye") ∷ []

-- `Text`: the compact text of the reply's array, and the byte 10
unfoldable pub reply_text : Reply → Text
reply_text reply = row (reply_items reply)
