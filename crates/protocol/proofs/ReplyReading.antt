-- A reply is read back from its items.
use Rattle.std.proofs.Common.{◌≡◌, ℕ, List, [], ◌∷◌, map, Option, Some, None, Result, Ok, Err, refl, ap, ap₂, sym, ◌∙◌}
use Rattle.std.specs.Prelude.{codes, if◌then◌else◌}
use Rattle.std.specs.List.{AllByRecursion, slice_index_or}
use Rattle.serde_json.specs.Data.{Num, unsigned, negative, float, Data, null, boolean, number, string, array, object, Items, no_items, item}
use Rattle.semantics.specs.Texts.{Text, Table, same}
use Rattle.semantics.specs.Joins.{Join}
use Rattle.semantics.specs.Histories.{Write, put, remove, declare, drop_join, Entry, History}
use Rattle.semantics.specs.Verdicts.{computed, full, nojoin, slots, sources, clash, cycle, deep, many}
use Rattle.semantics.specs.Answers.{found, absent, pairs}
use Rattle.growing_history.specs.StateChanges.{Change}
use Rattle.protocol.specs.JoinText.{read_join}
use Rattle.protocol.specs.Rows.{whole_number, list_of}
use Rattle.protocol.specs.Requests.{json, form, key, value, range, syntax}
use Rattle.protocol.specs.Replies.{Reply, done, answered, refused, gone, ahead, changed, fed, unread, long, memory, bye, pair_item, value_items, change_item, write_items, entry_item, reply_items}
use Rattle.protocol.specs.ReplyLaws.{HasSmallWrite, HasSmallEntry, HasSmallNumbers}

-- the whole number, or 0
abbrev whole_in : Num → ℕ
whole_in (unsigned n) = n
whole_in (negative z) = 0
whole_in (float x) = 0

-- the number that a value is, or 0
abbrev number_in : Data → ℕ
number_in null = 0
number_in (boolean b) = 0
number_in (number n) = whole_in n
number_in (string s) = 0
number_in (array ds) = 0
number_in (object ms) = 0

-- the text that a value is, or the empty one
abbrev text_in : Data → Text
text_in null = []
text_in (boolean b) = []
text_in (number n) = []
text_in (string s) = s
text_in (array ds) = []
text_in (object ms) = []

-- items as a list
abbrev listed_items : Items → List Data
listed_items no_items = []
listed_items (item d ds) = d ∷ listed_items ds

-- the items of the array that a value is, or none
abbrev list_in : Data → List Data
list_in null = []
list_in (boolean b) = []
list_in (number n) = []
list_in (string s) = []
list_in (array ds) = listed_items ds
list_in (object ms) = []

-- the item at a place, or null
abbrev item_at : List Data → ℕ → Data
item_at items i = slice_index_or items i null

-- the pair whose key and value are the first two items
abbrev pair_in : Data → Text × Text
pair_in d = (text_in (item_at (list_in d) 0), text_in (item_at (list_in d) 1))

-- the value behind a key, where there is one
abbrev value_in : List Data → Option Text
value_in [] = None
value_in (k ∷ []) = None
value_in (k ∷ v ∷ others) = Some (text_in v)

-- the change whose key is the first item, and whose value the second, where there is one
abbrev change_in : Data → Change
change_in d = record { key = text_in (item_at (list_in d) 0); value = value_in (list_in d) }

-- the declaration of a join that was read
abbrev declared_in : Result Join ℕ → Write
declared_in (Err at) = drop_join 0
declared_in (Ok j) = declare j

-- the write whose request these items are
abbrev write_in : List Data → Write
write_in items =
    if same (text_in (item_at items 0)) (codes "put") then put (text_in (item_at items 1)) (text_in (item_at items 2))
    else (if same (text_in (item_at items 0)) (codes "remove") then remove (text_in (item_at items 1))
    else (if same (text_in (item_at items 0)) (codes "join") then declared_in (read_join (text_in (item_at items 1)))
    else drop_join (number_in (item_at items 1))))

-- the entry whose client's number and write are the first two items
abbrev entry_in : Data → Entry
entry_in d = record { client = number_in (item_at (list_in d) 0); write = write_in (list_in (item_at (list_in d) 1)) }

-- the reply that names this error
abbrev error_in : Text → List Data → Reply
error_in name items =
    if same name (codes "computed") then refused (number_in (item_at items 2)) (computed (number_in (item_at items 3)))
    else (if same name (codes "full") then refused (number_in (item_at items 2)) full
    else (if same name (codes "nojoin") then refused (number_in (item_at items 2)) nojoin
    else (if same name (codes "slots") then refused (number_in (item_at items 2)) slots
    else (if same name (codes "sources") then refused (number_in (item_at items 2)) sources
    else (if same name (codes "clash") then refused (number_in (item_at items 2)) (clash (number_in (item_at items 3)))
    else (if same name (codes "cycle") then refused (number_in (item_at items 2)) (cycle (map number_in (list_in (item_at items 3))))
    else (if same name (codes "deep") then refused (number_in (item_at items 2)) deep
    else (if same name (codes "many") then refused (number_in (item_at items 2)) many
    else (if same name (codes "json") then unread json
    else (if same name (codes "form") then unread form
    else (if same name (codes "key") then unread key
    else (if same name (codes "value") then unread value
    else (if same name (codes "range") then unread range
    else (if same name (codes "syntax") then unread (syntax (number_in (item_at items 2)))
    else (if same name (codes "gone") then gone (number_in (item_at items 2))
    else (if same name (codes "ahead") then ahead (number_in (item_at items 2))
    else (if same name (codes "long") then long
    else memory)))))))))))))))))

-- the reply whose items these are
abbrev reply_in : List Data → Reply
reply_in items =
    if same (text_in (item_at items 0)) (codes "error") then error_in (text_in (item_at items 1)) items
    else (if same (text_in (item_at items 0)) (codes "ok") then done (number_in (item_at items 1))
    else (if same (text_in (item_at items 0)) (codes "value") then answered (found (number_in (item_at items 1)) (text_in (item_at items 2)))
    else (if same (text_in (item_at items 0)) (codes "none") then answered (absent (number_in (item_at items 1)))
    else (if same (text_in (item_at items 0)) (codes "pairs") then answered (pairs (number_in (item_at items 1)) (map pair_in (list_in (item_at items 2))))
    else (if same (text_in (item_at items 0)) (codes "changes") then changed (number_in (item_at items 1)) (number_in (item_at items 2)) (map change_in (list_in (item_at items 3)))
    else (if same (text_in (item_at items 0)) (codes "entries") then fed (number_in (item_at items 1)) (number_in (item_at items 2)) (map entry_in (list_in (item_at items 3)))
    else bye))))))

-- a table is read back from its items
pairs_read : (table : Table) → map pair_in (list_in (list_of (map pair_item table))) ≡ table
pairs_read [] = refl
pairs_read (pair ∷ table) = ap (λ others. pair ∷ others) (pairs_read table)

-- numbers are read back from their items
numbers_read : (ns : List ℕ) → map number_in (list_in (list_of (map whole_number ns))) ≡ ns
numbers_read [] = refl
numbers_read (n ∷ ns) = ap (λ others. n ∷ others) (numbers_read ns)

-- a change is read back from its item
change_read : (k : Text) (v : Option Text) → change_in (list_of (string k ∷ value_items v)) ≡ record { key = k; value = v }
change_read k None = refl
change_read k (Some v) = refl

-- changes are read back from their items
changes_read : (changes : List Change) → map change_in (list_in (list_of (map change_item changes))) ≡ changes
changes_read [] = refl
changes_read (change ∷ changes) = ap₂ (λ c others. c ∷ others) (change_read change.key change.value) (changes_read changes)

-- a write is read back from its items
write_read : (w : Write) → HasSmallWrite w → write_in (write_items w) ≡ w
write_read (put k v) h = refl
write_read (remove k) h = refl
write_read (declare j) h = ap declared_in h
write_read (drop_join n) h = refl

-- listed items are read back
listed_read : (ds : List Data) → list_in (list_of ds) ≡ ds
listed_read [] = refl
listed_read (d ∷ ds) = ap (λ others. d ∷ others) (listed_read ds)

-- an entry is read back from its items
entry_read : (e : Entry) → HasSmallEntry e → entry_in (entry_item e) ≡ e
entry_read e h = ap (λ w. record { client = e.client; write = w }) (ap write_in (listed_read (write_items e.write)) ∙ write_read e.write h.1)

-- entries are read back from their items
entries_read : (es : History) → AllByRecursion HasSmallEntry es → map entry_in (list_in (list_of (map entry_item es))) ≡ es
entries_read [] h = refl
entries_read (e ∷ es) h = ap₂ (λ first others. first ∷ others) (entry_read e h.0) (entries_read es h.1)

-- a reply is read back from its items
reply_in-reply_items : (reply : Reply) → HasSmallNumbers reply → reply_in (reply_items reply) ≡ reply
reply_in-reply_items (done n) h = refl
reply_in-reply_items (answered (found n v)) h = refl
reply_in-reply_items (answered (absent n)) h = refl
reply_in-reply_items (answered (pairs n table)) h = ap (λ t. answered (pairs n t)) (pairs_read table)
reply_in-reply_items (refused n (computed position)) h = refl
reply_in-reply_items (refused n full) h = refl
reply_in-reply_items (refused n nojoin) h = refl
reply_in-reply_items (refused n slots) h = refl
reply_in-reply_items (refused n sources) h = refl
reply_in-reply_items (refused n (clash position)) h = refl
reply_in-reply_items (refused n (cycle positions)) h = ap (λ ns. refused n (cycle ns)) (numbers_read positions)
reply_in-reply_items (refused n deep) h = refl
reply_in-reply_items (refused n many) h = refl
reply_in-reply_items (gone n) h = refl
reply_in-reply_items (ahead n) h = refl
reply_in-reply_items (changed from n changes) h = ap (λ listed. changed from n listed) (changes_read changes)
reply_in-reply_items (fed from n es) h = ap (λ listed. fed from n listed) (entries_read es h.2)
reply_in-reply_items (unread json) h = refl
reply_in-reply_items (unread form) h = refl
reply_in-reply_items (unread key) h = refl
reply_in-reply_items (unread value) h = refl
reply_in-reply_items (unread range) h = refl
reply_in-reply_items (unread (syntax at)) h = refl
reply_in-reply_items long h = refl
reply_in-reply_items memory h = refl
reply_in-reply_items bye h = refl

-- replies with the same items are the same
pub reply_items_injective : (reply other : Reply) → HasSmallNumbers reply → HasSmallNumbers other → reply_items reply ≡ reply_items other → reply ≡ other
reply_items_injective reply other h k equal = sym (reply_in-reply_items reply h) ∙ ap reply_in equal ∙ reply_in-reply_items other k
