-- What the lines of a home's replies to feeds are.
use Rattle.std.proofs.Common.{◌≡◌, ℕ, ◌<◌, ◌≤◌, ◌^◌, ◌⊎◌, inl, inr, List, [], ◌∷◌, length, map, take, drop, Bool, true, false, Option, Some, None, option_map, option_and_then, refl, sym, ap, ap₂, ◌∙◌, subst, arith}
use Rattle.std.specs.Prelude.{codes, if◌then◌else◌, nat_lt, not, Result, Ok, Err}
use Rattle.std.specs.List.{AllByRecursion, AllZip}
use Rattle.std.specs.Str.{is_utf8}
use Rattle.std.proofs.lemmas.List.{take-append-drop}
use Rattle.json.specs.Tree as tree
use Rattle.serde_json.specs.Data.{Data, string, Items, no_items, item}
use Rattle.serde_json.specs.Find.{as_array}
use Rattle.serde_json.specs.Read.{read, max_depth}
use Rattle.serde_json.specs.View.{items_of}
use Rattle.serde_json.specs.Written.{outline, items_outline, compact_text}
use Rattle.semantics.specs.Texts.{Text, is_key, is_value}
use Rattle.semantics.specs.Joins.{Join}
use Rattle.semantics.specs.Histories.{Write, put, remove, declare, drop_join, Entry, History}
use Rattle.protocol.specs.JoinText.{read_join, canonical_text}
use Rattle.protocol.specs.Lines.{Bytes}
use Rattle.protocol.specs.Requests.{LineFault, key, value, Request, write, read as reads, earlier, quit, scan_at, changes_since, feed_from, with_text, last_item, join_or_syntax, request_of_form, json_of, text_of, position_of}
use Rattle.protocol.specs.Replies.{Reply, done, answered, refused, gone, ahead, changed, fed, unread, long, memory, bye, write_items, entry_item, entries_items, reply_items}
use Rattle.protocol.specs.Feeds.{run}
use Rattle.protocol.specs.Told.{IsWithinReach, Answers, places, InOrder}
use Rattle.protocol.specs.ReplyLaws.{IsSmall, IsReadBack, HasSmallWrite, HasSmallEntry}
use Rattle.protocol.specs.Batches.{Batch, is_text, write_of_request, write_of, client_of, entry_by, entry_of, entries_of, batch_by, batch_of_items}
use Rattle.protocol.specs.Rows.{whole_number, list_of}
use Rattle.protocol.proofs.CompactTexts.{IsSmallData, AreSmallItems-items_of}
use Rattle.protocol.proofs.ReplyTexts.{reply_front}
use Rattle.growing_history.proofs.ElementLemmas.{all_left, all_right, all_then}
use Rattle.join_lang.proofs.BackLemmas.{reads_back}
use Rattle.follow_node.specs.FedLines.{FedLine, of_entries, of_memory, of_gone, of_ahead, of_none, refusal_named, refusal_numbered, refusal_of_items, refusal_by, refusal_in, line_of, fed_line}
use Rattle.follow_node.specs.FedLaw.{IsFeed, is_parsed, IsParsed, TellsView}
use Rattle.follow_node.proofs.LinesFeed.{run_front}
use Rattle.follow_node.proofs.ReadBack.{read-compact_text}

-- there is nothing, or this
abbrev Perhaps : {A : Type 0} → Option A → A → Type 0
Perhaps found a = (found ≡ None) ⊎ (found ≡ Some a)

perhaps_if : {A : Type 0} (b : Bool) (a : A) → Perhaps (if b then Some a else None) a
perhaps_if true a = inr refl
perhaps_if false a = inl refl

-- ---- the write of its request

put_back : (k v : Text) (second : Option Text) (b c : Bool) → Perhaps (write_of_request (if b then Err key else (if c then Err value else Ok (write (put k v)))) second) (put k v)
put_back k v second true c = inl refl
put_back k v second false true = inl refl
put_back k v second false false = inr refl

remove_back : (k : Text) (second : Option Text) (b : Bool) → Perhaps (write_of_request (if b then Ok (write (remove k)) else Err key) second) (remove k)
remove_back k second true = inr refl
remove_back k second false = inl refl

declare_back : (j : Join) (second : Option Text) (r : Result Join ℕ) → r ≡ Ok j → Perhaps (write_of_request (join_or_syntax r) second) (declare j)
declare_back j second r is =
    subst (λ (found : Result Join ℕ). Perhaps (write_of_request (join_or_syntax found) second) (declare j)) (sym is) (perhaps_if (is_text (canonical_text j) second) (declare j))

drop_back : (n : ℕ) (b : Bool) → Perhaps (write_of_request (request_of_form (option_map (with_text (codes "drop")) (last_item None (if b then Some n else None)))) None) (drop_join n)
drop_back n true = inr refl
drop_back n false = inl refl

write_back : (w : Write) → HasSmallWrite w → Perhaps (write_of (list_of (write_items w))) w
write_back (put k v) h = put_back k v (Some k) (not (is_key k)) (not (is_value v))
write_back (remove k) h = remove_back k (Some k) (is_key k)
write_back (declare j) h = declare_back j (Some (canonical_text j)) (read_join (canonical_text j)) h
write_back (drop_join n) h = drop_back n (nat_lt n (2 ^ 48))

-- ---- the entries of their items

abbrev the_entry : ℕ → Write → Entry
the_entry c w = record { client = c; write = w }

both : (oc : Option ℕ) (ow : Option Write) (e : Entry) → Perhaps oc e.client → Perhaps ow e.write → Perhaps (entry_by oc ow) e
both None ow e hc hw = inl refl
both (Some c) None e hc hw = inl refl
both (Some c) (Some w) e (inl h) hw = absurd (cc)
both (Some c) (Some w) e (inr h) (inl k) = absurd (cc)
both (Some c) (Some w) e (inr h) (inr k) =
    let same_client : c ≡ e.client = cc in
    let same_write : w ≡ e.write = cc in
    inr (ap₂ (λ (x : ℕ) (y : Write). Some (the_entry x y)) same_client same_write)

entry_back : (e : Entry) → HasSmallEntry e → Perhaps (entry_of (entry_item e)) e
entry_back e h = both (client_of (whole_number e.client)) (write_of (list_of (write_items e.write))) e (perhaps_if (nat_lt e.client (2 ^ 32)) e.client) (write_back e.write h.1)

before_others : (oe : Option Entry) (oes : Option History) (e : Entry) (es : History) → Perhaps oe e → Perhaps oes es →
    Perhaps (option_and_then (λ x. option_map (λ xs. x ∷ xs) oes) oe) (e ∷ es)
before_others None oes e es he hs = inl refl
before_others (Some x) None e es he hs = inl refl
before_others (Some x) (Some xs) e es (inl h) hs = absurd (cc)
before_others (Some x) (Some xs) e es (inr h) (inl k) = absurd (cc)
before_others (Some x) (Some xs) e es (inr h) (inr k) =
    let first : x ≡ e = cc in
    let others : xs ≡ es = cc in
    inr (ap₂ (λ (y : Entry) (ys : History). Some (y ∷ ys)) first others)

entries_back : (es : History) → AllByRecursion HasSmallEntry es → Perhaps (entries_of (items_of (map entry_item es))) es
entries_back [] h = inr refl
entries_back (e ∷ es) h = before_others (entry_of (entry_item e)) (entries_of (items_of (map entry_item es))) e es (entry_back e h.0) (entries_back es h.1)

-- ---- the batch of its items

abbrev the_batch : ℕ → ℕ → History → Batch
the_batch from n es = record { from = from; position = n; entries = es }

all_three : (ofrom on : Option ℕ) (oes : Option History) (from n : ℕ) (es : History) → Perhaps ofrom from → Perhaps on n → Perhaps oes es → Perhaps (batch_by ofrom on oes) (the_batch from n es)
all_three None on oes from n es hf hn hs = inl refl
all_three (Some f) None oes from n es hf hn hs = inl refl
all_three (Some f) (Some m) None from n es hf hn hs = inl refl
all_three (Some f) (Some m) (Some l) from n es (inl h) hn hs = absurd (cc)
all_three (Some f) (Some m) (Some l) from n es (inr h) (inl k) hs = absurd (cc)
all_three (Some f) (Some m) (Some l) from n es (inr h) (inr k) (inl i) = absurd (cc)
all_three (Some f) (Some m) (Some l) from n es (inr h) (inr k) (inr i) =
    let first : f ≡ from = cc in
    let last : m ≡ n = cc in
    let listed : l ≡ es = cc in
    inr (ap₂ (λ (x y : ℕ). Some (the_batch x y l)) first last ∙ ap (λ (x : History). Some (the_batch from n x)) listed)

batch_back : (from n : ℕ) (es : History) → AllByRecursion HasSmallEntry es → Perhaps (batch_of_items (items_of (entries_items from n es))) (the_batch from n es)
batch_back from n es h =
    all_three (position_of (whole_number from)) (position_of (whole_number n)) (entries_of (items_of (map entry_item es))) from n es (perhaps_if (nat_lt from (2 ^ 48)) from) (perhaps_if (nat_lt n (2 ^ 48)) n) (entries_back es h)

-- ---- how deep the values are

entry_shallow : (c : ℕ) (w : Write) → tree.depth (outline (list_of (whole_number c ∷ list_of (write_items w) ∷ []))) ≤ 2
entry_shallow c (put k v) = omega arith
entry_shallow c (remove k) = omega arith
entry_shallow c (declare j) = omega arith
entry_shallow c (drop_join n) = omega arith

entries_shallow : (es : History) → tree.items_depth (items_outline (items_of (map entry_item es))) ≤ 2
entries_shallow [] = omega arith
entries_shallow (e ∷ es) =
    let one = entry_shallow e.client e.write in
    let others = entries_shallow es in
    omega arith

line_shallow : (from n : ℕ) (es : History) → tree.depth (outline (list_of (entries_items from n es))) ≤ max_depth
line_shallow from n es = let inner = entries_shallow es in omega arith

-- ---- how small they are

small_write : (w : Write) → HasSmallWrite w → IsSmallData (list_of (write_items w))
small_write (put k v) h = (tt, (tt, (tt, tt)))
small_write (remove k) h = (tt, (tt, tt))
small_write (declare j) h = (tt, (tt, tt))
small_write (drop_join n) h = (tt, (h, tt))

small_entries : (es : History) → AllByRecursion HasSmallEntry es → AllByRecursion IsSmallData (map entry_item es)
small_entries [] h = tt
small_entries (e ∷ es) h = ((h.0.0, (small_write e.write h.0.1, tt)), small_entries es h.1)

-- ---- the line

value_if : (b : Bool) (found : Option Data) (d : Data) → found ≡ Some d → Perhaps (if b then found else None) d
value_if true found d is = inr is
value_if false found d is = inl refl

-- what a line is, from its value
abbrev line_by : Option Data → FedLine
line_by found = line_of (option_and_then (λ d. option_and_then batch_of_items (as_array d)) found) found

-- a line is none that is heeded, or has these entries
abbrev IsFedOrNone : FedLine → Batch → Type 0
IsFedOrNone line b = (line ≡ of_none) ⊎ (line ≡ of_entries b)

fed_by_batch : (from n : ℕ) (es : History) (found : Option Batch) → Perhaps found (the_batch from n es) → IsFedOrNone (line_of found (Some (list_of (entries_items from n es)))) (the_batch from n es)
fed_by_batch from n es None h = inl refl
fed_by_batch from n es (Some b) (inl h) = absurd (cc)
fed_by_batch from n es (Some b) (inr h) =
    let same : b ≡ the_batch from n es = cc in
    inr (ap of_entries same)

fed_by_value : (from n : ℕ) (es : History) (found : Option Data) → Perhaps found (list_of (entries_items from n es)) →
    Perhaps (batch_of_items (items_of (entries_items from n es))) (the_batch from n es) → IsFedOrNone (line_by found) (the_batch from n es)
fed_by_value from n es found (inl none) h = inl (ap line_by none)
fed_by_value from n es found (inr some) h =
    subst (λ (v : Option Data). IsFedOrNone (line_by v) (the_batch from n es)) (sym some) (fed_by_batch from n es (batch_of_items (items_of (entries_items from n es))) h)

-- a line of entries
entries_line : (from n : ℕ) (es : History) → IsSmall from → IsSmall n → AllByRecursion HasSmallEntry es → IsFedOrNone (fed_line (reply_front (fed from n es))) (the_batch from n es)
unfolding fed_line
entries_line from n es small_from small_n small =
    let d = list_of (entries_items from n es) in
    let small_d : IsSmallData d = (tt, (small_from, (small_n, (AreSmallItems-items_of (map entry_item es) (small_entries es small), tt)))) in
    fed_by_value from n es (json_of (compact_text d)) (value_if (is_utf8 (compact_text d)) (read (compact_text d)) d (read-compact_text d small_d (line_shallow from n es)))
    (batch_back from n es small)

-- ---- a line without entries

either_told : (view : History) (b : Bool) (one other : FedLine) → TellsView view one → TellsView view other → TellsView view (if b then one else other)
either_told view true one other h k = h
either_told view false one other h k = k

named_told : (view : History) (name : Option Text) → TellsView view (refusal_named name)
named_told view name = either_told view (is_text (codes "memory") name) of_memory of_none tt tt

numbered_told : (view : History) (name : Option Text) (position : Option ℕ) → TellsView view (refusal_numbered name position)
numbered_told view name None = tt
numbered_told view name (Some n) =
    either_told view (is_text (codes "gone") name) (of_gone n) (if is_text (codes "ahead") name then of_ahead n else of_none) tt
    (either_told view (is_text (codes "ahead") name) (of_ahead n) of_none tt tt)

items_told : (view : History) (items : Items) → TellsView view (refusal_of_items items)
items_told view no_items = tt
items_told view (item w no_items) = tt
items_told view (item w (item name no_items)) = either_told view (is_text (codes "error") (text_of w)) (refusal_named (text_of name)) of_none (named_told view (text_of name)) tt
items_told view (item w (item name (item n no_items))) =
    either_told view (is_text (codes "error") (text_of w)) (refusal_numbered (text_of name) (position_of n)) of_none (numbered_told view (text_of name) (position_of n)) tt
items_told view (item w (item name (item n (item d ds)))) = tt

refusal_told_by : (view : History) (items : Option Items) → TellsView view (refusal_by items)
refusal_told_by view None = tt
refusal_told_by view (Some items) = items_told view items

-- a refusal has no entries
refusal_told : (view : History) (found : Option Data) → TellsView view (refusal_in found)
refusal_told view None = tt
refusal_told view (Some d) = refusal_told_by view (as_array d)

-- a value without entries has none
none_told : (view : History) (found : Option Data) (d : Data) → Perhaps found d → option_and_then batch_of_items (as_array d) ≡ None → TellsView view (line_by found)
none_told view found d (inl none) empty = subst (λ (v : Option Data). TellsView view (line_by v)) (sym none) tt
none_told view found d (inr some) empty =
    subst (λ (v : Option Data). TellsView view (line_by v)) (sym some) (subst (λ (b : Option Batch). TellsView view (line_of b (Some d))) (sym empty) (refusal_told view (Some d)))

-- the line of a value without entries has none
line_told : (view : History) (d : Data) → IsSmallData d → tree.depth (outline d) ≤ max_depth → option_and_then batch_of_items (as_array d) ≡ None → TellsView view (fed_line (compact_text d))
unfolding fed_line
line_told view d small shallow empty = none_told view (json_of (compact_text d)) d (value_if (is_utf8 (compact_text d)) (read (compact_text d)) d (read-compact_text d small shallow)) empty

gone_told : (view : History) (n : ℕ) → IsSmall n → TellsView view (fed_line (reply_front (gone n)))
gone_told view n small = line_told view (list_of (reply_items (gone n))) (tt, (tt, (small, tt))) (omega arith) refl

ahead_told : (view : History) (n : ℕ) → IsSmall n → TellsView view (fed_line (reply_front (ahead n)))
ahead_told view n small = line_told view (list_of (reply_items (ahead n))) (tt, (tt, (small, tt))) (omega arith) refl

memory_told : (view : History) → TellsView view (fed_line (reply_front memory))
memory_told view = line_told view (list_of (reply_items memory)) (tt, (tt, tt)) (omega arith) refl

-- ---- the lines of a run

as_listed : (view : History) (from n : ℕ) (es : History) (line : FedLine) → es ≡ run view from n → IsFedOrNone line (the_batch from n es) → TellsView view line
as_listed view from n es line is (inl none) = subst (λ (l : FedLine). TellsView view l) (sym none) tt
as_listed view from n es line is (inr some) = subst (λ (l : FedLine). TellsView view l) (sym some) is

-- what holds of all entries holds of those of a run
run_small : (view : History) (from n : ℕ) → AllByRecursion HasSmallEntry view → AllByRecursion HasSmallEntry (run view from n)
run_small view from n small =
    let front = run_front view from n in
    let later = all_right HasSmallEntry (take from view) (drop from view) (subst (λ (l : History). AllByRecursion HasSmallEntry l) (sym (take-append-drop from view)) small) in
    all_left HasSmallEntry (run view from n) front.0 (subst (λ (l : History). AllByRecursion HasSmallEntry l) front.1 later)

fed_told : (view : History) (from start n : ℕ) (es : History) → IsSmall n → AllByRecursion HasSmallEntry view → (start ≡ from) × IsWithinReach n from × (es ≡ run view from n) →
    TellsView view (fed_line (reply_front (fed start n es)))
fed_told view from start n es small_n small (same, within, is) =
    let here : es ≡ run view start n = is ∙ ap (λ q. run view q n) (sym same) in
    as_listed view start n es (fed_line (reply_front (fed start n es))) here
    (entries_line start n es (omega (arith, same, within.not_ahead, small_n)) small_n (subst (λ (l : History). AllByRecursion HasSmallEntry l) (sym here) (run_small view start n small)))

-- each line that answers a feed has the entries of the view
pub lines_told : (view : History) (client low high : ℕ) (requests : List Request) (replies : List Reply) → AllZip (Answers view client) requests replies → AllByRecursion IsFeed requests →
    InOrder low high (places requests replies) → IsSmall high → AllByRecursion HasSmallEntry view → AllByRecursion (λ line. TellsView view (fed_line line)) (map reply_front replies)
lines_told view client low high [] [] answers feeds ordered most small = tt
lines_told view client low high [] (r ∷ rs) answers feeds ordered most small = absurd answers
lines_told view client low high (q ∷ qs) [] answers feeds ordered most small = absurd answers
lines_told view client low high (write w ∷ qs) (r ∷ rs) answers feeds ordered most small = absurd feeds.0
lines_told view client low high (reads r ∷ qs) (reply ∷ rs) answers feeds ordered most small = absurd feeds.0
lines_told view client low high (quit ∷ qs) (r ∷ rs) answers feeds ordered most small = absurd feeds.0
lines_told view client low high (earlier (scan_at range at) ∷ qs) (r ∷ rs) answers feeds ordered most small = absurd feeds.0
lines_told view client low high (earlier (changes_since range from) ∷ qs) (r ∷ rs) answers feeds ordered most small = absurd feeds.0
lines_told view client low high (earlier (feed_from from) ∷ qs) (done n ∷ rs) answers feeds ordered most small = absurd answers.0
lines_told view client low high (earlier (feed_from from) ∷ qs) (answered a ∷ rs) answers feeds ordered most small = absurd answers.0
lines_told view client low high (earlier (feed_from from) ∷ qs) (refused n cause ∷ rs) answers feeds ordered most small = absurd answers.0
lines_told view client low high (earlier (feed_from from) ∷ qs) (gone n ∷ rs) answers feeds ordered most small =
    (gone_told view n (omega (arith, ordered.1, most)), lines_told view client n high qs rs answers.1 feeds.1 ordered.2 most small)
lines_told view client low high (earlier (feed_from from) ∷ qs) (ahead n ∷ rs) answers feeds ordered most small =
    (ahead_told view n (omega (arith, ordered.1, most)), lines_told view client n high qs rs answers.1 feeds.1 ordered.2 most small)
lines_told view client low high (earlier (feed_from from) ∷ qs) (changed start n changes ∷ rs) answers feeds ordered most small = absurd answers.0
lines_told view client low high (earlier (feed_from from) ∷ qs) (fed start n es ∷ rs) answers feeds ordered most small =
    (fed_told view from start n es (omega (arith, ordered.1, most)) small answers.0, lines_told view client n high qs rs answers.1 feeds.1 ordered.2 most small)
lines_told view client low high (earlier (feed_from from) ∷ qs) (unread fault ∷ rs) answers feeds ordered most small = absurd answers.0
lines_told view client low high (earlier (feed_from from) ∷ qs) (long ∷ rs) answers feeds ordered most small = absurd answers.0
lines_told view client low high (earlier (feed_from from) ∷ qs) (memory ∷ rs) answers feeds ordered most small =
    (memory_told view, lines_told view client low high qs rs answers.1 feeds.1 ordered most small)
lines_told view client low high (earlier (feed_from from) ∷ qs) (bye ∷ rs) answers feeds ordered most small = absurd answers.0

-- ---- the view

small_parsed : (c : ℕ) (w : Write) → IsSmall c → is_parsed w → HasSmallWrite w
small_parsed c (put k v) h p = tt
small_parsed c (remove k) h p = tt
small_parsed c (declare j) h p = reads_back p.0 j p.1
small_parsed c (drop_join n) h p = p

pub small_view : (view : History) → AllByRecursion IsParsed view → AllByRecursion HasSmallEntry view
small_view view parsed = all_then IsParsed HasSmallEntry view (λ e h. (h.0, small_parsed e.client e.write h.0 h.1)) parsed
