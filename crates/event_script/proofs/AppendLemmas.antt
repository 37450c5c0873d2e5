-- The event that appends what an item of a line requests.
use Rattle.std.proofs.Common.{◌≡◌, ℕ, ◌||◌, Bool, true, false, List, [], ◌∷◌, refl, ap, ◌∙◌}
use Rattle.std.specs.Prelude.{if◌then◌else◌, Option, Some, None, option_map, option_and_then, Result, Ok, Err, codes}
use Rattle.std.specs.Option.{option_map_or}
use Rattle.std.proofs.lemmas.Bool.{both_ways, or_parts}
use Rattle.serde_json.specs.Data.{Data, null, boolean, number, string, array, object, Items, no_items, item}
use Rattle.semantics.specs.Texts.{Text, same}
use Rattle.semantics.specs.Histories.{drop_join}
use Rattle.semantics.proofs.PieceLemmas.{equal_by_same}
use Rattle.protocol.specs.Requests.{write, earlier, feed_from, LineFault, form, text_of, position_of, with_text, last_item, texts_and_position, form_of, request_of_form, request_of_value, request_of_two}
use Rattle.core_events.specs.Events.{Event}
use Rattle.core_events.specs.Scripts.{number_of, or_form, append_written, append_texts}
use Rattle.request_codec.proofs.FormLemmas.{HoldsOfFour, four_or_more}
use Rattle.event_script.specs.Lines.{are_write, is_write, append_event}

-- what a client appends by texts and a position, where there are any
abbrev pub append_items : ℕ → Option (List Text × Option ℕ) → Result Event LineFault
append_items client items = or_form (option_map (append_texts client) items)

-- what it appends by what they request
abbrev append_request : ℕ → Option (List Text × Option ℕ) → Result Event LineFault
append_request client items = append_written client (request_of_form items)

-- the word of a remove, a join or a drop
abbrev is_of_two : Text → Bool
is_of_two t = same t (codes "remove") || same t (codes "join") || same t (codes "drop")

-- ---- the form of a write

-- a text behind such a word: `drop` has none
text_behind : (client : ℕ) (t u : Text) (b : Bool) → (b || same t (codes "drop")) ≡ true →
    (if b then append_written client (request_of_two t u) else Err form) ≡ append_written client (request_of_two t u)
text_behind client t u true h = refl
text_behind client t u false h = let is_drop : t ≡ codes "drop" = equal_by_same t (codes "drop") h in rw is_drop refl

-- a position behind it: of those that write `drop` alone has one
position_behind : (client n : ℕ) (b f : Bool) →
    (if b then append_written client (if b then Ok (write (drop_join n)) else (if f then Ok (earlier (feed_from n)) else Err form)) else Err form)
    ≡ append_written client (if b then Ok (write (drop_join n)) else (if f then Ok (earlier (feed_from n)) else Err form))
position_behind client n true f = refl
position_behind client n false true = refl
position_behind client n false false = refl

last_behind : (client : ℕ) (t : Text) (text : Option Text) (position : Option ℕ) → is_of_two t ≡ true →
    append_items client (option_map (with_text t) (last_item text position)) ≡ append_request client (option_map (with_text t) (last_item text position))
last_behind client t (Some u) position h = text_behind client t u (same t (codes "remove") || same t (codes "join")) h
last_behind client t None (Some n) h = position_behind client n (same t (codes "drop")) (same t (codes "feed"))
last_behind client t None None h = refl

-- two items
two_items : (client : ℕ) (word text : Option Text) (position : Option ℕ) →
    (option_map_or (λ t. same t (codes "remove")) word false || option_map_or (λ t. same t (codes "join")) word false || option_map_or (λ t. same t (codes "drop")) word false) ≡ true →
    append_items client (option_and_then (λ t. option_map (with_text t) (last_item text position)) word) ≡ append_request client (option_and_then (λ t. option_map (with_text t) (last_item text position)) word)
two_items client None text position h = refl
two_items client (Some t) text position h = last_behind client t text position h

-- three items
three_items : (client : ℕ) (word first text : Option Text) (position : Option ℕ) → option_map_or (λ t. same t (codes "put")) word false ≡ true →
    append_items client (option_and_then (λ t. option_map (with_text t) (option_and_then (λ u. option_map (with_text u) (last_item text position)) first)) word)
    ≡ append_request client (option_and_then (λ t. option_map (with_text t) (option_and_then (λ u. option_map (with_text u) (last_item text position)) first)) word)
three_items client None first text position h = refl
three_items client (Some t) None text position h = refl
three_items client (Some t) (Some u) (Some v) position h = let is_put : same t (codes "put") ≡ true = h in rw is_put refl
three_items client (Some t) (Some u) None (Some n) h = refl
three_items client (Some t) (Some u) None None h = refl

written_items : (client : ℕ) (ds : Items) → are_write ds ≡ true → append_items client (texts_and_position ds) ≡ append_request client (texts_and_position ds)
written_items client no_items h = refl
written_items client (item w no_items) h = absurd (both_ways false refl h)
written_items client (item w (item a no_items)) h = two_items client (text_of w) (text_of a) (position_of a) h
written_items client (item w (item a (item b no_items))) h = three_items client (text_of w) (text_of a) (text_of b) (position_of b) h
written_items client (item w (item a (item b (item c ds)))) h = absurd (both_ways false refl h)

-- an item with the form of a write appends what it requests
written : (client : ℕ) (d : Data) → is_write d ≡ true → append_items client (form_of d) ≡ append_written client (request_of_value d)
written client null h = refl
written client (boolean b) h = refl
written client (number n) h = refl
written client (string s) h = refl
written client (array ds) h = written_items client ds h
written client (object ms) h = refl

-- ---- another form

one_other : (client : ℕ) (text : Option Text) (position : Option ℕ) → append_items client (last_item text position) ≡ Err form
one_other client (Some t) position = refl
one_other client None (Some n) = refl
one_other client None None = refl

two_other : (client : ℕ) (word text : Option Text) (position : Option ℕ) →
    (option_map_or (λ t. same t (codes "remove")) word false || option_map_or (λ t. same t (codes "join")) word false || option_map_or (λ t. same t (codes "drop")) word false) ≡ false →
    append_items client (option_and_then (λ t. option_map (with_text t) (last_item text position)) word) ≡ Err form
two_other client None text position h = refl
two_other client (Some t) (Some u) position h = rw (or_parts (same t (codes "remove") || same t (codes "join")) (same t (codes "drop")) h).0 refl
two_other client (Some t) None (Some n) h = rw (or_parts (same t (codes "remove") || same t (codes "join")) (same t (codes "drop")) h).1 refl
two_other client (Some t) None None h = refl

three_other : (client : ℕ) (word first text : Option Text) (position : Option ℕ) → option_map_or (λ t. same t (codes "put")) word false ≡ false →
    append_items client (option_and_then (λ t. option_map (with_text t) (option_and_then (λ u. option_map (with_text u) (last_item text position)) first)) word) ≡ Err form
three_other client None first text position h = refl
three_other client (Some t) None text position h = refl
three_other client (Some t) (Some u) (Some v) position h = let is_no_put : same t (codes "put") ≡ false = h in rw is_no_put refl
three_other client (Some t) (Some u) None (Some n) h = refl
three_other client (Some t) (Some u) None None h = refl

abbrev none_of_four : (client : ℕ) → HoldsOfFour (λ items. append_items client items ≡ Err form)
none_of_four client = record { none = refl; texts = λ t u v w ts. refl; position = λ t u v ts n. refl }

other_items : (client : ℕ) (ds : Items) → are_write ds ≡ false → append_items client (texts_and_position ds) ≡ Err form
other_items client no_items h = refl
other_items client (item w no_items) h = one_other client (text_of w) (position_of w)
other_items client (item w (item a no_items)) h = two_other client (text_of w) (text_of a) (position_of a) h
other_items client (item w (item a (item b no_items))) h = three_other client (text_of w) (text_of a) (text_of b) (position_of b) h
other_items client (item w (item a (item b (item c ds)))) h = four_or_more (λ items. append_items client items ≡ Err form) (none_of_four client) w a b c ds

-- an item of another form appends nothing
not_written : (client : ℕ) (d : Data) → is_write d ≡ false → append_items client (form_of d) ≡ Err form
not_written client null h = refl
not_written client (boolean b) h = refl
not_written client (number n) h = refl
not_written client (string s) h = refl
not_written client (array ds) h = other_items client ds h
not_written client (object ms) h = refl

-- ---- the event

event_of_client : (a b : Data) (client : ℕ) → number_of a ≡ Some client → append_event a b ≡ append_items client (form_of b)
event_of_client a b client is = ap (λ n. or_form (option_and_then (λ m. option_map (append_texts m) (form_of b)) n)) is

-- a client's number and an item with the form of a write append what it requests
pub event_is_written : (a b : Data) (client : ℕ) → number_of a ≡ Some client → is_write b ≡ true → append_event a b ≡ append_written client (request_of_value b)
event_is_written a b client is h = event_of_client a b client is ∙ written client b h

-- and an item of another form nothing
pub event_is_form : (a b : Data) (client : ℕ) → number_of a ≡ Some client → is_write b ≡ false → append_event a b ≡ Err form
event_is_form a b client is h = event_of_client a b client is ∙ not_written client b h
