-- Scripts give events whose texts may bound ranges.
use Rattle.std.proofs.Common.{ℕ, ◌+◌, Bool, cond, List, [], ◌∷◌, Option, Some, None, option_map, option_and_then, Result, Ok, Err, IfOk, codes}
use Rattle.std.specs.List.{AllByRecursion}
use Rattle.std.specs.Option.{IfSome}
use Rattle.std.proofs.lemmas.Bool.{cond_both}
use Rattle.serde_json.specs.Data.{Data, null, boolean, number, string, array, object, Items, no_items, item}
use Rattle.semantics.specs.Texts.{Text, same, is_range}
use Rattle.protocol.specs.Lines.{Bytes}
use Rattle.protocol.specs.Requests.{Request, write, read, earlier, quit, LineFault, json, form, range, json_of, position_of, text_of, form_of, request_of_items}
use Rattle.core_events.specs.Events.{Event, piece, advance, evict, finish, is_bound, IsEvent}
use Rattle.core_events.specs.Scripts.{ranged, number_of, or_form, is_write_form, append_written, append_texts, begin_event, piece_event, mend_event, event_of_one, event_of_two, event_of_three, event_of_word, event_of_items, event_of_value, event_of_json, event_of, onto_events, at_line, events_of_lines, script_lines, script_events}
use Rattle.core_events.specs.ScriptLaws.{ScriptsGiveEvents}

-- what was read is an event of which what is asked holds
record IsGood (r : Result Event LineFault) : Type 0 where
  pub holds : IfOk r IsEvent

-- where there is one
record MaybeGood (o : Option (Result Event LineFault)) : Type 0 where
  pub each : IfSome o IsGood

-- a fault is no event
good_fault : (fault : LineFault) → IsGood (Err fault)
good_fault fault = record { holds = tt }

good_either : (b : Bool) (first next : Result Event LineFault) → IsGood first → IsGood next → IsGood (cond b first next)
good_either b first next f n = cond_both b first next IsGood (λ e. f) (λ e. n)

good_or_form : (o : Option (Result Event LineFault)) → MaybeGood o → IsGood (or_form o)
good_or_form None h = good_fault form
good_or_form (Some r) h = h.each

some_mapped : {A : Type 0} (f : A → Result Event LineFault) (o : Option A) → ((x : A) → IsGood (f x)) → MaybeGood (option_map f o)
some_mapped f None h = record { each = tt }
some_mapped f (Some x) h = record { each = h x }

some_then : {A : Type 0} (f : A → Option (Result Event LineFault)) (o : Option A) → ((x : A) → MaybeGood (f x)) → MaybeGood (option_and_then f o)
some_then f None h = record { each = tt }
some_then f (Some x) h = h x

good_written : (client : ℕ) (r : Result Request LineFault) → IsGood (append_written client r)
good_written client (Err fault) = good_fault fault
good_written client (Ok (write w)) = record { holds = tt }
good_written client (Ok (read r)) = good_fault form
good_written client (Ok (earlier e)) = good_fault form
good_written client (Ok quit) = good_fault form

good_append : (client : ℕ) (items : List Text × Option ℕ) → IsGood (append_texts client items)
good_append client items = good_either (is_write_form items) _ _ (good_written client (request_of_items items)) (good_fault form)

good_begin : (scan : ℕ) (low high : Text) → IsGood (begin_event scan low high)
good_begin scan low high = good_either (is_range low high) _ _ (record { holds = tt }) (good_fault range)

good_mend : (cell : ℕ) (low high : Text) → IsGood (mend_event cell low high)
good_mend cell low high = good_either (is_range low high) _ _ (record { holds = tt }) (good_fault range)

good_piece : (scan : ℕ) (upto : Text) → IsGood (piece_event scan upto)
good_piece scan upto = cond_both (is_bound upto) (Ok (piece scan upto)) (Err range) IsGood (λ e. record { holds = e }) (λ e. good_fault range)

good_one : (word : Text) (a : Data) → IsGood (event_of_one word a)
good_one word a =
    good_either (same word (codes "evict")) _ _ (good_or_form _ (some_mapped (λ cell. Ok (evict cell)) (number_of a) (λ cell. record { holds = tt })))
    (good_either (same word (codes "finish")) _ _ (good_or_form _ (some_mapped (λ scan. Ok (finish scan)) (number_of a) (λ scan. record { holds = tt }))) (good_fault form))

good_two : (word : Text) (a b : Data) → IsGood (event_of_two word a b)
good_two word a b =
    good_either (same word (codes "append")) _ _ (good_or_form _ (some_then (λ client. option_map (append_texts client) (form_of b)) (number_of a) (λ client. some_mapped (append_texts client) (form_of b) (good_append client))))
    (good_either (same word (codes "piece")) _ _ (good_or_form _ (some_then (λ scan. option_map (piece_event scan) (text_of b)) (number_of a) (λ scan. some_mapped (piece_event scan) (text_of b) (good_piece scan))))
    (good_either (same word (codes "advance")) _ _ (good_or_form _ (some_then (λ cell. option_map (λ to. Ok (advance cell to)) (position_of b)) (number_of a) (λ cell. some_mapped (λ to. Ok (advance cell to)) (position_of b) (λ to. record { holds = tt }))))
    (good_fault form)))

-- an event with a range
good_ranged : (made : ℕ → Text → Text → Result Event LineFault) (a b c : Data) → ((n : ℕ) (low high : Text) → IsGood (made n low high)) → IsGood (ranged made a b c)
good_ranged made a b c good =
    good_or_form _ (some_then (λ n. option_and_then (λ low. option_map (made n low) (text_of c)) (text_of b)) (number_of a)
    (λ n. some_then (λ low. option_map (made n low) (text_of c)) (text_of b) (λ low. some_mapped (made n low) (text_of c) (good n low))))

good_three : (word : Text) (a b c : Data) → IsGood (event_of_three word a b c)
good_three word a b c =
    good_either (same word (codes "begin")) _ _ (good_ranged begin_event a b c good_begin)
    (good_either (same word (codes "mend")) _ _ (good_ranged mend_event a b c good_mend) (good_fault form))

good_word : (word : Text) (items : Items) → IsGood (event_of_word word items)
good_word word no_items = good_fault form
good_word word (item a no_items) = good_one word a
good_word word (item a (item b no_items)) = good_two word a b
good_word word (item a (item b (item c no_items))) = good_three word a b c
good_word word (item a (item b (item c (item d others)))) = good_fault form

good_items : (items : Items) → IsGood (event_of_items items)
good_items no_items = good_fault form
good_items (item d ds) = good_or_form _ (some_mapped (λ word. event_of_word word ds) (text_of d) (λ word. good_word word ds))

good_value : (d : Data) → IsGood (event_of_value d)
good_value null = good_fault form
good_value (boolean b) = good_fault form
good_value (number n) = good_fault form
good_value (string s) = good_fault form
good_value (array ds) = good_items ds
good_value (object ms) = good_fault form

good_json : (o : Option Data) → IsGood (event_of_json o)
good_json None = good_fault json
good_json (Some d) = good_value d

good_line : (line : Bytes) → IsGood (event_of line)
unfolding event_of
good_line line = good_json (json_of line)

-- one event more
good_onto : (event : Event) (others : Result (List Event) (ℕ × Text)) → IsEvent event → IfOk others (AllByRecursion IsEvent) → IfOk (onto_events event others) (AllByRecursion IsEvent)
good_onto event (Err fault) one all = tt
good_onto event (Ok events) one all = (one, all)

good_at : (n : ℕ) (r : Result Event LineFault) (others : Result (List Event) (ℕ × Text)) → IsGood r → IfOk others (AllByRecursion IsEvent) → IfOk (at_line n r others) (AllByRecursion IsEvent)
good_at n (Err fault) others one all = tt
good_at n (Ok event) others one all = good_onto event others one.holds all

good_lines : (n : ℕ) (lines : List Bytes) → IfOk (events_of_lines n lines) (AllByRecursion IsEvent)
good_lines n [] = tt
good_lines n (line ∷ lines) = good_at n (event_of line) (events_of_lines (n + 1) lines) (good_line line) (good_lines (n + 1) lines)

-- each text up to which a script asks a scan to be answered may bound a range
pub scripts_give_events : ScriptsGiveEvents
unfolding script_events
scripts_give_events bytes = good_lines 1 (script_lines bytes)
