-- The events of a script, line by line, and the writes that lines append.
use Rattle.std.proofs.Common.{◌≡◌, ℕ, ◌+◌, List, [], ◌∷◌, ◌++◌, refl, sym, ap, ◌∙◌}
use Rattle.std.specs.Prelude.{Result, Ok, Err, Some, option_map}
use Rattle.std.proofs.lemmas.Option.{none-some, same_Some}
use Rattle.semantics.specs.Texts.{Text}
use Rattle.protocol.specs.Requests as plain
use Rattle.protocol.specs.Replies.{fault_name}
use Rattle.core_events.specs.Events.{Event}
use Rattle.core_events.specs.Scripts.{event_of, onto_events, at_line, events_of_lines, script_lines, script_events}
use Rattle.request_codec.specs.declared.request.LineFault.{LineFault}
use Rattle.request_codec.specs.declared.request.LineFault.TheVariants.{Json, Form, Key, Value, Range, Syntax, OutOfMemory}
use Rattle.request_codec.specs.Plain.{plain_fault, IsFaultOf}

-- ---- lines

-- events before others, where they read
abbrev pub onto_all : List Event → Result (List Event) (ℕ × Text) → Result (List Event) (ℕ × Text)
onto_all [] others = others
onto_all (e ∷ es) others = onto_events e (onto_all es others)

-- one event more before others
onto_all-more : (es : List Event) (e : Event) (others : Result (List Event) (ℕ × Text)) → onto_all (es ++ e ∷ []) others ≡ onto_all es (onto_events e others)
onto_all-more [] e others = refl
onto_all-more (f ∷ es) e others = ap (onto_events f) (onto_all-more es e others)

-- before none they are all
onto_all-none : (es : List Event) → onto_all es (Ok []) ≡ Ok es
onto_all-none [] = refl
onto_all-none (e ∷ es) = ap (onto_events e) (onto_all-none es)

-- before a refused line they are none
onto_all-refused : (es : List Event) (refused : ℕ × Text) → onto_all es (Err refused) ≡ Err refused
onto_all-refused [] refused = refl
onto_all-refused (e ∷ es) refused = ap (onto_events e) (onto_all-refused es refused)

-- a line that reads goes to the events
pub reads_more : (es es' : List Event) (number : ℕ) (bytes line rest : Text) (e : Event) (whole : Result (List Event) (ℕ × Text)) →
    es' ≡ es ++ e ∷ [] → script_lines bytes ≡ line ∷ script_lines rest → event_of line ≡ Ok e →
    onto_all es (events_of_lines number (script_lines bytes)) ≡ whole → onto_all es' (events_of_lines (number + 1) (script_lines rest)) ≡ whole
reads_more es es' number bytes line rest e whole more lines event h =
    ap (λ x. onto_all x (events_of_lines (number + 1) (script_lines rest))) more ∙ onto_all-more es e (events_of_lines (number + 1) (script_lines rest))
    ∙ ap (λ r. onto_all es (at_line number r (events_of_lines (number + 1) (script_lines rest)))) (sym event)
    ∙ ap (λ ls. onto_all es (events_of_lines number ls)) (sym lines) ∙ h

-- a line that does not read is the answer
pub reads_refused : (es : List Event) (number : ℕ) (bytes line rest : Text) (fault : plain.LineFault) (whole : Result (List Event) (ℕ × Text)) →
    script_lines bytes ≡ line ∷ script_lines rest → event_of line ≡ Err fault →
    onto_all es (events_of_lines number (script_lines bytes)) ≡ whole → Err (number, fault_name fault) ≡ whole
reads_refused es number bytes line rest fault whole lines event h =
    sym (onto_all-refused es (number, fault_name fault))
    ∙ ap (λ r. onto_all es (at_line number r (events_of_lines (number + 1) (script_lines rest)))) (sym event)
    ∙ ap (λ ls. onto_all es (events_of_lines number ls)) (sym lines) ∙ h

-- no line is left
pub reads_all : (es : List Event) (number : ℕ) (bytes : Text) (whole : Result (List Event) (ℕ × Text)) → script_lines bytes ≡ [] →
    onto_all es (events_of_lines number (script_lines bytes)) ≡ whole → Ok es ≡ whole
reads_all es number bytes whole lines h = sym (onto_all-none es) ∙ ap (λ ls. onto_all es (events_of_lines number ls)) (sym lines) ∙ h

-- at the start no line was read
pub reads_none : (bytes : Text) → events_of_lines 1 (script_lines bytes) ≡ script_events bytes
unfolding script_events
reads_none bytes = refl

-- ---- names

-- the fault of a line, by its name
pub named_fault : (fault : LineFault) (name : Text) (given : Result Event plain.LineFault) → option_map fault_name (plain_fault fault) ≡ Some name → IsFaultOf given fault →
    (f : plain.LineFault) × (given ≡ Err f) × (fault_name f ≡ name)
named_fault Json name given e h = (plain.json, h, same_Some _ _ e)
named_fault Form name given e h = (plain.form, h, same_Some _ _ e)
named_fault Key name given e h = (plain.key, h, same_Some _ _ e)
named_fault Value name given e h = (plain.value, h, same_Some _ _ e)
named_fault Range name given e h = (plain.range, h, same_Some _ _ e)
named_fault (Syntax at) name given e h = (plain.syntax at, h, same_Some _ _ e)
named_fault (OutOfMemory _) name given e h = absurd (none-some name e)
