-- What is printed for answers beside the marks of cells.
use Rattle.std.proofs.Common.{◌≡◌, Bool, List, [], ◌∷◌, ◌++◌, map, refl, sym, ap, ◌∙◌, append_assoc, append-nil}
use Rattle.semantics.specs.Texts.{Text}
use Rattle.core_events.specs.Events.{Event, Done, is_cell_event}
use Rattle.core_events.specs.Plain.{AnswersPlainly}
use Rattle.core_events.specs.Printed.{text_unless, event_texts, events_text}
use Rattle.core_events.proofs.PrintedLemmas.{answers_print_text}

-- what is printed for answers, where the marks say which are to events of cells
abbrev pub marked : List Bool → List Done → Text
marked [] ds = []
marked (b ∷ bs) [] = []
marked (b ∷ bs) (d ∷ ds) = text_unless b d ++ marked bs ds

-- marks of events print what the events do
marked-events : (events : List Event) (ds : List Done) → marked (map is_cell_event events) ds ≡ event_texts events ds
marked-events [] ds = refl
marked-events (e ∷ es) [] = refl
marked-events (e ∷ es) (d ∷ ds) = ap (λ t. text_unless (is_cell_event e) d ++ t) (marked-events es ds)

-- one more answer is printed
pub marked-more : (text text' : Text) (marks others : List Bool) (ds more : List Done) (b : Bool) (d : Done) (whole : Text) →
    marks ≡ b ∷ others → ds ≡ d ∷ more → text' ≡ text ++ text_unless b d → text ++ marked marks ds ≡ whole → text' ++ marked others more ≡ whole
marked-more text text' marks others ds more b d whole e f g h =
    ap (λ t. t ++ marked others more) g ∙ append_assoc text (text_unless b d) (marked others more)
    ∙ sym (ap (λ bs. text ++ marked bs ds) e ∙ ap (λ x. text ++ marked (b ∷ others) x) f) ∙ h

-- no mark is left
pub marked-no_marks : (text : Text) (marks : List Bool) (ds : List Done) (whole : Text) → marks ≡ [] → text ++ marked marks ds ≡ whole → text ≡ whole
marked-no_marks text marks ds whole e h = sym (append-nil text) ∙ ap (λ bs. text ++ marked bs ds) (sym e) ∙ h

-- no answer is left
no_answers : (marks : List Bool) → marked marks [] ≡ []
no_answers [] = refl
no_answers (b ∷ bs) = refl

pub marked-no_answers : (text : Text) (marks : List Bool) (ds : List Done) (whole : Text) → ds ≡ [] → text ++ marked marks ds ≡ whole → text ≡ whole
marked-no_answers text marks ds whole e h = sym (append-nil text) ∙ ap (λ t. text ++ t) (sym (no_answers marks)) ∙ ap (λ x. text ++ marked marks x) (sym e) ∙ h

-- the text of events, whose marks are these
pub marked_text : (text : Text) (marks : List Bool) (ds : List Done) (events : List Event) → text ≡ marked marks ds → marks ≡ map is_cell_event events → text ≡ event_texts events ds
marked_text text marks ds events h e = h ∙ ap (λ bs. marked bs ds) e ∙ marked-events events ds

-- which is what the events print, where they are answered plainly
pub marked_plainly : (text : Text) (marks : List Bool) (ds : List Done) (events : List Event) → text ≡ marked marks ds → marks ≡ map is_cell_event events → AnswersPlainly events ds → text ≡ events_text events
marked_plainly text marks ds events h e plainly = marked_text text marks ds events h e ∙ answers_print_text events ds plainly
