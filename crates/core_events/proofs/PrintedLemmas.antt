-- What is printed for answers.
use Rattle.std.proofs.Common.{◌≡◌, ◌++◌, Bool, true, false, List, [], ◌∷◌, refl, ap, ◌∙◌}
use Rattle.semantics.specs.Texts.{Text}
use Rattle.core_events.specs.Events.{Event, Done, is_cell_event}
use Rattle.core_events.specs.Plain.{onto_answers, scan_answers}
use Rattle.core_events.specs.Printed.{done_text, done_texts, text_unless, event_texts}
use Rattle.core_events.specs.PrintedLaws.{AnswersPrintText, CellEventsPrintNothing}
use Rattle.core_events.proofs.PlainLemmas.{cell_events_change_nothing}

-- one answer more, or none for an event of a cell
one_more : (b : Bool) (done : Done) (others : List Done) (text : Text) → text ≡ done_texts others → text_unless b done ++ text ≡ done_texts (onto_answers b done others)
one_more true done others text e = e
one_more false done others text e = ap (λ t. done_text done ++ t) e

-- events and their answers print what the answers of no cell do
printed_answers : (events : List Event) (answers : List Done) → event_texts events answers ≡ done_texts (scan_answers events answers)
printed_answers [] answers = refl
printed_answers (event ∷ events) [] = refl
printed_answers (event ∷ events) (done ∷ answers) = one_more (is_cell_event event) done (scan_answers events answers) (event_texts events answers) (printed_answers events answers)

-- where events are answered plainly, their answers print the text of the events
pub answers_print_text : AnswersPrintText
answers_print_text events answers plainly = printed_answers events answers ∙ ap done_texts plainly.plainly

-- events of cells print nothing
pub cell_events_print_nothing : CellEventsPrintNothing
cell_events_print_nothing events = ap done_texts (cell_events_change_nothing events)
