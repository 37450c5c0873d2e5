use Rattle.std.proofs.Common.{◌≡◌, [], map, ap, arith}
use Rattle.std.proofs.lemmas.Grind.{common_steps}
use Rattle.core_events.specs.PlainEvents.{plain_done}
use Rattle.event_script.proofs.AnswerLemmas.{marked-no_marks, marked-no_answers, marked_text, marked_plainly}
use Rattle.event_script.proofs.answers.answers_text.Goals as goal

pub returns-in_default-clause-text : goal.returns-in_default-clause-text
returns-in_default-clause-text c events e =
    let none : c.loop-done.marks.now ≡ [] = grind (arith, common_steps) in
    marked_text _ c.args.of_cells.now _ events (marked-no_marks _ _ _ _ none c.loop-done.invariant) e

pub returns-in_default-clause-plainly : goal.returns-in_default-clause-plainly
returns-in_default-clause-plainly c events e plainly =
    let none : c.loop-done.marks.now ≡ [] = grind (arith, common_steps) in
    marked_plainly _ c.args.of_cells.now _ events (marked-no_marks _ _ _ _ none c.loop-done.invariant) e plainly

pub returns-clause-text : goal.returns-clause-text
returns-clause-text c events e =
    let none : c.loop-done.done-iterator.rest.items ≡ [] = grind (arith, common_steps) in
    marked_text _ c.args.of_cells.now _ events (marked-no_answers _ c.loop-done.marks.now _ _ (ap (map plain_done) none) c.loop-done.invariant) e

pub returns-clause-plainly : goal.returns-clause-plainly
returns-clause-plainly c events e plainly =
    let none : c.loop-done.done-iterator.rest.items ≡ [] = grind (arith, common_steps) in
    marked_plainly _ c.args.of_cells.now _ events (marked-no_answers _ c.loop-done.marks.now _ _ (ap (map plain_done) none) c.loop-done.invariant) e plainly
