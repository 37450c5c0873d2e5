use Rattle.std.proofs.Common.{◌≡◌, ◌≤◌, [], ◌∷◌, length, sym, ap, ◌∙◌, subst}
use Rattle.lazy_log.specs.Pending.{NotesOnce}
use Rattle.kept_ranges.specs.Notes.{slots, Notes, note_limit, noted}
use Rattle.kept_ranges.specs.Rules.{Touch}
use Rattle.range_state.specs.Advanced.{touch_notes}
use Rattle.range_state.proofs.NotingLemmas.{AddsRest, adds_next, adds_all, once_next, once_all, keys_next, noted_few, noted_next}
use Rattle.range_state.proofs.advancing.take_touches.Goals as goal

pub loop-touch-preserved : goal.loop-touch-preserved
loop-touch-preserved c =
    let before = c.loop-touch.invariant in
    let now = c.loop-touch.notes in
    let touch = c.in-Some.touch in
    let left = c.loop-touch.touch-iterator.rest.items in
    let rest = c.next.new.self.rest.items in
    let steps : left ≡ touch ∷ rest = c.in-Some.ensures.steps.0 in
    let its_slots : c.touch.inside.slots ≡ touch.slots = ap (λ (t : Touch). t.slots) c.touch.view_is in
    let its_key : c.touch.inside.key ≡ touch.key = ap (λ (t : Touch). t.key) c.touch.view_is in
    let once : NotesOnce touch.slots c.loop-touch.pending.noted c.note.new.self.noted = subst (λ s. NotesOnce s c.loop-touch.pending.noted c.note.new.self.noted) its_slots c.in_ok-note.ensures.ok in
    let one : c.add.new.self ≡ noted now (record { position = c.args.position; mark = slots touch.slots } ∷ []) =
    c.in_ok-add.ensures.ok ∙ ap (λ s. noted now (record { position = c.args.position; mark = slots s } ∷ [])) (c.in_ok-copy.ensures ∙ its_slots) in
    record {
      output = c.in_ok-note.ensures.output ∙ before.output;
      keys = keys_next c.loop-touch.keys.items c.push.new.self.items _ c.touch.inside.key touch left rest c.in_ok-push.ensures.items its_key steps before.keys;
      pending = adds_next c.args.touched.items rest touch c.args.pending.now.noted c.loop-touch.pending.noted c.note.new.self.noted (subst (λ r. AddsRest c.args.touched.items r c.args.pending.now.noted c.loop-touch.pending.noted) steps before.pending) once;
      once = once_next c.args.touched.items left rest touch c.args.pending.now.noted c.loop-touch.pending.noted c.note.new.self.noted steps once before.once;
      notes = noted_next now c.add.new.self (record { position = c.args.position; mark = slots touch.slots }) (touch_notes c.args.position rest) one ∙ ap (λ r. noted now (touch_notes c.args.position r)) (sym steps) ∙ before.notes;
      few = subst (λ (n : Notes). length n.list ≤ note_limit) (sym one) (noted_few now (record { position = c.args.position; mark = slots touch.slots } ∷ []));
    }

pub returns-clause-pending : goal.returns-clause-pending
returns-clause-pending c =
    let none : length c.loop-touch.touch-iterator.rest.items ≡ 0 = sym c.loop-touch.touch-iterator.rest.ok.0 ∙ c.in-None.ensures.steps.0 in
    adds_all c.args.touched.items c.loop-touch.touch-iterator.rest.items c.args.pending.now.noted c.loop-touch.pending.noted none c.loop-touch.invariant.pending

pub returns-clause-once : goal.returns-clause-once
returns-clause-once c =
    let none : length c.loop-touch.touch-iterator.rest.items ≡ 0 = sym c.loop-touch.touch-iterator.rest.ok.0 ∙ c.in-None.ensures.steps.0 in
    once_all c.args.touched.items c.loop-touch.touch-iterator.rest.items c.args.pending.now.noted c.loop-touch.pending.noted none c.loop-touch.invariant.once
