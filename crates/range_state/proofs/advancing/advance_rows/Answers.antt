use Rattle.std.proofs.Common.{◌≡◌, List, take, not, refl, ap, ◌∙◌}
use Rattle.semantics.specs.Texts.{Table}
use Rattle.semantics.specs.States.{below}
use Rattle.join_rows.specs.Kept.{KeptRows, came_by_any}
use Rattle.join_eval.specs.Answers.{change_keys}
use Rattle.kept_ranges.specs.Notes.{noted}
use Rattle.range_state.specs.Valued.{ValuedApplication, all_unvalued, set_each}
use Rattle.range_state.proofs.ApplyingLemmas.{carry_values}
use Rattle.range_state.proofs.SettingLemmas.{set_each_applied}
use Rattle.range_state.specs.Advanced.{key_notes}
use Rattle.range_state.specs.declared.holding.Holding.{Holding}
use Rattle.range_state.proofs.AdvanceLemmas.{left_can_fill, RowsStep, rows_step, rows_advanced, rows_sound}
use Rattle.range_state.proofs.advancing.advance_rows.Goals as goal

pub applications-requires-clause-fills : goal.applications-requires-clause-fills
applications-requires-clause-fills c =
    let can = c.requires.known.1 in
    left_can_fill c.needs_can_fill.ensures c.args.subject.now c.args.held c.requires.known.0 (λ need. not (came_by_any c.as_slice.result.now need)) c.needs-2.result.now can.entered can.sound
    (c.needs-2.ensures ∙ ap (λ (r : KeptRows). r.needs) c.drop_needs_by_any.ensures)

pub returns-clause-advanced : goal.returns-clause-advanced
returns-clause-advanced c =
    let s = c.args.subject.now in
    let held = c.args.held in
    let h = c.requires.known.0 in
    let can = c.requires.known.1 in
    let reported = change_keys c.args.reported.now in
    let table = below (take c.args.p h) s.rank in
    let after : Holding = record { position = c.args.p; rows = c.apply_values.new.rows; pending = c.take_touches.new.pending; groups = held.groups; notes = c.note_keys.new.notes } in
    let cut = c.drop_needs_by_any.new.self in
    let applying = c.in_ok-applying.applying.items in
    let rows : List ValuedApplication → KeptRows = λ given. record { pairs = set_each given cut.pairs; needs = cut.needs } in
    let set : Table → KeptRows = λ pairs. record { pairs = pairs; needs = cut.needs } in
    let carry = carry_values table c.args.reported.now applying can.values c.in_ok-applying.ensures.carry in
    let step : RowsStep s c.args.p reported table held after =
    rows_step s c.args.p reported table held after c.needs.result.now c.needs-2.result.now c.in_ok-touched.touched.items c.as_slice.result.now c.take_touches.new.notes cut (all_unvalued applying)
    c.needs.ensures c.in_ok-touched.ensures (c.as_slice.ensures.value ∙ c.in_ok-keys.ensures.keys) c.in_ok-keys.ensures.pending c.in_ok-keys.ensures.once c.in_ok-keys.ensures.notes c.drop_needs_by_any.ensures c.needs-2.ensures c.in_ok-applying.ensures.made
    (c.in_ok-note_keys.ensures ∙ ap (λ given. noted c.take_touches.new.notes (key_notes c.args.p (all_unvalued given))) c.as_slice-2.ensures.value)
    (c.in_ok-apply_values.ensures ∙ ap rows c.as_slice-3.ensures.value ∙ ap set (set_each_applied table applying cut.pairs carry)) refl refl c.in_ok-keys.ensures.output in
    rows_advanced s c.args.p reported table held after c.requires.fits step

pub returns-clause-sound : goal.returns-clause-sound
returns-clause-sound c = λ h can.
    let s = c.args.subject.now in
    let held = c.args.held in
    let reported = change_keys c.args.reported.now in
    let table = below (take c.args.p h) s.rank in
    let after : Holding = record { position = c.args.p; rows = c.apply_values.new.rows; pending = c.take_touches.new.pending; groups = held.groups; notes = c.note_keys.new.notes } in
    let cut = c.drop_needs_by_any.new.self in
    let applying = c.in_ok-applying.applying.items in
    let rows : List ValuedApplication → KeptRows = λ given. record { pairs = set_each given cut.pairs; needs = cut.needs } in
    let set : Table → KeptRows = λ pairs. record { pairs = pairs; needs = cut.needs } in
    let carry = carry_values table c.args.reported.now applying can.values c.in_ok-applying.ensures.carry in
    let step : RowsStep s c.args.p reported table held after =
    rows_step s c.args.p reported table held after c.needs.result.now c.needs-2.result.now c.in_ok-touched.touched.items c.as_slice.result.now c.take_touches.new.notes cut (all_unvalued applying)
    c.needs.ensures c.in_ok-touched.ensures (c.as_slice.ensures.value ∙ c.in_ok-keys.ensures.keys) c.in_ok-keys.ensures.pending c.in_ok-keys.ensures.once c.in_ok-keys.ensures.notes c.drop_needs_by_any.ensures c.needs-2.ensures c.in_ok-applying.ensures.made
    (c.in_ok-note_keys.ensures ∙ ap (λ given. noted c.take_touches.new.notes (key_notes c.args.p (all_unvalued given))) c.as_slice-2.ensures.value)
    (c.in_ok-apply_values.ensures ∙ ap rows c.as_slice-3.ensures.value ∙ ap set (set_each_applied table applying cut.pairs carry)) refl refl c.in_ok-keys.ensures.output in
    rows_sound s h c.args.p reported held after (record { is_range = c.requires.is_range; entered = can.entered; place = can.within; stands = can.stands }) c.requires.order c.requires.copies can.sound can.told step
