use Rattle.std.proofs.Common.{◌≡◌, List, Some, take, refl, sym, ap, ◌∙◌, subst}
use Rattle.semantics.specs.States.{below}
use Rattle.growing_history.proofs.EnteredLemmas.{has_entered_taken, keeps_rules}
use Rattle.agg_rows.specs.Kept.{pairs_of}
use Rattle.join_eval.specs.Answers.{change_keys}
use Rattle.kept_ranges.specs.Listing.{IsApplied}
use Rattle.kept_ranges.specs.Notes.{noted}
use Rattle.range_state.specs.Valued.{ValuedApplication, all_unvalued, list_each}
use Rattle.range_state.proofs.ApplyingLemmas.{carry_values}
use Rattle.range_state.proofs.SettingLemmas.{list_each_applied}
use Rattle.range_state.specs.Advanced.{key_notes}
use Rattle.range_state.specs.declared.holding.Holding.{Holding}
use Rattle.range_state.proofs.AdvanceLemmas.{all_can_fill, GroupsStep, groups_step, groups_advanced, groups_sound}
use Rattle.range_state.proofs.advancing.advance_groups.Goals as goal

pub applications-requires-clause-fills : goal.applications-requires-clause-fills
applications-requires-clause-fills c =
    let can = c.requires.known.1 in
    all_can_fill c.needs_can_fill.ensures c.args.subject.now c.args.held c.requires.known.0 c.needs.result.now can.entered can.sound c.needs.ensures

pub returns-clause-advanced : goal.returns-clause-advanced
returns-clause-advanced c =
    let s = c.args.subject.now in
    let held = c.args.held in
    let h = c.requires.known.0 in
    let can = c.requires.known.1 in
    let reported = change_keys c.args.reported.now in
    let table = below (take c.args.p h) s.rank in
    let after : Holding = record { position = c.args.p; rows = c.remake_rows.new.rows; pending = held.pending; groups = Some c.list_values.new.groups; notes = c.note_keys.new.notes } in
    let applying = c.in_ok-applying.applying.items in
    let made : c.as_slice-made.result.now ≡ applying = c.as_slice-made.ensures.value in
    let carry = carry_values table c.args.reported.now applying can.values c.in_ok-applying.ensures.carry in
    let step : GroupsStep s c.args.p reported table held after =
    groups_step s c.args.p reported table held after c.needs.result.now c.in-Some.groups c.list_values.new.groups (all_unvalued applying) c.requires.fits
    c.needs.ensures c.in-Some.is refl c.in_ok-applying.ensures.made refl refl
    (c.in_ok-note_keys.ensures ∙ ap (λ given. noted held.notes (key_notes c.args.p (all_unvalued given))) c.as_slice.ensures.value) c.list_values.ensures.operator
    (λ k. c.in_ok-list_values.ensures.listed k ∙ ap (λ (given : List ValuedApplication). list_each given k (pairs_of k c.in-Some.groups.groups)) made ∙ list_each_applied table applying k (pairs_of k c.in-Some.groups.groups) carry)
    c.in_ok-remake_rows.ensures.needs
    (λ k applied_to. c.in_ok-remake_rows.ensures.made k (subst (λ (given : List ValuedApplication). IsApplied (all_unvalued given) k) (sym made) applied_to))
    (λ k away. c.in_ok-remake_rows.ensures.others k (λ applied_to. away (subst (λ (given : List ValuedApplication). IsApplied (all_unvalued given) k) made applied_to)))
    c.in_ok-remake_rows.ensures.ascending in
    groups_advanced s c.args.p reported table held after (keeps_rules (take c.args.p h) s.join s.rank (has_entered_taken c.args.p h can.entered) can.stands) c.requires.aggregates c.requires.fits step

pub returns-clause-sound : goal.returns-clause-sound
returns-clause-sound c = λ h can.
    let s = c.args.subject.now in
    let held = c.args.held in
    let reported = change_keys c.args.reported.now in
    let table = below (take c.args.p h) s.rank in
    let after : Holding = record { position = c.args.p; rows = c.remake_rows.new.rows; pending = held.pending; groups = Some c.list_values.new.groups; notes = c.note_keys.new.notes } in
    let applying = c.in_ok-applying.applying.items in
    let made : c.as_slice-made.result.now ≡ applying = c.as_slice-made.ensures.value in
    let carry = carry_values table c.args.reported.now applying can.values c.in_ok-applying.ensures.carry in
    let step : GroupsStep s c.args.p reported table held after =
    groups_step s c.args.p reported table held after c.needs.result.now c.in-Some.groups c.list_values.new.groups (all_unvalued applying) c.requires.fits
    c.needs.ensures c.in-Some.is refl c.in_ok-applying.ensures.made refl refl
    (c.in_ok-note_keys.ensures ∙ ap (λ given. noted held.notes (key_notes c.args.p (all_unvalued given))) c.as_slice.ensures.value) c.list_values.ensures.operator
    (λ k. c.in_ok-list_values.ensures.listed k ∙ ap (λ (given : List ValuedApplication). list_each given k (pairs_of k c.in-Some.groups.groups)) made ∙ list_each_applied table applying k (pairs_of k c.in-Some.groups.groups) carry)
    c.in_ok-remake_rows.ensures.needs
    (λ k applied_to. c.in_ok-remake_rows.ensures.made k (subst (λ (given : List ValuedApplication). IsApplied (all_unvalued given) k) (sym made) applied_to))
    (λ k away. c.in_ok-remake_rows.ensures.others k (λ applied_to. away (subst (λ (given : List ValuedApplication). IsApplied (all_unvalued given) k) made applied_to)))
    c.in_ok-remake_rows.ensures.ascending in
    groups_sound s h c.args.p reported held after (record { is_range = c.requires.is_range; entered = can.entered; place = can.within; stands = can.stands }) c.requires.order c.requires.aggregates can.sound can.told step
