use Rattle.std.proofs.Common.{◌≡◌, ℕ, ◌+◌, ◌≤◌, List, filter, length, not, take, false, Option, Some, IfSome, refl, sym, ap, ◌∙◌, subst}
use Rattle.std.specs.List.{list_any}
use Rattle.std.proofs.lemmas.Result.{err_from_is_err_and}
use Rattle.semantics.specs.Patterns.{Pattern, Slots}
use Rattle.semantics.specs.States.{below}
use Rattle.lazy_log.specs.Pending.{PendingSlots, meets_output}
use Rattle.join_rows.specs.Kept.{AddsEach}
use Rattle.join_eval.specs.Bounds.{Allows, Exceeds, most_of}
use Rattle.join_eval.proofs.CollectingLemmas.{on_too_wide_always, on_too_wide_weaker}
use Rattle.kept_ranges.specs.Notes.{noted}
use Rattle.kept_ranges.specs.Sound.{KeptRange, IsSound, IsSoundAt}
use Rattle.range_state.specs.Held.{FitsJoin, range_kept, view_of}
use Rattle.range_state.specs.Ready.{StandsAt, pending_meets}
use Rattle.range_state.specs.declared.holding.Holding.{Holding}
use Rattle.range_state.specs.Work.{AreBareUnder, meeting, mend_notes, mend_steps, MendsTooMany, needs_under_each}
use Rattle.range_state.proofs.MendLemmas.{parted_sound, none_left, mending_takes, mending_counts, mending_adds, mending_exceeds, mending_notes}
use Rattle.range_state.proofs.state.RangeState.mend.Goals as goal

pub mend_all-requires-clause-sound : goal.mend_all-requires-clause-sound
mend_all-requires-clause-sound g c =
    let s = c.self.inside.subject in
    let held = c.in-Some.held in
    let h = g.R.Reader.list c.args.reader.now in
    let was : c.self.inside.held ≡ Some held = sym c.replace.ensures.value ∙ c.in-Some.is in
    let view : range_kept s held ≡ c.args.self.now = sym (ap (view_of s) was) ∙ c.self.view_is in
    let sound : IsSoundAt (range_kept s held) h held.position = subst (λ (v : KeptRange). IsSound v h) (sym view) c.requires.sound in
    parted_sound (range_kept s held) h held.position (meets_output held.pending.output c.args.range.now) c.in_ok-taken.taken.items c.take_meeting.new.self.noted c.in_ok-taken.ensures.taken (ap (λ (p : PendingSlots). p.noted) c.in_ok-taken.ensures.left) sound

pub returns-in_err-mend_all-clause-wide : goal.returns-in_err-mend_all-clause-wide
returns-in_err-mend_all-clause-wide g c = λ q stands.
    let s = c.self.inside.subject in
    let held = c.in-Some.held in
    let h = g.R.Reader.list c.args.reader.now in
    let most = most_of c.args.bound in
    let was : c.self.inside.held ≡ Some held = sym c.replace.ensures.value ∙ c.in-Some.is in
    let view : range_kept s held ≡ c.args.self.now = sym (ap (view_of s) was) ∙ c.self.view_is in
    let fits : FitsJoin s.join held = subst (λ o. IfSome o (FitsJoin s.join)) was c.self.invariant in
    let taken : c.in_ok-taken.taken.items ≡ filter (meets_output s.join.output c.args.range.now) held.pending.noted =
    c.in_ok-taken.ensures.taken ∙ ap (λ (output : Pattern). filter (meets_output output c.args.range.now) held.pending.noted) fits.output in
    let p = err_from_is_err_and c.from_residual-in_err-mend_all.result c.from_residual-in_err-mend_all.ensures.1 in
    rw (p.1, p.2) (on_too_wide_weaker c.in_err-mend_all.field-0.0
    (λ (many : Exceeds most (length held.rows.needs + length (needs_under_each s.join s.range (below (take held.position h) s.rank) c.in_ok-taken.taken.items))).
    subst (λ (v : KeptRange). (x : ℕ) → StandsAt x v → MendsTooMany most (below (take x h) v.rank) c.args.range.now v) view (mending_exceeds most s held h c.args.range.now c.in_ok-taken.taken.items taken many) q stands)
    c.in_err-mend_all.ensures.wide)

pub returns-in_err-mend_all-clause-gone : goal.returns-in_err-mend_all-clause-gone
returns-in_err-mend_all-clause-gone g c =
    let p = err_from_is_err_and c.from_residual-in_err-mend_all.result c.from_residual-in_err-mend_all.ensures.1 in
    rw (p.1, p.2) (on_too_wide_always c.in_err-mend_all.field-0.0 (ap (λ (o : Option Holding). (view_of c.self.inside.subject o).position) c.replace.ensures.after))

pub returns-clause-few : goal.returns-clause-few
returns-clause-few g c =
    let s = c.self.inside.subject in
    let held = c.in-Some.held in
    let was : c.self.inside.held ≡ Some held = sym c.replace.ensures.value ∙ c.in-Some.is in
    let view : range_kept s held ≡ c.args.self.now = sym (ap (view_of s) was) ∙ c.self.view_is in
    subst (λ (v : KeptRange). Allows (most_of c.args.bound) (length v.kept.needs) → Allows (most_of c.args.bound) (length c.mend_all.new.held.rows.needs)) view c.in_ok-mend_all.ensures.few

pub returns-clause-left : goal.returns-clause-left
returns-clause-left g c =
    let s = c.self.inside.subject in
    let held = c.in-Some.held in
    let was : c.self.inside.held ≡ Some held = sym c.replace.ensures.value ∙ c.in-Some.is in
    let view : range_kept s held ≡ c.args.self.now = sym (ap (view_of s) was) ∙ c.self.view_is in
    let fits : FitsJoin s.join held = subst (λ o. IfSome o (FitsJoin s.join)) was c.self.invariant in
    ap (λ (p : PendingSlots). p.noted) (c.in_ok-mend_all.ensures.stays.pending ∙ c.in_ok-taken.ensures.left)
    ∙ ap (λ (output : Pattern). filter (λ slots. not (meets_output output c.args.range.now slots)) held.pending.noted) fits.output
    ∙ ap (λ (v : KeptRange). filter (λ slots. not (meets_output v.join.output c.args.range.now slots)) v.kept.pending) view

pub returns-clause-clear : goal.returns-clause-clear
returns-clause-clear g c =
    let s = c.self.inside.subject in
    let held = c.in-Some.held in
    let was : c.self.inside.held ≡ Some held = sym c.replace.ensures.value ∙ c.in-Some.is in
    let fits : FitsJoin s.join held = subst (λ o. IfSome o (FitsJoin s.join)) was c.self.invariant in
    let left : c.mend_all.new.held.pending.noted ≡ filter (λ slots. not (meets_output s.join.output c.args.range.now slots)) held.pending.noted =
    ap (λ (p : PendingSlots). p.noted) (c.in_ok-mend_all.ensures.stays.pending ∙ c.in_ok-taken.ensures.left) ∙ ap (λ (output : Pattern). filter (λ slots. not (meets_output output c.args.range.now slots)) held.pending.noted) fits.output in
    ap (list_any (meets_output s.join.output c.args.range.now)) left ∙ none_left (meets_output s.join.output c.args.range.now) held.pending.noted

pub returns-clause-cost : goal.returns-clause-cost
returns-clause-cost g c =
    let s = c.self.inside.subject in
    let held = c.in-Some.held in
    let h = g.R.Reader.list c.args.reader.now in
    let was : c.self.inside.held ≡ Some held = sym c.replace.ensures.value ∙ c.in-Some.is in
    let view : range_kept s held ≡ c.args.self.now = sym (ap (view_of s) was) ∙ c.self.view_is in
    let fits : FitsJoin s.join held = subst (λ o. IfSome o (FitsJoin s.join)) was c.self.invariant in
    let taken : c.in_ok-taken.taken.items ≡ filter (meets_output s.join.output c.args.range.now) held.pending.noted =
    c.in_ok-taken.ensures.taken ∙ ap (λ (output : Pattern). filter (meets_output output c.args.range.now) held.pending.noted) fits.output in
    subst (λ (v : KeptRange). (q : ℕ) → StandsAt q v → AreBareUnder v h q c.args.range.now → c.mend_all.new.steps ≤ c.args.steps.now + mend_steps v (below (take q h) v.rank) c.args.range.now) view
    (mending_takes s held h c.args.range.now c.in_ok-taken.taken.items c.args.steps.now c.mend_all.new.steps taken c.in_ok-mend_all.ensures.cost)

pub returns-clause-least : goal.returns-clause-least
returns-clause-least g c =
    let s = c.self.inside.subject in
    let held = c.in-Some.held in
    let h = g.R.Reader.list c.args.reader.now in
    let was : c.self.inside.held ≡ Some held = sym c.replace.ensures.value ∙ c.in-Some.is in
    let view : range_kept s held ≡ c.args.self.now = sym (ap (view_of s) was) ∙ c.self.view_is in
    let fits : FitsJoin s.join held = subst (λ o. IfSome o (FitsJoin s.join)) was c.self.invariant in
    let taken : c.in_ok-taken.taken.items ≡ filter (meets_output s.join.output c.args.range.now) held.pending.noted =
    c.in_ok-taken.ensures.taken ∙ ap (λ (output : Pattern). filter (meets_output output c.args.range.now) held.pending.noted) fits.output in
    subst (λ (v : KeptRange). (q : ℕ) → StandsAt q v → c.args.steps.now + mend_steps v (below (take q h) v.rank) c.args.range.now ≤ c.mend_all.new.steps) view
    (mending_counts s held h c.args.range.now c.in_ok-taken.taken.items c.args.steps.now c.mend_all.new.steps taken c.in_ok-mend_all.ensures.least)

pub returns-clause-needs : goal.returns-clause-needs
returns-clause-needs g c =
    let s = c.self.inside.subject in
    let held = c.in-Some.held in
    let h = g.R.Reader.list c.args.reader.now in
    let was : c.self.inside.held ≡ Some held = sym c.replace.ensures.value ∙ c.in-Some.is in
    let view : range_kept s held ≡ c.args.self.now = sym (ap (view_of s) was) ∙ c.self.view_is in
    let fits : FitsJoin s.join held = subst (λ o. IfSome o (FitsJoin s.join)) was c.self.invariant in
    let taken : c.in_ok-taken.taken.items ≡ filter (meets_output s.join.output c.args.range.now) held.pending.noted =
    c.in_ok-taken.ensures.taken ∙ ap (λ (output : Pattern). filter (meets_output output c.args.range.now) held.pending.noted) fits.output in
    subst (λ (v : KeptRange). (q : ℕ) → StandsAt q v → AddsEach (needs_under_each v.join v.range (below (take q h) v.rank) (meeting v c.args.range.now)) v.kept.needs c.mend_all.new.held.rows.needs) view
    (mending_adds s held h c.args.range.now c.in_ok-taken.taken.items c.mend_all.new.held.rows.needs taken c.in_ok-mend_all.ensures.needs)

pub returns-clause-notes : goal.returns-clause-notes
returns-clause-notes g c =
    let s = c.self.inside.subject in
    let held = c.in-Some.held in
    let was : c.self.inside.held ≡ Some held = sym c.replace.ensures.value ∙ c.in-Some.is in
    let view : range_kept s held ≡ c.args.self.now = sym (ap (view_of s) was) ∙ c.self.view_is in
    let fits : FitsJoin s.join held = subst (λ o. IfSome o (FitsJoin s.join)) was c.self.invariant in
    let taken : c.in_ok-taken.taken.items ≡ filter (meets_output s.join.output c.args.range.now) held.pending.noted =
    c.in_ok-taken.ensures.taken ∙ ap (λ (output : Pattern). filter (meets_output output c.args.range.now) held.pending.noted) fits.output in
    subst (λ (v : KeptRange). (q : ℕ) → StandsAt q v → c.mend_all.new.held.notes ≡ noted v.notes (mend_notes q (meeting v c.args.range.now))) view
    (mending_notes s held c.args.range.now c.in_ok-taken.taken.items c.mend_all.new.held.notes taken c.in_ok-mend_all.ensures.notes)

pub returns-clause-few_notes : goal.returns-clause-few_notes
returns-clause-few_notes g c = c.in_ok-mend_all.ensures.fits.few
