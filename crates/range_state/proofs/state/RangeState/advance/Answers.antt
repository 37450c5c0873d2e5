use Rattle.std.proofs.Common.{◌≡◌, ◌+◌, ◌≤◌, List, length, take, Option, Some, IfSome, Vec, Global, refl, sym, ap, ◌∙◌, subst, arith}
use Rattle.std.specs.Option.{IsSomeAnd}
use Rattle.std.proofs.lemmas.Option.{same_Some}
use Rattle.std.proofs.lemmas.Result.{err_from_is_err_and}
use Rattle.semantics.specs.Histories.{History, joins_of}
use Rattle.semantics.specs.States.{below}
use Rattle.growing_history.specs.Entered.{HasRank}
use Rattle.growing_history.proofs.PrefixLemmas.{prefix_trans, take_prefix}
use Rattle.growing_history.specs.StateChanges.{Change}
use Rattle.join_eval.specs.Answers.{HaveValues, change_keys}
use Rattle.join_eval.specs.Bounds.{Allows, Exceeds, most_of}
use Rattle.join_eval.specs.Moves.{Moves}
use Rattle.join_eval.proofs.CollectingLemmas.{on_too_wide_always, on_too_wide_weaker}
use Rattle.join_eval.proofs.MovesLemmas.{moves_trans}
use Rattle.kept_ranges.specs.Notes.{note_limit}
use Rattle.kept_ranges.specs.Sound.{KeptRange, IsSoundAt, IsSound}
use Rattle.kept_ranges.specs.SoundLaws.{AreReportedBetween}
use Rattle.kept_ranges.proofs.SoundLemmas.{sound_over_longer}
use Rattle.range_state.specs.Asking.{AreBareThroughout, AreListed}
use Rattle.range_state.specs.Held.{view_of, range_kept, FitsJoin}
use Rattle.range_state.specs.Work.{advance_steps, fill_needs, StaysWithin, TouchesLittle}
use Rattle.range_state.specs.declared.holding.Holding.{Holding}
use Rattle.range_state.proofs.CostLemmas.{same_place, bare_held, cost_held}
use Rattle.range_state.proofs.CountedLemmas.{counts_filled, counts_asked}
use Rattle.range_state.proofs.HeldLemmas.{advanced_few, filled_few}
use Rattle.range_state.proofs.LittleLemmas.{few_kept, little_held, little_same}
use Rattle.range_state.proofs.SoundLemmas.{of_subject, subject_stands}
use Rattle.range_state.proofs.GoneOnLemmas.{can_advance, made_sound, reached_sound, refilled_sound, unchecked_pending}
use Rattle.range_state.proofs.state.RangeState.advance.Goals as goal
use Rattle.range_state.proofs.state.RangeState.advance.Goals.{in-None+in_ok-advanced-in-None, in-Some-asked+in_ok-advanced-in-Some-asked}

pub returns-in_err-advanced-in-None-clause-moves : goal.returns-in_err-advanced-in-None-clause-moves
returns-in_err-advanced-in-None-clause-moves g c =
    moves_trans g.R.Reader.list g.R.Reader.floor g.R.Reader.went c.args.reader.now c.ask_needs.new.reader c.fill_at.new.reader (g.met.R.Reader.went_trans c.args.reader.now c.ask_needs.new.reader c.fill_at.new.reader) c.ask_needs.ensures.moves c.fill_at.ensures.moves

pub returns-in_err-advanced-in-None-clause-wide : goal.returns-in_err-advanced-in-None-clause-wide
returns-in_err-advanced-in-None-clause-wide g c =
    let s = c.self.inside.subject in
    let h = g.R.Reader.list c.args.reader.now in
    let here = g.R.Reader.list c.ask_needs.new.reader in
    let most = most_of c.args.bound in
    let p = err_from_is_err_and c.from_residual-in_err-advanced-in-None.result c.from_residual-in_err-advanced-in-None.ensures.1 in
    rw (p.1, p.2) (on_too_wide_weaker c.in_err-advanced-in-None.field-0.0
    (λ (many : Exceeds most (length (fill_needs s.join s.range (below (take c.args.p here) s.rank)))).
    of_subject (λ j rank range. Exceeds most (length (fill_needs j range (below (take c.args.p h) rank)))) s c.self.inside.held c.args.self.now c.self.view_is
    (subst (λ (es : History). Exceeds most (length (fill_needs s.join s.range (below es s.rank)))) (take_prefix c.args.p h here c.requires.within c.ask_needs.ensures.moves.kept) many)) c.in_err-advanced-in-None.ensures.wide)

pub returns-in_err-advanced-in-None-clause-known : goal.returns-in_err-advanced-in-None-clause-known
returns-in_err-advanced-in-None-clause-known g c = λ q stands bare.
    let s = c.self.inside.subject in
    let h = g.R.Reader.list c.args.reader.now in
    let needs = c.needs-needs.result.now in
    let view : range_kept s c.in-Some.held ≡ c.args.self.now = sym (ap (view_of s) c.in-Some.is) ∙ c.self.view_is in
    absurd (subst (λ (o : Option (Vec Change Global)). IsSomeAnd o (λ changes. AreListed c.in-Some.held.position c.args.p h needs (change_keys changes.items))) c.in-None.is
    (c.in_ok-asked.ensures.bare (bare_held s c.in-Some.held c.args.self.now h q c.args.p needs view stands c.needs-needs.ensures bare)))

pub returns-in_err-advanced-in-None-clause-gone : goal.returns-in_err-advanced-in-None-clause-gone
returns-in_err-advanced-in-None-clause-gone g c =
    let p = err_from_is_err_and c.from_residual-in_err-advanced-in-None.result c.from_residual-in_err-advanced-in-None.ensures.1 in
    rw (p.1, p.2) (on_too_wide_always c.in_err-advanced-in-None.field-0.0 (ap (λ (o : Option Holding). (view_of c.self.inside.subject o).position) c.replace.ensures.after))

pub fill_at-requires-clause-stands : goal.fill_at-requires-clause-stands
fill_at-requires-clause-stands g c =
    let s = c.self.inside.subject in
    let h = g.R.Reader.list c.args.reader.now in
    let here = g.R.Reader.list c.ask_needs.new.reader in
    let stands : HasRank (joins_of (take c.args.p h)) s.join s.rank = subject_stands _ s c.self.inside.held c.args.self.now c.self.view_is c.requires.stands in
    subst (λ (l : History). HasRank (joins_of l) s.join s.rank) (sym (take_prefix c.args.p h here c.requires.within c.ask_needs.ensures.moves.kept)) stands

pub advance_held-requires-clause-is_range : goal.advance_held-requires-clause-is_range
advance_held-requires-clause-is_range g c = c.look.ensures

pub advance_held-requires-clause-known : goal.advance_held-requires-clause-known
advance_held-requires-clause-known g c =
    let s = c.self.inside.subject in
    let h = g.R.Reader.list c.args.reader.now in
    let here = g.R.Reader.list c.ask_needs.new.reader in
    let view : range_kept s c.in-Some.held ≡ c.args.self.now = sym (ap (view_of s) c.in-Some.is) ∙ c.self.view_is in
    let same : c.in-Some-replace.held ≡ c.in-Some.held = same_Some _ _ (sym c.in-Some-replace.is ∙ c.replace.ensures.value ∙ c.in-Some.is) in
    let stands : HasRank (joins_of (take c.args.p h)) s.join s.rank = subject_stands _ s c.self.inside.held c.args.self.now c.self.view_is c.requires.stands in (
      here,
      can_advance s c.in-Some.held c.in-Some-replace.held c.args.self.now h here c.args.p (g.R.Reader.floor c.args.reader.now) c.needs-needs.result.now c.in-Some-asked.reported.items c.as_slice.result.now view same c.requires.order
          c.needs-needs.ensures c.as_slice.ensures.value c.ask_needs.ensures.moves.kept c.requires.within (c.ask_needs.ensures.moves.entered c.requires.entered) stands c.requires.sound
          (subst (λ (o : Option (Vec Change Global)). IfSome o (λ changes. AreReportedBetween h c.in-Some.held.position c.args.p s.rank c.needs-needs.result.now (change_keys changes.items))) c.in-Some-asked.is c.in_ok-asked.ensures.complete)
          (subst (λ (o : Option (Vec Change Global)). IfSome o (λ changes. HaveValues (below (take c.args.p h) s.rank) changes.items)) c.in-Some-asked.is c.in_ok-asked.ensures.values),
    )

pub invariant_of-self-2 : goal.invariant_of-self-2
invariant_of-self-2 g c =
    let s = c.self.inside.subject in
    elim c.match-asked.branch [
      | in-None+in_ok-advanced-in-None w ↦ subst (λ (a : Holding). FitsJoin s.join a) (sym w.advanced-is) w.in_ok-advanced-in-None.ensures.filled.fits
      | in-Some-asked+in_ok-advanced-in-Some-asked w ↦ subst (λ (a : Holding). FitsJoin s.join a) (sym w.advanced-is) w.in_ok-advanced-in-Some-asked.ensures.advanced.fits
    ]

pub returns-clause-sound : goal.returns-clause-sound
returns-clause-sound g c =
    let s = c.self.inside.subject in
    let h = g.R.Reader.list c.args.reader.now in
    let here = g.R.Reader.list c.ask_needs.new.reader in
    let stands : HasRank (joins_of (take c.args.p h)) s.join s.rank = subject_stands _ s c.self.inside.held c.args.self.now c.self.view_is c.requires.stands in
    let first = c.ask_needs.ensures.moves.kept in
    let view : range_kept s c.in-Some.held ≡ c.args.self.now = sym (ap (view_of s) c.in-Some.is) ∙ c.self.view_is in
    let same : c.in-Some-replace.held ≡ c.in-Some.held = same_Some _ _ (sym c.in-Some-replace.is ∙ c.replace.ensures.value ∙ c.in-Some.is) in
    elim c.match-asked.branch [
      | in-None+in_ok-advanced-in-None w ↦ subst (λ (r : g.row.R.Denot). IsSoundAt (range_kept s c.match-asked.advanced) (g.R.Reader.list r) c.match-asked.advanced.position) (sym w.reader-is)
          (made_sound s c.match-asked.advanced _ (g.R.Reader.list w.fill_at.new.reader) w.advanced-is
          (refilled_sound s h here (g.R.Reader.list w.fill_at.new.reader) c.args.p _ first (prefix_trans h here (g.R.Reader.list w.fill_at.new.reader) first w.fill_at.ensures.moves.kept) c.look.ensures c.requires.entered c.requires.within stands w.in_ok-advanced-in-None.ensures.filled))
      | in-Some-asked+in_ok-advanced-in-Some-asked w ↦ subst (λ (r : g.row.R.Denot). IsSoundAt (range_kept s c.match-asked.advanced) (g.R.Reader.list r) c.match-asked.advanced.position) (sym w.reader-is)
          (reached_sound s c.match-asked.advanced _ here c.args.p w.advanced-is w.in_ok-advanced-in-Some-asked.ensures.advanced.position (w.in_ok-advanced-in-Some-asked.ensures.sound here
          (can_advance s c.in-Some.held c.in-Some-replace.held c.args.self.now h here c.args.p (g.R.Reader.floor c.args.reader.now) c.needs-needs.result.now w.in-Some-asked.reported.items w.as_slice.result.now view same c.requires.order
          c.needs-needs.ensures w.as_slice.ensures.value c.ask_needs.ensures.moves.kept c.requires.within (c.ask_needs.ensures.moves.entered c.requires.entered) stands c.requires.sound
          (subst (λ (o : Option (Vec Change Global)). IfSome o (λ changes. AreReportedBetween h c.in-Some.held.position c.args.p s.rank c.needs-needs.result.now (change_keys changes.items))) w.in-Some-asked.is c.in_ok-asked.ensures.complete)
          (subst (λ (o : Option (Vec Change Global)). IfSome o (λ changes. HaveValues (below (take c.args.p h) s.rank) changes.items)) w.in-Some-asked.is c.in_ok-asked.ensures.values))))
    ]

pub returns-in_err-asked-clause-sound : goal.returns-in_err-asked-clause-sound
returns-in_err-asked-clause-sound g c =
    let now = sound_over_longer c.args.self.now (g.R.Reader.list c.args.reader.now) (g.R.Reader.list c.ask_needs.new.reader) c.ask_needs.ensures.moves.kept c.requires.sound in
    let viewed : IsSound (view_of c.self.inside.subject c.self.inside.held) (g.R.Reader.list c.ask_needs.new.reader) = subst (λ (v : KeptRange). IsSound v (g.R.Reader.list c.ask_needs.new.reader)) (sym c.self.view_is) now in
    assumption (now, viewed)

pub returns-clause-unchecked : goal.returns-clause-unchecked
returns-clause-unchecked g c =
    let s = c.self.inside.subject in
    let view : range_kept s c.in-Some.held ≡ c.args.self.now = sym (ap (view_of s) c.in-Some.is) ∙ c.self.view_is in
    let same : c.in-Some-replace.held ≡ c.in-Some.held = same_Some _ _ (sym c.in-Some-replace.is ∙ c.replace.ensures.value ∙ c.in-Some.is) in
    elim c.match-asked.branch [
      | in-None+in_ok-advanced-in-None w ↦ λ none clear. ap (λ (a : Holding). a.pending.noted) w.advanced-is ∙ w.in_ok-advanced-in-None.ensures.filled.pending
      | in-Some-asked+in_ok-advanced-in-Some-asked w ↦ λ none clear. ap (λ (a : Holding). a.pending.noted) w.advanced-is
          ∙ unchecked_pending s c.in-Some.held c.in-Some-replace.held _ c.args.self.now c.args.p _ view same w.in_ok-advanced-in-Some-asked.ensures.advanced none clear
    ]

pub returns-clause-moves : goal.returns-clause-moves
returns-clause-moves g c =
    let total = λ (r : g.row.R.Denot). λ (m : Moves g.R.Reader.list g.R.Reader.floor g.R.Reader.went c.ask_needs.new.reader r). moves_trans g.R.Reader.list g.R.Reader.floor g.R.Reader.went c.args.reader.now c.ask_needs.new.reader r (g.met.R.Reader.went_trans c.args.reader.now c.ask_needs.new.reader r) c.ask_needs.ensures.moves m in
    elim c.match-asked.branch [
      | in-None+in_ok-advanced-in-None w ↦ subst (λ (r : g.row.R.Denot). Moves g.R.Reader.list g.R.Reader.floor g.R.Reader.went c.args.reader.now r) (sym w.reader-is) (total w.fill_at.new.reader w.fill_at.ensures.moves)
      | in-Some-asked+in_ok-advanced-in-Some-asked w ↦ subst (λ (r : g.row.R.Denot). Moves g.R.Reader.list g.R.Reader.floor g.R.Reader.went c.args.reader.now r) (sym w.reader-is) c.ask_needs.ensures.moves
    ]

pub returns-clause-cost : goal.returns-clause-cost
returns-clause-cost g c =
    let s = c.self.inside.subject in
    let h = g.R.Reader.list c.args.reader.now in
    let here = g.R.Reader.list c.ask_needs.new.reader in
    let needs = c.needs-needs.result.now in
    let view : range_kept s c.in-Some.held ≡ c.args.self.now = sym (ap (view_of s) c.in-Some.is) ∙ c.self.view_is in
    let same : c.in-Some-replace.held ≡ c.in-Some.held = same_Some _ _ (sym c.in-Some-replace.is ∙ c.replace.ensures.value ∙ c.in-Some.is) in
    elim c.match-asked.branch [
      | in-None+in_ok-advanced-in-None w ↦ λ q stands bare.
          absurd (subst (λ (o : Option (Vec Change Global)). IsSomeAnd o (λ changes. AreListed c.in-Some.held.position c.args.p h needs (change_keys changes.items))) w.in-None.is
          (c.in_ok-asked.ensures.bare (bare_held s c.in-Some.held c.args.self.now h q c.args.p needs view stands c.needs-needs.ensures bare)))
      | in-Some-asked+in_ok-advanced-in-Some-asked w ↦ λ q stands bare.
          let throughout : AreBareThroughout h c.in-Some.held.position c.args.p needs = bare_held s c.in-Some.held c.args.self.now h q c.args.p needs view stands c.needs-needs.ensures bare in
          subst (λ n. n ≤ c.args.steps.now + advance_steps h q c.args.p c.args.self.now.kept.needs) (sym w.steps-is)
          (cost_held s c.in-Some.held c.args.self.now h q c.args.p needs c.args.steps.now c.ask_needs.new.steps view stands c.needs-needs.ensures (c.in_ok-asked.ensures.bare_cost throughout))
    ]

pub returns-then-held-p-clause-few : goal.returns-then-held-p-clause-few
returns-then-held-p-clause-few g c =
    let most = most_of c.args.bound in
    let here : StaysWithin most c.args.self.now c.args.self.now = λ few. few in
    let viewed : StaysWithin most c.args.self.now (view_of c.self.inside.subject c.self.inside.held) = subst (λ (w : KeptRange). StaysWithin most c.args.self.now w) (sym c.self.view_is) here in
    assumption (here, viewed)

pub returns-clause-few : goal.returns-clause-few
returns-clause-few g c =
    let s = c.self.inside.subject in
    let here = g.R.Reader.list c.ask_needs.new.reader in
    let most = most_of c.args.bound in
    let view : range_kept s c.in-Some.held ≡ c.args.self.now = sym (ap (view_of s) c.in-Some.is) ∙ c.self.view_is in
    let same : c.in-Some-replace.held ≡ c.in-Some.held = same_Some _ _ (sym c.in-Some-replace.is ∙ c.replace.ensures.value ∙ c.in-Some.is) in
    elim c.match-asked.branch [
      | in-None+in_ok-advanced-in-None w ↦ λ few.
          subst (λ (a : Holding). Allows most (length a.rows.needs)) (sym w.advanced-is)
          (filled_few most s (below (take c.args.p here) s.rank) c.args.p w.in_ok-advanced-in-None.advanced w.in_ok-advanced-in-None.ensures.filled w.in_ok-advanced-in-None.ensures.few)
      | in-Some-asked+in_ok-advanced-in-Some-asked w ↦ λ few.
          subst (λ (a : Holding). Allows most (length a.rows.needs)) (sym w.advanced-is)
          (advanced_few most s c.in-Some.held c.in-Some-replace.held w.in_ok-advanced-in-Some-asked.advanced c.args.self.now c.args.p (change_keys w.as_slice.result.now) view same w.in_ok-advanced-in-Some-asked.ensures.advanced few)
    ]

pub returns-then-held-p-clause-little : goal.returns-then-held-p-clause-little
returns-then-held-p-clause-little g c = λ q stands bare.
    let h = g.R.Reader.list c.args.reader.now in
    let few = few_kept c.self.inside.subject c.self.inside.held c.args.self.now c.self.view_is c.self.invariant in
    let here : TouchesLittle h q c.args.p c.args.self.now c.args.self.now = little_same h q c.args.p c.args.self.now few in
    let viewed : TouchesLittle h q c.args.p c.args.self.now (view_of c.self.inside.subject c.self.inside.held) = subst (λ (w : KeptRange). TouchesLittle h q c.args.p c.args.self.now w) (sym c.self.view_is) here in
    assumption (here, viewed)

pub returns-clause-little : goal.returns-clause-little
returns-clause-little g c =
    let s = c.self.inside.subject in
    let h = g.R.Reader.list c.args.reader.now in
    let needs = c.needs-needs.result.now in
    let view : range_kept s c.in-Some.held ≡ c.args.self.now = sym (ap (view_of s) c.in-Some.is) ∙ c.self.view_is in
    let same : c.in-Some-replace.held ≡ c.in-Some.held = same_Some _ _ (sym c.in-Some-replace.is ∙ c.replace.ensures.value ∙ c.in-Some.is) in
    elim c.match-asked.branch [
      | in-None+in_ok-advanced-in-None w ↦ λ q stands bare.
          absurd (subst (λ (o : Option (Vec Change Global)). IsSomeAnd o (λ changes. AreListed c.in-Some.held.position c.args.p h needs (change_keys changes.items))) w.in-None.is
          (c.in_ok-asked.ensures.bare (bare_held s c.in-Some.held c.args.self.now h q c.args.p needs view stands c.needs-needs.ensures bare)))
      | in-Some-asked+in_ok-advanced-in-Some-asked w ↦ λ q stands bare.
          let listed : AreListed c.in-Some.held.position c.args.p h needs (change_keys w.in-Some-asked.reported.items) =
          subst (λ (o : Option (Vec Change Global)). IsSomeAnd o (λ changes. AreListed c.in-Some.held.position c.args.p h needs (change_keys changes.items))) w.in-Some-asked.is
          (c.in_ok-asked.ensures.bare (bare_held s c.in-Some.held c.args.self.now h q c.args.p needs view stands c.needs-needs.ensures bare)) in
          little_held c.few_touches.ensures c.few_applications.ensures s c.in-Some.held c.in-Some-replace.held w.in_ok-advanced-in-Some-asked.advanced c.match-asked.advanced c.args.self.now h q c.args.p needs (change_keys w.in-Some-asked.reported.items) (change_keys w.as_slice.result.now)
          view same stands c.needs-needs.ensures (ap change_keys w.as_slice.ensures.value) listed w.in_ok-advanced-in-Some-asked.ensures.advanced w.advanced-is
    ]

pub returns-then-held-p-clause-least : goal.returns-then-held-p-clause-least
returns-then-held-p-clause-least g c = λ q stands less.
    let s = c.self.inside.subject in
    let view : range_kept s c.in-Some.held ≡ c.args.self.now = sym (ap (view_of s) c.in-Some.is) ∙ c.self.view_is in
    let place = same_place s c.in-Some.held c.args.self.now q view stands in
    absurd (omega (arith, place, less, c.if-held-p.true))

pub returns-clause-least : goal.returns-clause-least
returns-clause-least g c =
    let s = c.self.inside.subject in
    let h = g.R.Reader.list c.args.reader.now in
    let here = g.R.Reader.list c.ask_needs.new.reader in
    let needs = c.needs-needs.result.now in
    let old = c.args.steps.now in
    let mid = c.ask_needs.new.steps in
    let v = c.args.self.now in
    let view : range_kept s c.in-Some.held ≡ v = sym (ap (view_of s) c.in-Some.is) ∙ c.self.view_is in
    elim c.match-asked.branch [
      | in-None+in_ok-advanced-in-None w ↦ λ q stands less.
          counts_filled s c.self.inside.held _ c.match-asked.advanced v h here c.args.p old mid w.fill_at.new.steps _ c.self.view_is w.advanced-is w.steps-is c.ask_needs.ensures.moves.kept c.requires.within
          w.in_ok-advanced-in-None.ensures.filled c.in_ok-asked.ensures.counted w.in_ok-advanced-in-None.ensures.least
      | in-Some-asked+in_ok-advanced-in-Some-asked w ↦ λ q stands less.
          let asked : old + length needs ≤ mid = subst (λ (o : Option (Vec Change Global)). IfSome o (λ _. old + length needs ≤ mid)) w.in-Some-asked.is c.in_ok-asked.ensures.least in
          counts_asked s c.in-Some.held v (range_kept s c.match-asked.advanced) (below (take c.args.p h) v.rank) c.args.p needs old mid mid _ view c.needs-needs.ensures w.steps-is asked (omega arith)
    ]

pub returns-then-held-p-clause-few_notes : goal.returns-then-held-p-clause-few_notes
returns-then-held-p-clause-few_notes g c =
    let here : length c.args.self.now.notes.list ≤ note_limit = few_kept c.self.inside.subject c.self.inside.held c.args.self.now c.self.view_is c.self.invariant in
    let viewed : length (view_of c.self.inside.subject c.self.inside.held).notes.list ≤ note_limit = subst (λ (v : KeptRange). length v.notes.list ≤ note_limit) (sym c.self.view_is) here in
    assumption (here, viewed)

pub returns-clause-few_notes : goal.returns-clause-few_notes
returns-clause-few_notes g c =
    elim c.match-asked.branch [
      | in-None+in_ok-advanced-in-None w ↦ subst (λ (a : Holding). length a.notes.list ≤ note_limit) (sym w.advanced-is) w.in_ok-advanced-in-None.ensures.filled.fits.few
      | in-Some-asked+in_ok-advanced-in-Some-asked w ↦ subst (λ (a : Holding). length a.notes.list ≤ note_limit) (sym w.advanced-is) w.in_ok-advanced-in-Some-asked.ensures.advanced.fits.few
    ]
