use Rattle.std.proofs.Common.{◌≡◌, ℕ, take, Some, None, subst, rules}
use Rattle.std.proofs.lemmas.Result.{IfErr-weaker}
use Rattle.semantics.specs.States.{below}
use Rattle.key_ranges.specs.Containing.{range_slots}
use Rattle.join_eval.specs.Bounds.{Exceeds, most_of}
use Rattle.join_eval.proofs.CollectingLemmas.{on_too_wide_weaker}
use Rattle.range_state.proofs.CountedLemmas.{nothing_read}
use Rattle.range_state.proofs.HeldLemmas.{tree_fills}
use Rattle.range_state.proofs.NothingLemmas.{nothing_allowed, nothing_filled}
use Rattle.range_state.proofs.filling.fill_by.Goals as goal

pub returns-in_ok-held-in-None-clause-filled : goal.returns-in_ok-held-in-None-clause-filled
returns-in_ok-held-in-None-clause-filled g c =
    let s = c.args.subject.now in
    let h = g.R.Reader.list c.args.reader.now in
    let none : range_slots s.join.output s.range ≡ None = search rules in
    let held = c.in_ok-held-in-None.ensures in (
      nothing_filled s h c.args.p c.in_ok-held-in-None.held c.requires.entered c.requires.stands c.look.ensures none held.held held.groups,
      nothing_allowed s (most_of c.args.bound) (below (take c.args.p h) s.rank) none,
    )

pub returns-in_ok-held-in-None-clause-least : goal.returns-in_ok-held-in-None-clause-least
returns-in_ok-held-in-None-clause-least g c =
    let s = c.args.subject.now in
    let none : range_slots s.join.output s.range ≡ None = search rules in
    nothing_read s.join s.range (below (take c.args.p (g.R.Reader.list c.args.reader.now)) s.rank) c.args.steps.now none

pub returns-in-Some-clause-wide : goal.returns-in-Some-clause-wide
returns-in-Some-clause-wide g c =
    let s = c.args.subject.now in
    let table = below (take c.args.p (g.R.Reader.list c.args.reader.now)) s.rank in
    let of_range : range_slots s.join.output s.range ≡ Some c.in-Some.slots = search rules in
    IfErr-weaker c.fill_under.result _ _ (λ fault is.
    on_too_wide_weaker fault (λ many. subst (λ (n : ℕ). Exceeds (most_of c.args.bound) n) (tree_fills s c.in-Some.slots table of_range) many) is) c.fill_under.ensures.wide
