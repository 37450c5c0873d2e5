use Rattle.std.proofs.Common.{ℕ, ◌+◌, ◌<◌, ◌≤◌, ◌≡◌, length, take, Some, sym, ap, subst}
use Rattle.semantics.specs.Texts.{pairs_within}
use Rattle.semantics.specs.Histories.{joins_of}
use Rattle.semantics.specs.Outputs.{out}
use Rattle.semantics.specs.States.{below}
use Rattle.range_evaluation.specs.Trees.{reading_steps}
use Rattle.join_eval.specs.Walks.{AreBare}
use Rattle.kept_ranges.specs.Sound.{KeptRange}
use Rattle.range_state.specs.Held.{view_of}
use Rattle.range_state.specs.Work.{fill_needs, IsLeftOut}
use Rattle.range_state.proofs.HeldLemmas.{empty_of, fills_loose, fills_whole}
use Rattle.range_state.proofs.SoundLemmas.{subject_stands, of_subject, filled_afresh, filled_sound}
use Rattle.range_state.proofs.state.RangeState.fill_up_to.Goals as goal

-- ---- where it is kept

pub invariant_of-self : goal.invariant_of-self
invariant_of-self g c =
    let s = c.self.inside.subject in
    (fills_whole s (Some c.args.most) (below (take c.args.p (g.R.Reader.list c.args.reader.now)) s.rank) c.args.p c.in_ok-filling.filling c.in-Whole.held c.in-Whole.is c.in_ok-filling.ensures.filled).0.fits

pub returns-in-Whole-clause-filled : goal.returns-in-Whole-clause-filled
returns-in-Whole-clause-filled g c =
    let s = c.self.inside.subject in
    let h = take c.args.p (g.R.Reader.list c.args.reader.now) in
    let whole = fills_whole s (Some c.args.most) (below h s.rank) c.args.p c.in_ok-filling.filling c.in-Whole.held c.in-Whole.is c.in_ok-filling.ensures.filled in
    record {
      at = ap (λ (q : ℕ). Some q) whole.0.position;
      clear = whole.0.pending;
      afresh = filled_afresh s c.self.inside.held c.in-Whole.held c.args.self.now h c.args.p c.self.view_is whole.0;
      few = of_subject (λ j rank range. length (fill_needs j range (below h rank)) ≤ c.args.most) s c.self.inside.held c.args.self.now c.self.view_is whole.1;
    }

pub returns-in-Whole-clause-sound : goal.returns-in-Whole-clause-sound
returns-in-Whole-clause-sound g c =
    let s = c.self.inside.subject in
    let h = take c.args.p (g.R.Reader.list c.args.reader.now) in
    let whole = fills_whole s (Some c.args.most) (below h s.rank) c.args.p c.in_ok-filling.filling c.in-Whole.held c.in-Whole.is c.in_ok-filling.ensures.filled in
    filled_sound s (g.R.Reader.list c.args.reader.now) (g.R.Reader.list c.fill_by.new.reader) c.args.p c.in-Whole.held c.in_ok-filling.ensures.moves.kept c.in_ok-filling.ensures.is_range c.requires.entered c.requires.within
    (subject_stands _ s c.self.inside.held c.args.self.now c.self.view_is c.requires.stands) whole.0

pub returns-in-Whole-clause-least : goal.returns-in-Whole-clause-least
returns-in-Whole-clause-least g c =
    let h = take c.args.p (g.R.Reader.list c.args.reader.now) in
    of_subject (λ j rank range. c.args.steps.now + reading_steps (fill_needs j range (below h rank)) (below h rank) ≤ c.fill_by.new.steps) c.self.inside.subject c.self.inside.held c.args.self.now c.self.view_is c.in_ok-filling.ensures.least

pub returns-in-Whole-clause-cost : goal.returns-in-Whole-clause-cost
returns-in-Whole-clause-cost g c =
    let h = take c.args.p (g.R.Reader.list c.args.reader.now) in
    of_subject (λ j rank range. AreBare (joins_of h) (fill_needs j range (below h rank)) → c.fill_by.new.steps ≤ c.args.steps.now + reading_steps (fill_needs j range (below h rank)) (below h rank)) c.self.inside.subject c.self.inside.held c.args.self.now c.self.view_is
    c.in_ok-filling.ensures.cost

-- ---- where it is not

-- the view of what stays as it is may be named by its fields
pub returns-in-Loose-clause-filled : goal.returns-in-Loose-clause-filled
returns-in-Loose-clause-filled g c =
    let s = c.self.inside.subject in
    let v = c.args.self.now in
    let h = take c.args.p (g.R.Reader.list c.args.reader.now) in
    let rows = c.in-Loose.rows in
    let own = fills_loose s (Some c.args.most) (below h s.rank) c.args.p c.in_ok-filling.filling rows _ c.in-Loose.is c.in_ok-filling.ensures.filled in
    let here : IsLeftOut c.args.most (below h v.rank) v v rows = record {
      nothing = c.requires.forgotten;
      empty = empty_of s c.self.inside.held v c.self.view_is c.requires.forgotten;
      rows = of_subject (λ j rank range. rows.pairs ≡ pairs_within range (out j (below h rank))) s c.self.inside.held v c.self.view_is own.0;
      many = of_subject (λ j rank range. c.args.most < length (fill_needs j range (below h rank))) s c.self.inside.held v c.self.view_is own.1;
    } in
    let viewed : IsLeftOut c.args.most (below h v.rank) v (view_of s c.self.inside.held) rows = subst (λ (after : KeptRange). IsLeftOut c.args.most (below h v.rank) v after rows) (sym c.self.view_is) here in
    assumption (here, viewed)

pub returns-in-Loose-clause-least : goal.returns-in-Loose-clause-least
returns-in-Loose-clause-least g c =
    let h = take c.args.p (g.R.Reader.list c.args.reader.now) in
    of_subject (λ j rank range. c.args.steps.now + reading_steps (fill_needs j range (below h rank)) (below h rank) ≤ c.fill_by.new.steps) c.self.inside.subject c.self.inside.held c.args.self.now c.self.view_is c.in_ok-filling.ensures.least

pub returns-in-Loose-clause-cost : goal.returns-in-Loose-clause-cost
returns-in-Loose-clause-cost g c =
    let h = take c.args.p (g.R.Reader.list c.args.reader.now) in
    of_subject (λ j rank range. AreBare (joins_of h) (fill_needs j range (below h rank)) → c.fill_by.new.steps ≤ c.args.steps.now + reading_steps (fill_needs j range (below h rank)) (below h rank)) c.self.inside.subject c.self.inside.held c.args.self.now c.self.view_is
    c.in_ok-filling.ensures.cost
