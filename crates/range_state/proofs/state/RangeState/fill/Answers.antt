use Rattle.std.proofs.Common.{◌+◌, ◌≤◌, length, take}
use Rattle.std.proofs.lemmas.Result.{err_from_is_err_and}
use Rattle.semantics.specs.States.{below}
use Rattle.range_evaluation.specs.Trees.{reading_steps}
use Rattle.join_eval.specs.Bounds.{Allows, Exceeds, most_of}
use Rattle.join_eval.proofs.CollectingLemmas.{on_too_wide_weaker}
use Rattle.range_state.specs.Work.{fill_needs}
use Rattle.range_state.proofs.SoundLemmas.{subject_stands, of_subject, filled_afresh, filled_sound}
use Rattle.range_state.proofs.state.RangeState.fill.Goals as goal

pub returns-clause-sound : goal.returns-clause-sound
returns-clause-sound g c =
    filled_sound c.self.inside.subject (g.R.Reader.list c.args.reader.now) (g.R.Reader.list c.fill_at.new.reader) c.args.p c.in_ok-filled.filled c.in_ok-filled.ensures.moves.kept c.in_ok-filled.ensures.is_range c.requires.entered c.requires.within
    (subject_stands _ c.self.inside.subject c.self.inside.held c.args.self.now c.self.view_is c.requires.stands) c.in_ok-filled.ensures.filled

pub returns-in_err-filled-clause-wide : goal.returns-in_err-filled-clause-wide
returns-in_err-filled-clause-wide g c =
    let s = c.self.inside.subject in
    let h = take c.args.p (g.R.Reader.list c.args.reader.now) in
    let p = err_from_is_err_and c.from_residual.result c.from_residual.ensures.1 in
    rw (p.1, p.2) (on_too_wide_weaker c.in_err-filled.field-0.0
    (λ (many : Exceeds (most_of c.args.bound) (length (fill_needs s.join s.range (below h s.rank)))).
    of_subject (λ j rank range. Exceeds (most_of c.args.bound) (length (fill_needs j range (below h rank)))) s c.self.inside.held c.args.self.now c.self.view_is many) c.in_err-filled.ensures.wide)

pub returns-clause-few : goal.returns-clause-few
returns-clause-few g c =
    let h = take c.args.p (g.R.Reader.list c.args.reader.now) in
    of_subject (λ j rank range. Allows (most_of c.args.bound) (length (fill_needs j range (below h rank)))) c.self.inside.subject c.self.inside.held c.args.self.now c.self.view_is c.in_ok-filled.ensures.few

pub returns-clause-filled : goal.returns-clause-filled
returns-clause-filled g c =
    filled_afresh c.self.inside.subject c.self.inside.held c.in_ok-filled.filled c.args.self.now (take c.args.p (g.R.Reader.list c.args.reader.now)) c.args.p c.self.view_is c.in_ok-filled.ensures.filled

pub returns-clause-least : goal.returns-clause-least
returns-clause-least g c =
    let h = take c.args.p (g.R.Reader.list c.args.reader.now) in
    of_subject (λ j rank range. c.args.steps.now + reading_steps (fill_needs j range (below h rank)) (below h rank) ≤ c.fill_at.new.steps) c.self.inside.subject c.self.inside.held c.args.self.now c.self.view_is c.in_ok-filled.ensures.least

pub returns-clause-few_notes : goal.returns-clause-few_notes
returns-clause-few_notes g c = c.in_ok-filled.ensures.filled.fits.few
