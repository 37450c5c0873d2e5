use Rattle.std.proofs.Common.{sym, subst}
use Rattle.std.proofs.lemmas.Result.{IfOk-weaker}
use Rattle.semantics.specs.Texts.{Text}
use Rattle.semantics.specs.Patterns.{Pattern}
use Rattle.key_pattern.specs.Plain.{plain_segments}
use Rattle.cell_slots.specs.Gaps.{SplitAlike}
use Rattle.cell_slots.proofs.FittingLemmas.{hold_same}
use Rattle.cell_slots.proofs.fitting.fitting_part.Goals as goal

pub returns : goal.returns
returns c =
    let output = c.args.output.now in
    let range = c.args.range.now in
    let segments : Pattern = plain_segments c.segments-segments.result.now in
    let lows : SplitAlike output range.low c.as_str.result.now =
    subst (λ (p : Pattern). SplitAlike p range.low c.as_str.result.now) c.segments-segments.ensures.segments
    (subst (λ (t : Text). SplitAlike segments t c.as_str.result.now) c.lo.ensures.text (subst (λ (t : Text). SplitAlike segments c.lo.result.now t) (sym c.as_str.ensures.value) c.in_ok-low.ensures)) in
    let highs : SplitAlike output range.high c.lowered-high.result.now =
    subst (λ (p : Pattern). SplitAlike p range.high c.lowered-high.result.now) c.segments-segments.ensures.segments
    (subst (λ (t : Text). SplitAlike segments t c.lowered-high.result.now) c.hi.ensures c.lowered-high.ensures) in
    IfOk-weaker c.range_or.result _ _ (λ part is. hold_same output range part c.as_str.result.now c.lowered-high.result.now lows highs is) c.range_or.ensures
