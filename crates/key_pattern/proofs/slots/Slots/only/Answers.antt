use Rattle.std.proofs.Common.{◌<◌, ◌≤◌, length, fold, ap, ◌∙◌, arith}
use Rattle.std.proofs.lemmas.List.{length-map, take_all}
use Rattle.semantics.specs.Patterns.{no_slots}
use Rattle.key_ranges.specs.Containing.{with_slot, only}
use Rattle.key_pattern.specs.Plain.{plain_segment, plain_segments}
use Rattle.key_pattern.proofs.WalkLemmas.{seen_at, segment_at, folded_more}
use Rattle.key_pattern.proofs.slots.Slots.only.Goals as goal

pub give-requires : goal.give-requires
give-requires c =
    segment_at c.segments-segment-items.result.now c.args.out.now c.loop-segment.segment-index c.segment-item.result
    c.segments-segment-items.ensures.segments c.segments-segment-items.ensures.is_pattern c.loop-segment-test.true c.segment-item.is

pub loop-segment-preserved : goal.loop-segment-preserved
loop-segment-preserved c =
    let items = c.segments-segment-items.result.now in
    let i = c.loop-segment.segment-index in
    let within : i < length (plain_segments items) = omega (arith, c.loop-segment-test.true, length-map items plain_segment) in
    folded_more (with_slot c.args.self.now) no_slots c.loop-segment.kept c.give.new.kept (plain_segments items) i (plain_segment c.segment-item.result) within
    (seen_at plain_segment items i c.segment-item.result c.loop-segment-test.true c.segment-item.is) c.loop-segment.invariant c.give.ensures

pub returns : goal.returns
unfolding only
returns c =
    let items = c.segments-segment-items.result.now in
    let i = c.loop-segment.segment-index in
    let end : length (plain_segments items) ≤ i = omega (arith, c.loop-segment-test.false, length-map items plain_segment) in
    c.loop-segment.invariant
    ∙ ap (fold (with_slot c.args.self.now) no_slots) (take_all i (plain_segments items) end ∙ c.segments-segment-items.ensures.segments)
