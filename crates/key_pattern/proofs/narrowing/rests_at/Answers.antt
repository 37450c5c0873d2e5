use Rattle.std.proofs.Common.{◌<◌, ◌≤◌, length, option_and_then, sym, ap, ◌∙◌, arith, rules}
use Rattle.std.proofs.lemmas.List.{length-map}
use Rattle.semantics.specs.Patterns.{Pattern}
use Rattle.key_ranges.specs.Containing.{open_after, same_width}
use Rattle.key_ranges.proofs.RangeLemmas.{bounds_of}
use Rattle.key_pattern.specs.Plain.{plain_segment, plain_segments}
use Rattle.key_pattern.specs.Shared.{shared_behind}
use Rattle.key_pattern.specs.Narrowing.{plain_slot}
use Rattle.key_pattern.proofs.WalkLemmas.{seen_at}
use Rattle.key_pattern.proofs.RestLemmas.{low_of_range, high_of_range, texts_of_range}
use Rattle.key_pattern.proofs.NarrowingLemmas.{after_more, after_stop, after_found, after_end}
use Rattle.key_pattern.proofs.narrowing.rests_at.Goals as goal

pub loop-segment-init : goal.loop-segment-init
loop-segment-init c =
    let r = c.args.range.now in
    let bounds = bounds_of r.low r.high c.lo-low.ensures.is_range in
    record {
      low_text = search rules;
      ascend = rw (c.lo-low.ensures.text, c.hi.ensures) bounds.ascend;
      after = ap (λ ts. open_after (plain_segments c.args.output.now) ts c.args.slots.now) (texts_of_range r c.lo-low.result.now c.hi.result.now c.lo-low.ensures.is_range c.lo-low.ensures.text c.hi.ensures);
      low = low_of_range r c.lo-low.result.now c.hi.result c.lo-low.ensures.text c.hi.ensures;
      high = high_of_range r c.lo-low.result.now c.hi.result c.lo-low.ensures.text c.hi.ensures;
    }

pub returns-then-is_same_slot : goal.returns-then-is_same_slot
returns-then-is_same_slot c =
    let items = c.args.output.now in
    let p : Pattern = plain_segments items in
    let i = c.loop-segment.segment-index in
    let within : i < length p = omega (arith, c.loop-segment-test.true, length-map items plain_segment) in
    let found = after_found p c.args.slots.now i (plain_segment c.segment-item.result) (shared_behind c.loop-segment.low.now c.loop-segment.high) within
    (seen_at plain_segment items i c.segment-item.result c.loop-segment-test.true c.segment-item.is) c.in-None.ensures.segments in
    record {
      ordered = c.lo-low.ensures.is_range;
      same = ap (option_and_then (same_width (plain_slot c.args.slot))) (sym c.loop-segment.invariant.after ∙ found) ∙ c.if-is_same_slot.ensures;
      low = sym c.in-None.ensures.low_rest ∙ c.loop-segment.invariant.low;
      high = sym c.in-None.ensures.high_rest ∙ c.loop-segment.invariant.high;
    }

pub returns-else-is_same_slot : goal.returns-else-is_same_slot
returns-else-is_same_slot c =
    let items = c.args.output.now in
    let p : Pattern = plain_segments items in
    let i = c.loop-segment.segment-index in
    let within : i < length p = omega (arith, c.loop-segment-test.true, length-map items plain_segment) in
    let found = after_found p c.args.slots.now i (plain_segment c.segment-item.result) (shared_behind c.loop-segment.low.now c.loop-segment.high) within
    (seen_at plain_segment items i c.segment-item.result c.loop-segment-test.true c.segment-item.is) c.in-None.ensures.segments in
    ap (option_and_then (same_width (plain_slot c.args.slot))) (sym c.loop-segment.invariant.after ∙ found) ∙ c.if-is_same_slot.ensures

pub returns-then-not-has_text : goal.returns-then-not-has_text
returns-then-not-has_text c =
    let items = c.args.output.now in
    let p : Pattern = plain_segments items in
    let i = c.loop-segment.segment-index in
    let within : i < length p = omega (arith, c.loop-segment-test.true, length-map items plain_segment) in
    let stop = after_stop p c.args.slots.now i (plain_segment c.segment-item.result) c.in-Some.shared.text.now (shared_behind c.in-Some.shared.low.now c.in-Some.shared.high)
    (shared_behind c.loop-segment.low.now c.loop-segment.high) within
    (seen_at plain_segment items i c.segment-item.result c.loop-segment-test.true c.segment-item.is) c.in-Some.ensures.segments (sym c.has_text.ensures ∙ c.if-not-has_text.true) in
    ap (option_and_then (same_width (plain_slot c.args.slot))) (sym c.loop-segment.invariant.after ∙ stop)

pub loop-segment-preserved : goal.loop-segment-preserved
loop-segment-preserved c =
    let items = c.args.output.now in
    let p : Pattern = plain_segments items in
    let i = c.loop-segment.segment-index in
    let within : i < length p = omega (arith, c.loop-segment-test.true, length-map items plain_segment) in
    record {
      low_text = search rules;
      ascend = c.in-Some.ensures.ascend;
      after = after_more p c.args.slots.now i (plain_segment c.segment-item.result) c.in-Some.shared.text.now (shared_behind c.in-Some.shared.low.now c.in-Some.shared.high)
          (shared_behind c.loop-segment.low.now c.loop-segment.high) within
          (seen_at plain_segment items i c.segment-item.result c.loop-segment-test.true c.segment-item.is) c.in-Some.ensures.segments (sym c.has_text.ensures ∙ c.if-not-has_text.false)
          ∙ c.loop-segment.invariant.after;
      low = sym c.in-Some.ensures.low_rest ∙ c.loop-segment.invariant.low;
      high = sym c.in-Some.ensures.high_rest ∙ c.loop-segment.invariant.high;
    }

pub returns : goal.returns
returns c =
    let items = c.args.output.now in
    let p : Pattern = plain_segments items in
    let i = c.loop-segment.segment-index in
    let end : length p ≤ i = omega (arith, c.loop-segment-test.false, length-map items plain_segment) in
    ap (option_and_then (same_width (plain_slot c.args.slot)))
    (sym c.loop-segment.invariant.after ∙ after_end p c.args.slots.now i (shared_behind c.loop-segment.low.now c.loop-segment.high) end)
