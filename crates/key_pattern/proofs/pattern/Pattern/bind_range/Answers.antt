use Rattle.std.proofs.Common.{◌<◌, if◌then◌else◌, Some, None, length, sym, ap, ◌∙◌, arith, rules}
use Rattle.std.proofs.lemmas.List.{length-map}
use Rattle.semantics.specs.Patterns.{Pattern}
use Rattle.key_ranges.specs.Containing.{bind_range}
use Rattle.key_ranges.proofs.RangeLemmas.{bounds_of}
use Rattle.key_pattern.specs.Plain.{plain_segment, plain_segments}
use Rattle.key_pattern.specs.Shared.{shared_behind}
use Rattle.key_pattern.proofs.SharedLemmas.{first-shared}
use Rattle.key_pattern.proofs.WalkLemmas.{seen_at, segment_at, first_more, first_stop, first_end}
use Rattle.key_pattern.proofs.pattern.Pattern.bind_range.Goals as goal

pub loop-segment-init : goal.loop-segment-init
loop-segment-init c =
    let ascend = (bounds_of c.args.range.now.low c.args.range.now.high c.lo-low.ensures.is_range).ascend in
    record {
      low_text = search rules;
      ascend = rw (c.lo-low.ensures.text, c.hi.ensures) ascend;
      bound = first-shared (plain_segments c.segments-segment-items.result.now) c.args.range.now c.lo-low.result.now c.hi.result.now c.none-found.result
          c.lo-low.ensures.is_range c.lo-low.ensures.text c.hi.ensures c.none-found.ensures;
    }

pub returns-in-None-clause-binds : goal.returns-in-None-clause-binds
returns-in-None-clause-binds c =
    let items = c.segments-segment-items.result.now in
    let p : Pattern = plain_segments items in
    let i = c.loop-segment.segment-index in
    let within : i < length p = omega (arith, c.loop-segment-test.true, length-map items plain_segment) in
    sym (first_end p i (plain_segment c.segment-item.result) (shared_behind c.loop-segment.low.now c.loop-segment.high) c.loop-segment.found within
    (seen_at plain_segment items i c.segment-item.result c.loop-segment-test.true c.segment-item.is) c.in-None.ensures.segments)
    ∙ c.loop-segment.invariant.bound ∙ ap (λ q. bind_range q c.args.range.now) c.segments-segment-items.ensures.segments

pub take-requires-clause-segment : goal.take-requires-clause-segment
take-requires-clause-segment c =
    segment_at c.segments-segment-items.result.now c.args.self.now c.loop-segment.segment-index c.segment-item.result
    c.segments-segment-items.ensures.segments c.segments-segment-items.ensures.is_pattern c.loop-segment-test.true c.segment-item.is

pub returns-then-not-take-clause-binds : goal.returns-then-not-take-clause-binds
returns-then-not-take-clause-binds c =
    let items = c.segments-segment-items.result.now in
    let p : Pattern = plain_segments items in
    let i = c.loop-segment.segment-index in
    let within : i < length p = omega (arith, c.loop-segment-test.true, length-map items plain_segment) in
    sym (first_stop p i (plain_segment c.segment-item.result) c.in-Some.shared.text.now (shared_behind c.in-Some.shared.low.now c.in-Some.shared.high)
    (shared_behind c.loop-segment.low.now c.loop-segment.high) c.loop-segment.found within
    (seen_at plain_segment items i c.segment-item.result c.loop-segment-test.true c.segment-item.is) c.in-Some.ensures.segments
    (sym c.take.ensures ∙ ap (λ took. if took then Some c.take.new.slots else None) c.if-not-take.true))
    ∙ c.loop-segment.invariant.bound ∙ ap (λ q. bind_range q c.args.range.now) c.segments-segment-items.ensures.segments

pub loop-segment-preserved : goal.loop-segment-preserved
loop-segment-preserved c =
    let items = c.segments-segment-items.result.now in
    let p : Pattern = plain_segments items in
    let i = c.loop-segment.segment-index in
    let within : i < length p = omega (arith, c.loop-segment-test.true, length-map items plain_segment) in
    record {
      low_text = search rules;
      ascend = c.in-Some.ensures.ascend;
      bound = first_more p i (plain_segment c.segment-item.result) c.in-Some.shared.text.now (shared_behind c.in-Some.shared.low.now c.in-Some.shared.high)
          (shared_behind c.loop-segment.low.now c.loop-segment.high) c.loop-segment.found c.take.new.slots within
          (seen_at plain_segment items i c.segment-item.result c.loop-segment-test.true c.segment-item.is) c.in-Some.ensures.segments
          (sym c.take.ensures ∙ ap (λ took. if took then Some c.take.new.slots else None) c.if-not-take.false)
          ∙ c.loop-segment.invariant.bound;
    }
