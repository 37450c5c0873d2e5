use Rattle.std.proofs.Common.{◌<◌, ◌≤◌, if◌then◌else◌, Some, None, length, drop, refl, sym, ap, ◌∙◌, arith}
use Rattle.std.proofs.lemmas.List.{length-map}
use Rattle.semantics.specs.Patterns.{Pattern, take_all}
use Rattle.key_pattern.specs.Plain.{plain_segment, plain_segments}
use Rattle.key_pattern.specs.Pieces.{segments_left}
use Rattle.key_pattern.proofs.WalkLemmas.{seen_at, segment_at, walk_short, walk_stop, walk_more, walk_long}
use Rattle.key_pattern.proofs.matching.bind_text.Goals as goal

pub returns-in_err-left-clause-binds : goal.returns-in_err-left-clause-binds
returns-in_err-left-clause-binds c =
    let items = c.args.segments.now in
    let p : Pattern = plain_segments items in
    let i = c.loop-segment.segment-index in
    let within : i < length p = omega (arith, c.loop-segment-test.true, length-map items plain_segment) in
    c.from_residual.ensures ∙ sym (
    sym c.loop-segment.invariant
    ∙ ap (λ l. take_all (drop i p) (segments_left l) c.loop-segment.found) c.in_err-left.was
    ∙ walk_short p i c.loop-segment.found within)

pub take-requires-clause-segment : goal.take-requires-clause-segment
take-requires-clause-segment c =
    segment_at c.args.segments.now (plain_segments c.args.segments.now) c.loop-segment.segment-index c.segment-item.result refl c.requires c.loop-segment-test.true c.segment-item.is

pub returns-then-not-take-clause-binds : goal.returns-then-not-take-clause-binds
returns-then-not-take-clause-binds c =
    let items = c.args.segments.now in
    let p : Pattern = plain_segments items in
    let i = c.loop-segment.segment-index in
    let within : i < length p = omega (arith, c.loop-segment-test.true, length-map items plain_segment) in
    sym (
    sym c.loop-segment.invariant
    ∙ walk_stop p i (plain_segment c.segment-item.result) c.first_segment.result.0.now (segments_left c.first_segment.result.1) (segments_left c.loop-segment.left) c.loop-segment.found
    within (seen_at plain_segment items i c.segment-item.result c.loop-segment-test.true c.segment-item.is)
    (ap segments_left c.in_ok-left.was ∙ c.first_segment.ensures.parts)
    (sym c.take.ensures ∙ ap (λ took. if took then Some c.take.new.slots else None) c.if-not-take.true))

pub loop-segment-preserved : goal.loop-segment-preserved
loop-segment-preserved c =
    let items = c.args.segments.now in
    let p : Pattern = plain_segments items in
    let i = c.loop-segment.segment-index in
    let within : i < length p = omega (arith, c.loop-segment-test.true, length-map items plain_segment) in
    walk_more p i (plain_segment c.segment-item.result) c.first_segment.result.0.now (segments_left c.first_segment.result.1) (segments_left c.loop-segment.left) c.loop-segment.found c.take.new.slots
    within (seen_at plain_segment items i c.segment-item.result c.loop-segment-test.true c.segment-item.is)
    (ap segments_left c.in_ok-left.was ∙ c.first_segment.ensures.parts)
    (sym c.take.ensures ∙ ap (λ took. if took then Some c.take.new.slots else None) c.if-not-take.false)
    ∙ c.loop-segment.invariant

pub returns-in-Some-clause-binds : goal.returns-in-Some-clause-binds
returns-in-Some-clause-binds c =
    let items = c.args.segments.now in
    let p : Pattern = plain_segments items in
    let i = c.loop-segment.segment-index in
    let end : length p ≤ i = omega (arith, c.loop-segment-test.false, length-map items plain_segment) in
    sym (
    sym c.loop-segment.invariant
    ∙ ap (λ l. take_all (drop i p) (segments_left l) c.loop-segment.found) c.in-Some.is
    ∙ walk_long p i c.in-Some.field-0.now c.loop-segment.found end)
