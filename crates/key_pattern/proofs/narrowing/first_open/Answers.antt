use Rattle.std.proofs.Common.{◌<◌, ◌≤◌, length, sym, ◌∙◌, arith}
use Rattle.std.proofs.lemmas.List.{length-map}
use Rattle.semantics.specs.Patterns.{Pattern}
use Rattle.key_pattern.specs.Plain.{plain_segment, plain_segments}
use Rattle.key_pattern.specs.Narrowing.{plain_slot}
use Rattle.key_pattern.proofs.NarrowingLemmas.{open_more, open_found, open_none}
use Rattle.key_pattern.proofs.WalkLemmas.{seen_at}
use Rattle.key_pattern.proofs.narrowing.first_open.Goals as goal

pub returns-in-Some : goal.returns-in-Some
returns-in-Some c =
    let items = c.args.segments.now in
    let p : Pattern = plain_segments items in
    let i = c.loop-segment.segment-index in
    let within : i < length p = omega (arith, c.loop-segment-test.true, length-map items plain_segment) in
    sym (open_found p c.args.slots.now i (plain_segment c.segment-item.result) (plain_slot c.in-Some.slot) within
    (seen_at plain_segment items i c.segment-item.result c.loop-segment-test.true c.segment-item.is) (sym c.in-Some.ensures))
    ∙ c.loop-segment.invariant

pub loop-segment-preserved : goal.loop-segment-preserved
loop-segment-preserved c =
    let items = c.args.segments.now in
    let p : Pattern = plain_segments items in
    let i = c.loop-segment.segment-index in
    let within : i < length p = omega (arith, c.loop-segment-test.true, length-map items plain_segment) in
    open_more p c.args.slots.now i (plain_segment c.segment-item.result) within
    (seen_at plain_segment items i c.segment-item.result c.loop-segment-test.true c.segment-item.is) (sym c.in-None.ensures)
    ∙ c.loop-segment.invariant

pub returns : goal.returns
returns c =
    let items = c.args.segments.now in
    let p : Pattern = plain_segments items in
    let i = c.loop-segment.segment-index in
    let end : length p ≤ i = omega (arith, c.loop-segment-test.false, length-map items plain_segment) in
    sym (open_none p c.args.slots.now i end) ∙ c.loop-segment.invariant
