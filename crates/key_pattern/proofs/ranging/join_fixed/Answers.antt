use Rattle.std.proofs.Common.{◌≡◌, ◌<◌, [], ◌∷◌, length, refl, arith}
use Rattle.std.specs.String.{string_bytes}
use Rattle.std.proofs.lemmas.List.{length-map}
use Rattle.key_pattern.specs.Plain.{plain_segment, plain_segments}
use Rattle.key_pattern.proofs.FixedLemmas.{joined_first, joined_next, joined_last, joined_all}
use Rattle.key_pattern.proofs.WalkLemmas.{seen_at}
use Rattle.key_pattern.proofs.ranging.join_fixed.Goals as goal
use lib.Utf8.{encode}

pub loop-segment-init : goal.loop-segment-init
loop-segment-init c = (([], (refl, refl)), joined_first (plain_segments c.args.segments.now) c.args.slots.now (string_bytes c.new-text.result) c.new-text.ensures.bytes)

pub returns-then-not-branch : goal.returns-then-not-branch
returns-then-not-branch c =
    let items = c.args.segments.now in
    let i = c.loop-segment.segment-index in
    let within : i < length (plain_segments items) = omega (arith, c.loop-segment-test.true, length-map items plain_segment) in
    let last = joined_last (plain_segments items) c.args.slots.now i (plain_segment c.segment-item.result) (string_bytes c.loop-segment.text) c.loop-segment.separator.now (string_bytes c.push_fixed.new.text) c.in_ok-push_fixed.field-0
    within (seen_at plain_segment items i c.segment-item.result c.loop-segment-test.true c.segment-item.is) c.if-not-branch.true c.in_ok-push_fixed.ensures c.loop-segment.invariant.1 in
    record { text = last.0; is_whole = last.1 }

pub loop-segment-preserved : goal.loop-segment-preserved
unfolding encode
loop-segment-preserved c =
    let items = c.args.segments.now in
    let i = c.loop-segment.segment-index in
    let within : i < length (plain_segments items) = omega (arith, c.loop-segment-test.true, length-map items plain_segment) in (
      (124 ∷ [], (refl, refl)),
      joined_next (plain_segments items) c.args.slots.now i (plain_segment c.segment-item.result) (string_bytes c.loop-segment.text) c.loop-segment.separator.now (string_bytes c.push_fixed.new.text) c.in_ok-push_fixed.field-0
          within (seen_at plain_segment items i c.segment-item.result c.loop-segment-test.true c.segment-item.is) c.if-not-branch.false c.in_ok-push_fixed.ensures c.loop-segment.invariant.1,
    )

pub returns : goal.returns
returns c =
    let items = c.args.segments.now in
    let end : c.loop-segment.segment-index ≡ length (plain_segments items) = omega (arith, c.loop-segment-test.false, c.loop-segment.auto.segment-index-end, length-map items plain_segment) in
    let all = joined_all (plain_segments items) c.args.slots.now c.loop-segment.segment-index (string_bytes c.loop-segment.text) c.loop-segment.separator.now end c.loop-segment.invariant.1 in
    record { text = all.0; is_whole = all.1 }
