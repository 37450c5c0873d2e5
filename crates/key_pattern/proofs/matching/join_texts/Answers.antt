use Rattle.std.proofs.Common.{◌<◌, ◌++◌, [], ◌∷◌, length, option_map, refl, ap, ◌∙◌, subst, arith}
use Rattle.std.specs.String.{string_bytes}
use Rattle.std.proofs.lemmas.List.{length-map}
use Rattle.semantics.specs.Patterns.{segment_texts}
use Rattle.key_pattern.specs.Plain.{plain_segment, plain_segments}
use Rattle.key_pattern.specs.Pieces.{AddsSegment}
use Rattle.key_pattern.proofs.JoinedTexts.{joined_after, join_none, join_more, set_at}
use Rattle.key_pattern.proofs.WalkLemmas.{seen_at}
use Rattle.key_pattern.proofs.matching.join_texts.Goals as goal
use lib.Utf8.{encode}

pub loop-segment-init : goal.loop-segment-init
loop-segment-init c = (
  ([], (refl, refl)),
  ap (λ b. option_map (λ ts. b ++ joined_after [] ts) (segment_texts (plain_segments c.args.segments.now) c.args.slots.now)) c.new-text.ensures.bytes
      ∙ join_none (segment_texts (plain_segments c.args.segments.now) c.args.slots.now),
)

pub push_segment-requires : goal.push_segment-requires
push_segment-requires c =
    let items = c.args.segments.now in
    let within : c.loop-segment.segment-index < length (plain_segments items) = omega (arith, c.loop-segment-test.true, length-map items plain_segment) in
    set_at (plain_segments items) c.args.slots.now c.loop-segment.segment-index (plain_segment c.segment-item.result) c.requires within
    (seen_at plain_segment items c.loop-segment.segment-index c.segment-item.result c.loop-segment-test.true c.segment-item.is)

pub loop-segment-preserved : goal.loop-segment-preserved
unfolding encode
loop-segment-preserved c =
    let items = c.args.segments.now in
    let within : c.loop-segment.segment-index < length (plain_segments items) = omega (arith, c.loop-segment-test.true, length-map items plain_segment) in
    let next = string_bytes c.push_segment.new.text in
    let adds = subst (λ b. AddsSegment (plain_segment c.segment-item.result) c.args.slots.now b next) c.in_ok-push_str.ensures.bytes c.in_ok-push_segment.ensures in (
      (124 ∷ [], (refl, refl)),
      join_more (plain_segments items) c.args.slots.now c.loop-segment.segment-index (plain_segment c.segment-item.result) (string_bytes c.loop-segment.text) c.loop-segment.separator.now next
          within (seen_at plain_segment items c.loop-segment.segment-index c.segment-item.result c.loop-segment-test.true c.segment-item.is) adds
          ∙ c.loop-segment.invariant.1,
    )
