use Rattle.std.proofs.Common.{[], ◌∷◌, ap, ◌∙◌}
use Rattle.std.proofs.lemmas.List.{map-append}
use Rattle.key_pattern.specs.Plain.{plain_segment, plain_segments}
use Rattle.key_pattern.proofs.PlaceLemmas.{copied_more}
use Rattle.key_pattern.proofs.pattern.Pattern.copy.Goals as goal

pub loop-segment-preserved : goal.loop-segment-preserved
loop-segment-preserved c =
    ap plain_segments c.in_ok-push.ensures.items
    ∙ map-append plain_segment c.loop-segment.segments.items (c.in_ok-copy.field-0 ∷ [])
    ∙ copied_more plain_segment c.deref-segment-items.result.now (plain_segments c.loop-segment.segments.items) c.loop-segment.segment-index c.segment-item.result
    (plain_segment c.in_ok-copy.field-0) c.loop-segment-test.true c.loop-segment.invariant (c.in_ok-copy.ensures ∙ ap plain_segment c.segment-item.is)
