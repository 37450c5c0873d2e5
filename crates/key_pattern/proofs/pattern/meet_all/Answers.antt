use Rattle.std.proofs.Common.{◌<◌, length, sym, ◌∙◌, arith}
use Rattle.std.proofs.lemmas.List.{length-map}
use Rattle.key_pattern.specs.Plain.{plain_segment, plain_segments}
use Rattle.key_pattern.proofs.WalkLemmas.{seen_at, meet_stop, meet_next, overlaps_unlike}
use Rattle.key_pattern.proofs.pattern.meet_all.Goals as goal

pub returns-then-segments-others : goal.returns-then-segments-others
returns-then-segments-others c =
    sym (overlaps_unlike (plain_segments c.args.segments.now) (plain_segments c.args.others.now)
    (λ e. c.if-segments-others.true (sym (length-map c.args.segments.now plain_segment) ∙ e ∙ length-map c.args.others.now plain_segment)))

pub returns-then-not-meets : goal.returns-then-not-meets
returns-then-not-meets c =
    let i = c.loop-place.place in
    let inside : i < length c.args.others.now = omega arith in
    let within_p : i < length (plain_segments c.args.segments.now) = omega (arith, c.loop-place-test.true, length-map c.args.segments.now plain_segment) in
    let within_q : i < length (plain_segments c.args.others.now) = omega (arith, inside, length-map c.args.others.now plain_segment) in
    sym (meet_stop (plain_segments c.args.segments.now) (plain_segments c.args.others.now) i
    (plain_segment c.index-segments-place.result) (plain_segment c.index-others-place.result) within_p within_q
    (seen_at plain_segment c.args.segments.now i c.index-segments-place.result c.loop-place-test.true c.index-segments-place.is)
    (seen_at plain_segment c.args.others.now i c.index-others-place.result inside c.index-others-place.is)
    (sym c.if-not-meets.ensures) c.loop-place.invariant)

pub loop-place-preserved : goal.loop-place-preserved
loop-place-preserved c =
    let i = c.loop-place.place in
    let inside : i < length c.args.others.now = omega arith in
    let within_p : i < length (plain_segments c.args.segments.now) = omega (arith, c.loop-place-test.true, length-map c.args.segments.now plain_segment) in
    let within_q : i < length (plain_segments c.args.others.now) = omega (arith, inside, length-map c.args.others.now plain_segment) in
    meet_next (plain_segments c.args.segments.now) (plain_segments c.args.others.now) i
    (plain_segment c.index-segments-place.result) (plain_segment c.index-others-place.result) within_p within_q
    (seen_at plain_segment c.args.segments.now i c.index-segments-place.result c.loop-place-test.true c.index-segments-place.is)
    (seen_at plain_segment c.args.others.now i c.index-others-place.result inside c.index-others-place.is)
    (sym c.if-not-meets.ensures) c.loop-place.invariant
