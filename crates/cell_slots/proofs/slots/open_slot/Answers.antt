use Rattle.std.proofs.Common.{◌+◌, ◌<◌, length, drop, Some, arith, lit<, rules}
use Rattle.std.proofs.lemmas.List.{length-map}
use Rattle.std.proofs.lemmas.Str.Pattern.{split_parts}
use Rattle.semantics.specs.Texts.{bar}
use Rattle.semantics.specs.Patterns.{Pattern}
use Rattle.key_pattern.specs.Plain.{plain_segment, plain_segments}
use Rattle.key_pattern.proofs.CutLemmas.{lacks_from_reads}
use Rattle.key_pattern.proofs.WalkLemmas.{left_at, seen_at}
use Rattle.cell_slots.proofs.SlotLemmas.{if_leaves_open, left_begin, left_more}
use Rattle.cell_slots.proofs.slots.open_slot.Goals as goal

pub loop-place-init : goal.loop-place-init
loop-place-init c = record {
  rest_text = search rules;
  left = left_begin (plain_segments c.args.output.now) c.args.bound.now;
}

pub loop-place-preserved : goal.loop-place-preserved
loop-place-preserved c =
    let items = c.args.output.now in
    let p : Pattern = plain_segments items in
    let i = c.loop-place.place in
    let within : i < length p = omega (arith, c.loop-place-test.true, length-map items plain_segment) in
    let cut = split_parts 124 c.loop-place.rest.now (Some c.in-Some.cut) c.in-Some.ensures.cases (lit< tt) in
    record {
      rest_text = search rules;
      left = left_more p (drop i p) c.args.bound.now c.loop-place.rest.now c.in-Some.cut.0.now c.in-Some.cut.1.now (plain_segment c.index-output-place.result) (drop (i + 1) p)
          (left_at p i (plain_segment c.index-output-place.result) within (seen_at plain_segment items i c.index-output-place.result c.loop-place-test.true c.index-output-place.is))
          cut.0 (lacks_from_reads bar c.in-Some.cut.0.now cut.1) c.loop-place.invariant.left;
    }

pub returns-in-None : goal.returns-in-None
returns-in-None c =
    let items = c.args.output.now in
    let p : Pattern = plain_segments items in
    let i = c.loop-place.place in
    let within : i < length p = omega (arith, c.loop-place-test.true, length-map items plain_segment) in
    if_leaves_open p (drop i p) c.args.bound.now c.loop-place.rest.now c.open_at.result (plain_segment c.index-output-place.result) (drop (i + 1) p) c.is_last_at.result
    (left_at p i (plain_segment c.index-output-place.result) within (seen_at plain_segment items i c.index-output-place.result c.loop-place-test.true c.index-output-place.is))
    c.is_last_at.ensures c.loop-place.invariant.left c.open_at.ensures
