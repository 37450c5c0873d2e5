use Rattle.std.proofs.Common.{◌≡◌, drop}
use Rattle.key_ranges.specs.Containing.{open_after, shared_texts, low_rest, high_rest}
use denote.Shadow.{shadow}
use denote.Text.{Utf8}
use Rattle.key_pattern.specs.Plain.{plain_segments}
use Rattle.key_pattern.specs.Shared.{shared_behind, low_behind, high_behind, AscendBehind}
use Rattle.key_pattern.proofs.narrowing.rests_at.Given as goal

abbrev pub invariant-loop-segment : goal.invariant-loop-segment
invariant-loop-segment l = record {
  low_text : shadow (Utf8 l.low);
  ascend : AscendBehind l.low l.high;
  after : open_after (drop l.segment-index (plain_segments l.output)) (shared_behind l.low l.high) l.slots ≡ open_after (plain_segments l.output) (shared_texts l.fn.range) l.slots;
  low : low_behind l.low l.high ≡ low_rest l.fn.range;
  high : high_behind l.low l.high ≡ high_rest l.fn.range;
}
