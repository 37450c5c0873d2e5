use Rattle.std.proofs.Common.{◌≡◌, drop}
use Rattle.key_ranges.specs.Containing.{take_first, bind_range}
use denote.Shadow.{shadow}
use denote.Text.{Utf8}
use Rattle.key_pattern.specs.Plain.{plain_segments}
use Rattle.key_pattern.specs.Shared.{shared_behind, AscendBehind}
use Rattle.key_pattern.proofs.pattern.Pattern.bind_range.Given as goal

abbrev pub invariant-loop-segment : goal.invariant-loop-segment
invariant-loop-segment l = record {
  low_text : shadow (Utf8 l.low);
  ascend : AscendBehind l.low l.high;
  bound : take_first (drop l.segment-index (plain_segments l.segment-items)) (shared_behind l.low l.high) l.found
      ≡ bind_range (plain_segments l.segment-items) l.fn.range;
}
