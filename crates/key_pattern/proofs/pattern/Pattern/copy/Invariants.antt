use Rattle.std.proofs.Common.{◌≡◌, take}
use Rattle.key_pattern.specs.Plain.{plain_segments}
use Rattle.key_pattern.proofs.pattern.Pattern.copy.Given as goal

abbrev pub invariant-loop-segment : goal.invariant-loop-segment
invariant-loop-segment l = plain_segments l.segments.items ≡ take l.segment-index (plain_segments l.segment-items)
