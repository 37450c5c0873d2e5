use Rattle.std.proofs.Common.{◌≡◌, drop}
use Rattle.key_ranges.specs.Containing.{first_open}
use Rattle.key_pattern.specs.Plain.{plain_segments}
use Rattle.key_pattern.proofs.narrowing.first_open.Given as goal

abbrev pub invariant-loop-segment : goal.invariant-loop-segment
invariant-loop-segment l = first_open (drop l.segment-index (plain_segments l.segments)) l.slots ≡ first_open (plain_segments l.segments) l.slots
