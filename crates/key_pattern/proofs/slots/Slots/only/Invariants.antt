use Rattle.std.proofs.Common.{◌≡◌, take, fold}
use Rattle.semantics.specs.Patterns.{no_slots}
use Rattle.key_ranges.specs.Containing.{with_slot}
use Rattle.key_pattern.specs.Plain.{plain_segments}
use Rattle.key_pattern.proofs.slots.Slots.only.Given as goal

abbrev pub invariant-loop-segment : goal.invariant-loop-segment
invariant-loop-segment l = l.kept ≡ fold (with_slot l.self) no_slots (take l.segment-index (plain_segments l.segment-items))
