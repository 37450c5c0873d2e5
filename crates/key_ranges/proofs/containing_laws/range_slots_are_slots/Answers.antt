use Rattle.key_ranges.proofs.RangeSlotLemmas.{range_slots_are_slots}
use Rattle.key_ranges.proofs.containing_laws.range_slots_are_slots.Goals as goal

pub returns : goal.returns
returns c = range_slots_are_slots
