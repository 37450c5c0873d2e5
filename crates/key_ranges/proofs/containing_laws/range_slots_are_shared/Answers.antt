use Rattle.key_ranges.proofs.RangeSlotLemmas.{range_slots_are_shared}
use Rattle.key_ranges.proofs.containing_laws.range_slots_are_shared.Goals as goal

pub returns : goal.returns
returns c = range_slots_are_shared
