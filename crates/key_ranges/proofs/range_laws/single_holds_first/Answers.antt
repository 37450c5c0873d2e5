use Rattle.key_ranges.proofs.RangeSlotLemmas.{single_holds_first}
use Rattle.key_ranges.proofs.range_laws.single_holds_first.Goals as goal

pub returns : goal.returns
returns c = single_holds_first
