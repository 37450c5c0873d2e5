use Rattle.key_ranges.proofs.RangeSlotLemmas.{just_is_single}
use Rattle.key_ranges.proofs.range_laws.just_is_single.Goals as goal

pub returns : goal.returns
returns c = just_is_single
