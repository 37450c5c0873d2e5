use Rattle.key_ranges.proofs.RangeLemmas.{just_is_range}
use Rattle.key_ranges.proofs.range_laws.just_is_range.Goals as goal

pub returns : goal.returns
returns c = just_is_range
