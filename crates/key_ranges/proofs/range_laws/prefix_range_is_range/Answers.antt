use Rattle.key_ranges.proofs.RangeLemmas.{prefix_range_is_range}
use Rattle.key_ranges.proofs.range_laws.prefix_range_is_range.Goals as goal

pub returns : goal.returns
returns c = prefix_range_is_range
