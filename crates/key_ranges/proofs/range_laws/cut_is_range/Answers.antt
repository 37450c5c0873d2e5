use Rattle.key_ranges.proofs.RangeLemmas.{cut_is_range}
use Rattle.key_ranges.proofs.range_laws.cut_is_range.Goals as goal

pub returns : goal.returns
returns c = cut_is_range
