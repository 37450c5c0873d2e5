use Rattle.key_ranges.proofs.RangeLemmas.{cut_is_common_part}
use Rattle.key_ranges.proofs.range_laws.cut_is_common_part.Goals as goal

pub returns : goal.returns
returns c = cut_is_common_part
