use Rattle.key_ranges.proofs.RangeLemmas.{cut_is_open}
use Rattle.key_ranges.proofs.range_laws.cut_is_open.Goals as goal

pub returns : goal.returns
returns c = cut_is_open
