use Rattle.key_ranges.proofs.ContainingLemmas.{pattern_range_is_range}
use Rattle.key_ranges.proofs.containing_laws.pattern_range_is_range.Goals as goal

pub returns : goal.returns
returns c = pattern_range_is_range
