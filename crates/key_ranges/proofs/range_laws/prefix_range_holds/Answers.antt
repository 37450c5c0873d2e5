use Rattle.key_ranges.proofs.PrefixLemmas.{within-prefix_range}
use Rattle.key_ranges.proofs.range_laws.prefix_range_holds.Goals as goal

pub returns : goal.returns
returns c = within-prefix_range
