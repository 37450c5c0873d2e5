use Rattle.key_ranges.proofs.BindRangeLemmas.{bind_range_is_least}
use Rattle.key_ranges.proofs.containing_laws.bind_range_is_least.Goals as goal

pub returns : goal.returns
returns c = bind_range_is_least
