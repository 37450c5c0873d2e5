use Rattle.key_ranges.proofs.BindRangeLemmas.{bind_range_is_shared}
use Rattle.key_ranges.proofs.containing_laws.bind_range_is_shared.Goals as goal

pub returns : goal.returns
returns c = bind_range_is_shared
