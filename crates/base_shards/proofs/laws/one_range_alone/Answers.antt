use Rattle.base_shards.proofs.ChangedLemmas.{one_range_alone}
use Rattle.base_shards.proofs.laws.one_range_alone.Goals as goal

pub returns : goal.returns
returns c = one_range_alone
