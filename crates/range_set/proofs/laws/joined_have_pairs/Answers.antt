use Rattle.range_set.proofs.JoinedLemmas.{joined_have_pairs}
use Rattle.range_set.proofs.laws.joined_have_pairs.Goals as goal

pub returns : goal.returns
returns c = joined_have_pairs
