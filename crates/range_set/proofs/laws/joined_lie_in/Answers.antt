use Rattle.range_set.proofs.JoinedLemmas.{joined_lie_in}
use Rattle.range_set.proofs.laws.joined_lie_in.Goals as goal

pub returns : goal.returns
returns c = joined_lie_in
