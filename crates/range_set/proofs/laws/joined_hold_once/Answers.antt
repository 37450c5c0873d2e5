use Rattle.range_set.proofs.JoinedLemmas.{joined_hold_once}
use Rattle.range_set.proofs.laws.joined_hold_once.Goals as goal

pub returns : goal.returns
returns c = joined_hold_once
