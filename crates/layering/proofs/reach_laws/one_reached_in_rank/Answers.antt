use Rattle.layering.proofs.AloneLemmas.{one_reached_in_rank}
use Rattle.layering.proofs.reach_laws.one_reached_in_rank.Goals as goal

pub returns : goal.returns
returns c = one_reached_in_rank
