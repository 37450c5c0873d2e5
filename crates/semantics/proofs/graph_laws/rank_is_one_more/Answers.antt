use Rattle.semantics.proofs.GraphRanks.{rank_is_one_more_lem}
use Rattle.semantics.proofs.graph_laws.rank_is_one_more.Goals as goal

pub returns : goal.returns
returns c = rank_is_one_more_lem
