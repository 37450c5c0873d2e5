use Rattle.base_reader.proofs.RankLemmas.{rank_of_number}
use Rattle.base_reader.proofs.reaching.rank_of.Goals as goal

pub returns-clause-rank : goal.returns-clause-rank
returns-clause-rank c = rank_of_number c.args.joins.now.standing c.in_ok-i.i c.args.at c.rank.result c.in_ok-i.ensures.number c.rank.ensures.exact
