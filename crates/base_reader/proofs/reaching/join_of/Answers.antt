use Rattle.base_reader.proofs.RankLemmas.{join_of_number}
use Rattle.base_reader.proofs.reaching.join_of.Goals as goal

pub returns : goal.returns
returns c = join_of_number c.args.joins.now.standing c.in_ok-i.i c.args.at c.join.result.now c.in_ok-i.ensures.number c.join.ensures
