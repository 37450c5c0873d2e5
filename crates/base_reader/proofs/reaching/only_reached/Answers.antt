use Rattle.base_reader.proofs.RankLemmas.{only_of_number}
use Rattle.base_reader.proofs.reaching.only_reached.Goals as goal

pub returns-clause-only : goal.returns-clause-only
returns-clause-only c =
    only_of_number c.args.joins.now.standing c.args.range.now c.in_ok-i.i c.at.result c.rank.result c.at.ensures c.rank.ensures.exact (c.reaches_beside-others.ensures c.if-others.false)
