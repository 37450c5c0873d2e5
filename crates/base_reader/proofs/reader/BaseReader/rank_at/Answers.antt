use Rattle.std.proofs.Common.{List, subst}
use Rattle.semantics.specs.Histories.{DeclaredJoin}
use Rattle.cell_slots.specs.Slots.{IsRankIn}
use Rattle.base_reader.proofs.reader.BaseReader.rank_at.Goals as goal

pub returns-in-Some : goal.returns-in-Some
returns-in-Some c = subst (λ (joins : List DeclaredJoin). IsRankIn joins c.args.at c.rank_of.result) c.in-Some.ensures.standing c.rank_of.ensures.rank

pub returns : goal.returns
returns c = subst (λ (joins : List DeclaredJoin). IsRankIn joins c.args.at c.rank_of-2.result) c.in_ok-joins.ensures.standing c.rank_of-2.ensures.rank
