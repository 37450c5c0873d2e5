use Rattle.join_eval.proofs.MovesLemmas.{moves_refl}
use Rattle.base_reader.proofs.lowest.lowest_between.Goals as goal

pub returns-in-Some-clause-said : goal.returns-in-Some-clause-said
returns-in-Some-clause-said g c = c.between.ensures (g.S.BaseSource.list c.args.source.now) c.args.p (g.S.BaseSource.floor c.args.source.now) c.requires.above c.requires.order c.requires.within c.in-Some.ensures

pub returns-in-Some-clause-moves : goal.returns-in-Some-clause-moves
returns-in-Some-clause-moves g c = moves_refl g.S.BaseSource.list g.S.BaseSource.floor g.S.BaseSource.went c.args.source.now (g.met.S.BaseSource.went_refl c.args.source.now)

pub returns-clause-said : goal.returns-clause-said
returns-clause-said g c = c.between-2.ensures (g.S.BaseSource.list c.args.source.now) c.args.p (g.S.BaseSource.floor c.args.source.now) c.requires.above c.requires.order c.requires.within c.in_ok-joins.ensures.joins
