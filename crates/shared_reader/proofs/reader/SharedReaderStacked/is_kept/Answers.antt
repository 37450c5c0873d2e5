use Rattle.std.proofs.Common.{refl}
use Rattle.base_reader.proofs.RankLemmas.{join_declared}
use Rattle.shared_reader.proofs.GivenLemmas.{given_joins}
use Rattle.shared_reader.proofs.LentLemmas.{same_pass}
use Rattle.shared_reader.proofs.reader.SharedReaderStacked.is_kept.Goals as goal

pub returns-in-Some : goal.returns-in-Some
returns-in-Some g c = λ kept.
    let are = given_joins g.N.Naming.history c.self.inside.history.now c.self.inside.joins.now c.self.inside.p c.self.inside.p c.self.inside.pass.now c.args.self.now.pass c.self.invariant.0 (same_pass _ _ c.self.view_is) refl in
    record {
      join = c.in-Some.join.now;
      declared = join_declared c.args.self.now.pass.view c.self.inside.p c.args.at c.self.inside.joins.now c.in-Some.join.now are c.in-Some.ensures;
      pushed = c.is_pushed.ensures kept;
    }
