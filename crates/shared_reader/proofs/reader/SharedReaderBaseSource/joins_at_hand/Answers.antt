use Rattle.shared_reader.proofs.GivenLemmas.{given_joins}
use Rattle.shared_reader.proofs.LentLemmas.{same_pass}
use Rattle.shared_reader.proofs.reader.SharedReaderBaseSource.joins_at_hand.Goals as goal

pub returns-then-p-self : goal.returns-then-p-self
returns-then-p-self g c = given_joins g.N.Naming.history c.self.inside.history.now c.self.inside.joins.now c.self.inside.p c.args.p c.self.inside.pass.now c.args.self.now.pass c.self.invariant.0 (same_pass _ _ c.self.view_is) c.if-p-self.true
