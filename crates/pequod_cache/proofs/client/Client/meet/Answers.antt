use Rattle.pequod_cache.proofs.ClientLemmas.{client_goes_on}
use Rattle.pequod_cache.proofs.client.Client.meet.Goals as goal

pub invariant_of-self : goal.invariant_of-self
invariant_of-self g c = client_goes_on g.N.Naming.history c.self.inside.pass c.meet.new.a c.self.inside.joins c.self.invariant c.meet.ensures.first

pub invariant_of-other : goal.invariant_of-other
invariant_of-other g c = client_goes_on g.N.Naming.history c.other.inside.pass c.meet.new.b c.other.inside.joins c.other.invariant c.meet.ensures.second
