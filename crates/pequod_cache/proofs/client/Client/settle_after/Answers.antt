use Rattle.std.proofs.Common.{subst}
use Rattle.write_history.specs.Passes.{PassView, GoesOn}
use Rattle.pequod_cache.proofs.ClientLemmas.{client_goes_on, free_goes_on, goes_nowhere}
use Rattle.pequod_cache.proofs.client.Client.settle_after.Goals as goal

pub invariant_of-self : goal.invariant_of-self
invariant_of-self g c =
    let old = c.self.inside.pass in
    client_goes_on g.N.Naming.history old c.settle.new.pass c.self.inside.joins c.self.invariant (free_goes_on old c.settle.new.pass c.self.invariant.seated.free c.self.invariant.seated.recorded c.settle.ensures)

pub returns-then-settles-clause-goes_on : goal.returns-then-settles-clause-goes_on
returns-then-settles-clause-goes_on g c =
    let old = c.self.inside.pass in
    subst (λ (p : PassView). GoesOn p c.settle.new.pass) c.self.view_is (free_goes_on old c.settle.new.pass c.self.invariant.seated.free c.self.invariant.seated.recorded c.settle.ensures)

pub returns-else-settles-clause-goes_on : goal.returns-else-settles-clause-goes_on
returns-else-settles-clause-goes_on g c =
    subst (λ (p : PassView). GoesOn p p) c.self.view_is (goes_nowhere g.N.Naming.history c.self.inside.pass c.self.inside.joins c.self.invariant.seated)
