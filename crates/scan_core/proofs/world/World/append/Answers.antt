use Rattle.std.proofs.Common.{sym, subst}
use Rattle.scan_core.specs.Going.{AreGoing}
use Rattle.scan_core.specs.Worlds.{NoneLent}
use Rattle.scan_core.proofs.GoingLemmas.{going_more}
use Rattle.scan_core.proofs.world.World.append.Goals as goal

pub invariant_of-self : goal.invariant_of-self
invariant_of-self c = (
  subst (λ h. AreGoing h c.self.inside.scans) (sym c.in_err-enter.ensures.err) c.self.invariant.0,
  subst NoneLent (sym c.in_err-enter.ensures.slots) c.self.invariant.1,
)

pub invariant_of-self-2 : goal.invariant_of-self-2
invariant_of-self-2 c = (
  going_more c.self.inside.core.history c.enter.new.self.history c.self.inside.scans (_, c.in_ok-enter.ensures.ok) c.self.invariant.0,
  subst NoneLent (sym c.in_ok-enter.ensures.slots) c.self.invariant.1,
)
