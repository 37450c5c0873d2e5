use Rattle.std.proofs.Common.{None, refl, subst}
use Rattle.core_events.specs.PlainLaws.{LookAlike}
use Rattle.scan_core.proofs.LookLemmas.{freed_looks}
use Rattle.scan_core.specs.Worlds.{CoreWorld, without_scan}
use Rattle.scan_core.proofs.GoingLemmas.{going_put}
use Rattle.scan_core.proofs.StepLemmas.{world_of}
use Rattle.scan_core.proofs.world.World.abandon.Goals as goal

pub invariant_of-self : goal.invariant_of-self
invariant_of-self c = (going_put c.self.inside.core.history c.args.scan None c.self.inside.scans c.abandon.new.self c.self.invariant.0 c.abandon.ensures tt, c.self.invariant.1)

pub returns-clause-scans : goal.returns-clause-scans
returns-clause-scans c =
    subst (λ (v : CoreWorld). LookAlike (world_of c.self.inside.core.history c.abandon.new.self) (without_scan c.args.scan v.world)) c.self.view_is
    (record { histories = refl; scans = λ other. freed_looks c.args.scan c.self.inside.scans c.abandon.new.self other c.abandon.ensures })
