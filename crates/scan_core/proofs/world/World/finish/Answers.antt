use Rattle.std.proofs.Common.{None, sym, subst}
use Rattle.core_events.specs.Events as plain
use Rattle.scan_core.specs.Going.{AreGoing}
use Rattle.scan_core.specs.Worlds.{CoreWorld, StepsAs}
use Rattle.scan_core.proofs.GoingLemmas.{going_put}
use Rattle.scan_core.proofs.StepLemmas.{at_some, world_of, finish_nothing, finish_finished, ended_goes}
use Rattle.scan_core.proofs.world.World.finish.Goals as goal

pub invariant_of-self : goal.invariant_of-self
invariant_of-self c = (subst (AreGoing c.self.inside.core.history) (sym (c.finish.ensures.unchanged c.in_default.is)) c.self.invariant.0, c.self.invariant.1)

pub returns-in_default-clause-step : goal.returns-in_default-clause-step
returns-in_default-clause-step c =
    subst (λ (v : CoreWorld). StepsAs (plain.finish c.args.scan) v.world (world_of c.self.inside.core.history c.finish.new.self) plain.nothing) c.self.view_is
    (subst (λ t. StepsAs (plain.finish c.args.scan) (world_of c.self.inside.core.history c.self.inside.scans) (world_of c.self.inside.core.history t) plain.nothing) (sym (c.finish.ensures.unchanged c.in_default.is))
    (finish_nothing c.self.inside.core.history c.self.inside.scans c.args.scan (c.finish.ensures.none c.in_default.is)))

pub invariant_of-self-2 : goal.invariant_of-self-2
invariant_of-self-2 c = (going_put c.self.inside.core.history c.args.scan None c.self.inside.scans c.finish.new.self c.self.invariant.0 (at_some _ c.finish.result c.in-Some.ended c.in-Some.is c.finish.ensures.freed) tt, c.self.invariant.1)

pub returns-clause-step : goal.returns-clause-step
returns-clause-step c =
    subst (λ (v : CoreWorld). StepsAs (plain.finish c.args.scan) v.world (world_of c.self.inside.core.history c.finish.new.self) (plain.finished c.in-Some.ended.position c.in-Some.ended.pairs.items)) c.self.view_is
    (finish_finished c.self.inside.core.history c.self.inside.scans c.finish.new.self c.args.scan c.in-Some.ended.position c.in-Some.ended.pairs.items
    (ended_goes c.self.inside.core.history c.self.inside.scans c.args.scan c.in-Some.ended.position c.in-Some.ended.pairs.items c.self.invariant.0 (at_some _ c.finish.result c.in-Some.ended c.in-Some.is c.finish.ensures.ended))
    (at_some _ c.finish.result c.in-Some.ended c.in-Some.is c.finish.ensures.freed))
