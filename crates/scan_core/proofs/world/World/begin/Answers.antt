use Rattle.std.proofs.Common.{Some, sym, ◌∙◌, subst}
use Rattle.core_events.specs.Events as plain
use Rattle.scan_core.specs.Progress.{begun}
use Rattle.scan_core.specs.Going.{AreGoing}
use Rattle.scan_core.specs.Worlds.{CoreWorld, StepsAs}
use Rattle.scan_core.proofs.GoingLemmas.{going_put, begun_goes}
use Rattle.scan_core.proofs.StepLemmas.{world_of, begin_nothing, begin_begun}
use Rattle.scan_core.proofs.world.World.begin.Goals as goal

pub returns-then-has-clause-step : goal.returns-then-has-clause-step
returns-then-has-clause-step c =
    subst (λ (v : CoreWorld). StepsAs (plain.begin c.args.scan c.args.range) v.world v.world plain.nothing) c.self.view_is
    (begin_nothing c.self.inside.core.history c.self.inside.scans c.args.scan c.args.range (sym c.has.ensures ∙ c.if-has.true))

pub invariant_of-self : goal.invariant_of-self
invariant_of-self c = (subst (AreGoing c.self.inside.core.history) (sym c.in_err-begin.ensures.err) c.self.invariant.0, c.self.invariant.1)

pub invariant_of-self-2 : goal.invariant_of-self-2
invariant_of-self-2 c = (
  going_put c.self.inside.core.history c.args.scan (Some (begun c.args.scan c.args.range c.length-position.result)) c.self.inside.scans c.begin.new.self c.self.invariant.0 c.in_ok-begin.ensures.ok
      (begun_goes c.self.inside.core.history c.args.scan c.length-position.result c.args.range c.length-position.ensures.length),
  c.self.invariant.1,
)

pub returns-clause-step : goal.returns-clause-step
returns-clause-step c =
    subst (λ (v : CoreWorld). StepsAs (plain.begin c.args.scan c.args.range) v.world (world_of c.self.inside.core.history c.begin.new.self) (plain.begun c.length-position.result)) c.self.view_is
    (begin_begun c.self.inside.core.history c.self.inside.scans c.begin.new.self c.args.scan c.length-position.result c.args.range (sym c.has.ensures ∙ c.if-has.false) c.length-position.ensures.length c.in_ok-begin.ensures.ok)
