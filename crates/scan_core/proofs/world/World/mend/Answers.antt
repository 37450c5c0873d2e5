use Rattle.std.proofs.Common.{◌-◌, sym, subst, arith}
use Rattle.core_events.specs.Events as plain
use Rattle.scan_core.specs.Going.{AreGoing}
use Rattle.scan_core.specs.Worlds.{CoreWorld, StepSpends}
use Rattle.scan_core.proofs.world.World.mend.Goals as goal

pub invariant_of-self : goal.invariant_of-self
invariant_of-self g c = (subst (λ h. AreGoing h c.self.inside.scans) (sym c.mend_cell.ensures.history) c.self.invariant.0, c.mend_cell.ensures.unlent c.self.invariant.1)

pub invariant_of-self-2 : goal.invariant_of-self-2
invariant_of-self-2 g c = (subst (λ h. AreGoing h c.self.inside.scans) (sym c.mend_cell.ensures.history) c.self.invariant.0, c.mend_cell.ensures.unlent c.self.invariant.1)

pub returns-in_default-clause-spends : goal.returns-in_default-clause-spends
returns-in_default-clause-spends g c = λ at q s held stands bare. omega arith

pub returns-clause-spends : goal.returns-clause-spends
returns-clause-spends g c =
    subst (λ (v : CoreWorld). StepSpends (plain.mend c.args.cell c.args.range.now) v v (c.mend_cell.new.steps - c.args.steps.now)) c.self.view_is
    (λ at q s held stands bare. let cost = c.in_ok-mend_cell.ensures.cost at q s held stands bare in omega (arith, cost))
