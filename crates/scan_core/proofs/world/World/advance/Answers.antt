use Rattle.std.proofs.Common.{◌≡◌, ◌-◌, ◌≤◌, take, Some, sym, subst, arith}
use Rattle.growing_history.specs.Entered.{HasEntered}
use Rattle.growing_history.proofs.EnteredLemmas.{has_entered_taken}
use Rattle.core_events.specs.Events as plain
use Rattle.scan_core.specs.Going.{AreGoing}
use Rattle.scan_core.specs.Worlds.{CoreWorld, IsRankTo, StepSpends}
use Rattle.scan_core.proofs.ReaderLemmas.{rank_small}
use Rattle.scan_core.proofs.RightLemmas.{one_rank}
use Rattle.scan_core.proofs.world.World.advance.Goals as goal

pub advance_cell-requires-clause-small : goal.advance_cell-requires-clause-small
advance_cell-requires-clause-small g c =
    let r = subst (IsRankTo c.args.self.now c.args.cell c.args.to) c.in-Some.is c.in_ok-rank.ensures in
    rank_small c.args.self.now.world.history c.args.to r.0.kept.join c.in-Some.rank (subst (λ (v : CoreWorld). HasEntered v.world.history) c.self.view_is c.look.ensures.entered) (r.1 r.0.at r.0.kept r.0.held)

pub invariant_of-self : goal.invariant_of-self
invariant_of-self g c = (subst (λ h. AreGoing h c.self.inside.scans) (sym c.advance_cell.ensures.history) c.self.invariant.0, c.advance_cell.ensures.unlent c.self.invariant.1)

pub invariant_of-self-2 : goal.invariant_of-self-2
invariant_of-self-2 g c = (subst (λ h. AreGoing h c.self.inside.scans) (sym c.advance_cell.ensures.history) c.self.invariant.0, c.advance_cell.ensures.unlent c.self.invariant.1)

pub returns-in_default-clause-spends : goal.returns-in_default-clause-spends
returns-in_default-clause-spends g c = λ at q s held has stands less within bare. omega arith

pub returns-clause-spends : goal.returns-clause-spends
returns-clause-spends g c =
    let h = c.self.inside.core.history in
    let r = subst (λ (v : CoreWorld). IsRankTo v c.args.cell c.args.to (Some c.in-Some.rank)) (sym c.self.view_is) (subst (IsRankTo c.args.self.now c.args.cell c.args.to) c.in-Some.is c.in_ok-rank.ensures) in
    subst (λ (v : CoreWorld). StepSpends (plain.advance c.args.cell c.args.to) v v (c.advance_cell.new.steps - c.args.steps.now)) c.self.view_is
    (λ at q s held has stands less within bare.
    let ranked : s.rank ≡ c.in-Some.rank = one_rank (take c.args.to h) s.join s.rank c.in-Some.rank (has_entered_taken c.args.to h c.look.ensures.entered) has (r.1 at s held) in
    let cost = c.in_ok-advance_cell.ensures.cost at q s held ranked stands less bare in
    omega (arith, cost))
