use Rattle.std.proofs.Common.{◌≡◌, map, take, IfOk, sym, ap, ◌∙◌, subst}
use Rattle.semantics.specs.Histories.{History, joins_of}
use Rattle.layering.specs.Reached.{reached}
use Rattle.scan_core.specs.Rights.{AreRight, Contents, contents_of}
use Rattle.scan_core.proofs.contents.CoreCells.reached.Goals as goal

pub invariant_of-self : goal.invariant_of-self
invariant_of-self c = subst (λ (h : History). AreRight h c.self.inside.cells.holdings.slots) (sym c.lowest_reached.ensures.moves.on) c.self.invariant

pub returns-clause-reached : goal.returns-clause-reached
returns-clause-reached c =
    subst (λ (v : Contents). IfOk c.lowest_reached.result (λ ats. ats.items ≡ map (λ s. s.position) (reached c.args.range.now c.args.rank (joins_of (take c.args.p v.history))))) c.self.view_is c.lowest_reached.ensures.reached

pub returns-clause-same : goal.returns-clause-same
returns-clause-same c = ap (λ (h : History). contents_of h c.self.inside.cells) c.lowest_reached.ensures.moves.on ∙ c.self.view_is
