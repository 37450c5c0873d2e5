use Rattle.std.proofs.Common.{IfOk, sym, ap, ◌∙◌, subst}
use Rattle.semantics.specs.Histories.{History}
use Rattle.join_eval.specs.Answers.{TellsBetween}
use Rattle.scan_core.specs.Rights.{AreRight, Contents, contents_of}
use Rattle.scan_core.proofs.contents.CoreCells.between.Goals as goal

pub invariant_of-self : goal.invariant_of-self
invariant_of-self c = subst (λ (h : History). AreRight h c.self.inside.cells.holdings.slots) (sym c.lowest_between.ensures.moves.on) c.self.invariant

pub returns-clause-said : goal.returns-clause-said
returns-clause-said c = subst (λ (v : Contents). IfOk c.lowest_between.result (TellsBetween v.history c.args.q c.args.p c.args.range.now)) c.self.view_is c.lowest_between.ensures.said

pub returns-clause-same : goal.returns-clause-same
returns-clause-same c = ap (λ (h : History). contents_of h c.self.inside.cells) c.lowest_between.ensures.moves.on ∙ c.self.view_is
