use Rattle.std.proofs.Common.{◌≤◌, IfOk, sym, subst}
use Rattle.write_history.specs.Marks.{reach}
use Rattle.write_history.specs.Passes.{PassView}
use Rattle.range_cells.specs.Asked.{TellsTouched}
use Rattle.range_cells.proofs.TurnLemmas.{reaches_to}
use Rattle.range_cells.proofs.ChangingLemmas.{reaches_later}
use Rattle.range_cells.proofs.range_cells.RangeCells.read_later.Goals as goal

pub stack-stack-requires-clause-pinned : goal.stack-stack-requires-clause-pinned
stack-stack-requires-clause-pinned g c = reaches_later c.args.pass.now c.args.q c.args.p c.requires.order c.requires.pinned

pub ask-found-requires-clause-above : goal.ask-found-requires-clause-above
ask-found-requires-clause-above g c = subst (λ (v : PassView). reach v.mark ≤ c.args.q) (sym c.stack-stack.ensures.pass) (reaches_to c.args.pass.now c.args.q c.requires.pinned)

pub returns-clause-touched : goal.returns-clause-touched
returns-clause-touched g c =
    subst (λ (v : PassView). IfOk c.ask-found.result (λ asked. TellsTouched v.view c.args.q c.args.p c.args.range.now asked.touched)) c.stack-stack.ensures.pass c.ask-found.ensures.touched
