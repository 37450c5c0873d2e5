use Rattle.std.proofs.Common.{◌≤◌, sym, subst}
use Rattle.write_history.specs.Marks.{reach}
use Rattle.write_history.specs.Passes.{PassView}
use Rattle.range_cells.proofs.TurnLemmas.{reaches_to}
use Rattle.range_cells.proofs.range_cells.RangeCells.read_asked.Goals as goal

pub read_asked-found-requires-clause-above : goal.read_asked-found-requires-clause-above
read_asked-found-requires-clause-above g c = subst (λ (v : PassView). reach v.mark ≤ c.args.p) (sym c.stack-stack.ensures.pass) (reaches_to c.args.pass.now c.args.p c.requires.pinned)
