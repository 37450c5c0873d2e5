use Rattle.std.proofs.Common.{◌≤◌, take, IfSome, sym, subst}
use Rattle.semantics.specs.Histories.{joins_of}
use Rattle.base_reader.specs.Reaching.{IsOnlyReached}
use Rattle.write_history.specs.Marks.{reach}
use Rattle.write_history.specs.Passes.{PassView}
use Rattle.range_cells.proofs.TurnLemmas.{reaches_to}
use Rattle.range_cells.proofs.range_cells.RangeCells.scan.Goals as goal

pub scan-found-requires-clause-above : goal.scan-found-requires-clause-above
scan-found-requires-clause-above g c = subst (λ (v : PassView). reach v.mark ≤ c.args.p) (sym c.stack-stack.ensures.pass) (reaches_to c.args.pass.now c.args.p c.requires.pinned)

pub scan-found-requires-clause-only : goal.scan-found-requires-clause-only
scan-found-requires-clause-only g c =
    subst (λ (v : PassView). IfSome c.only_reached-only.result (λ one. IsOnlyReached (joins_of (take c.args.p v.view)) c.args.range.now one.0 one.1)) (sym c.stack-stack.ensures.pass)
    (subst (λ joins. IfSome c.only_reached-only.result (λ one. IsOnlyReached joins c.args.range.now one.0 one.1)) c.requires.joins.standing c.only_reached-only.ensures.only)
