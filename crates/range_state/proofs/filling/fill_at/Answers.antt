use Rattle.std.proofs.Common.{take}
use Rattle.std.proofs.lemmas.Result.{err_from_is_err_and}
use Rattle.semantics.specs.States.{below}
use Rattle.join_eval.specs.Bounds.{most_of}
use Rattle.range_state.proofs.HeldLemmas.{fills_whole}
use Rattle.range_state.proofs.filling.fill_at.Goals as goal

pub returns-in_err-filling-clause-wide : goal.returns-in_err-filling-clause-wide
returns-in_err-filling-clause-wide g c =
    let p = err_from_is_err_and c.from_residual.result c.from_residual.ensures.1 in
    rw (p.1, p.2) c.in_err-filling.ensures.wide

pub returns-clause-filled : goal.returns-clause-filled
returns-clause-filled g c =
    let s = c.args.subject.now in
    (fills_whole s (most_of c.args.bound) (below (take c.args.p (g.R.Reader.list c.args.reader.now)) s.rank) c.args.p c.in_ok-filling.filling c.into_held.result c.into_held.ensures c.in_ok-filling.ensures.filled).0

pub returns-clause-few : goal.returns-clause-few
returns-clause-few g c =
    let s = c.args.subject.now in
    (fills_whole s (most_of c.args.bound) (below (take c.args.p (g.R.Reader.list c.args.reader.now)) s.rank) c.args.p c.in_ok-filling.filling c.into_held.result c.into_held.ensures c.in_ok-filling.ensures.filled).1
