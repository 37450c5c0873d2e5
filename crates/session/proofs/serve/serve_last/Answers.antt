-- The end of a link, with a line under way or without.
use Rattle.std.proofs.Common.{sym, subst}
use Rattle.std.specs.Io.KnownBytes.{IsAtEnd}
use Rattle.session.proofs.PieceLemmas.{is_empty_text, is_some_text, last_empty, last_served, last_ends}
use Rattle.session.proofs.serve.serve_last.Goals as goal

pub returns-then-is_empty-clause-served : goal.returns-then-is_empty-clause-served
returns-then-is_empty-clause-served g c =
    last_empty _ _ c.args.line.now _ _ c.requires.at_end (is_empty_text c.args.line.now c.is_empty.result c.is_empty.ensures c.if-is_empty.true)

pub returns-in-Ok-clause-served : goal.returns-in-Ok-clause-served
returns-in-Ok-clause-served g c =
    let served = c.in-Ok.ensures.served in
    last_served _ _ _ c.args.line.now _ _ _ served.0 c.requires.line (is_some_text c.args.line.now c.is_empty.result c.is_empty.ensures c.if-is_empty.false)
    (subst IsAtEnd (sym c.in-Ok.ensures.same_left) c.requires.at_end) served.1 served.2.0 served.2.1

pub returns-in-Err-clause-served : goal.returns-in-Err-clause-served
returns-in-Err-clause-served g c =
    let served = c.in-Err.ensures.served in
    last_ends (Unit {0}) c.in-Err.end _ _ _ c.args.line.now _ _ _ served.0 c.requires.line
    (is_some_text c.args.line.now c.is_empty.result c.is_empty.ensures c.if-is_empty.false) (subst IsAtEnd (sym c.in-Err.ensures.same_left) c.requires.at_end) served.1 served.2
