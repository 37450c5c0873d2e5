use Rattle.std.proofs.Common.{◌≡◌, ◌+◌, cond, length, sym, ap, ◌∙◌, arith}
use Rattle.semantics.specs.Texts.{Table}
use Rattle.join_rows.specs.Leaves.{all_rows}
use Rattle.join_rows.proofs.ResultLemmas.{on_err_by}
use Rattle.join_rows.proofs.leaves.put_counted.Goals as goal

pub returns-in_err-fresh-clause-unchanged : goal.returns-in_err-fresh-clause-unchanged
returns-in_err-fresh-clause-unchanged c =
    on_err_by c.from_residual.result _ (record { leaves = c.put_in.ensures.are; number = c.requires.counted.number ∙ sym (ap (λ (t : Table). length t) c.in_err-fresh.ensures.err) })

pub returns-then-fresh-clause-counted : goal.returns-then-fresh-clause-counted
returns-then-fresh-clause-counted c =
    let one = c.in_ok-fresh.ensures.fresh ∙ ap (λ b. length (all_rows c.args.leaves.now.items) + cond b 1 0) c.if-fresh.true in record { leaves = c.put_in.ensures.are; number = omega (arith, one, c.requires.counted.number) }

pub returns-else-fresh-clause-counted : goal.returns-else-fresh-clause-counted
returns-else-fresh-clause-counted c =
    let none = c.in_ok-fresh.ensures.fresh ∙ ap (λ b. length (all_rows c.args.leaves.now.items) + cond b 1 0) c.if-fresh.false in record { leaves = c.put_in.ensures.are; number = omega (arith, none, c.requires.counted.number) }
