use Rattle.std.proofs.Common.{◌++◌, ◌∙◌, ap, arith, sym}
use Rattle.joins_file.proofs.RowLemmas.{join_rows_more, join_rows_all}
use Rattle.joins_file.proofs.rows.join_rows.Goals as goal

pub loop-number-preserved : goal.loop-number-preserved
loop-number-preserved c =
    c.in_ok-push_row.ensures ∙ ap (λ t. c.loop-number.rows.items ++ t) c.as_slice.ensures.value ∙ ap (λ t. t ++ c.in_ok-row.row.items) c.loop-number.invariant
    ∙ sym (join_rows_more c.args.joins.now.standing c.loop-number.number c.in_ok-row.row.items (omega (arith, c.len-number-end.ensures.len)) c.in_ok-row.ensures)

pub returns : goal.returns
returns c = c.loop-number.invariant ∙ join_rows_all c.args.joins.now.standing c.loop-number.number (omega (arith, c.len-number-end.ensures.len))
