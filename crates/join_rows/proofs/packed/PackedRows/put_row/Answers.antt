use Rattle.std.proofs.Common.{ap, ◌∙◌}
use Rattle.semantics.specs.Texts.{with_pair}
use Rattle.join_rows.proofs.ResultLemmas.{on_err_by}
use Rattle.join_rows.proofs.packed.PackedRows.put_row.Goals as goal

pub returns-in_err-count-clause-err : goal.returns-in_err-count-clause-err
returns-in_err-count-clause-err c = on_err_by c.from_residual.result _ (c.in_err-count.ensures.err ∙ c.self.view_is)

pub returns-clause-ok : goal.returns-clause-ok
returns-clause-ok c = c.in_ok-count.ensures.ok ∙ ap (with_pair c.args.key.now c.args.value.now) c.self.view_is
