use Rattle.std.proofs.Common.{◌∙◌, ap, sym}
use Rattle.join_set.specs.Sets.{Joins}
use Rattle.joins_file.specs.Declarations.{plain_refusal}
use Rattle.joins_file.proofs.RowLemmas.{check_text-joins, check_text-refused}
use Rattle.joins_file.proofs.reporting.report.Goals as goal

pub returns-in_ok-join_rows-in-Joins-clause-text : goal.returns-in_ok-join_rows-in-Joins-clause-text
returns-in_ok-join_rows-in-Joins-clause-text c =
    let declared = rw c.in-Joins.is at c.in_ok-standing.ensures in
    c.in_ok-join_rows-in-Joins.ensures
    ∙ sym (check_text-joins c.args.bytes.now declared.0 c.joins.result.now.standing declared.1 (ap (λ (j : Joins). j.standing) c.joins.ensures.joins ∙ declared.2.joins.standing))

pub returns-in_ok-refused_row-in-Refused-clause-text : goal.returns-in_ok-refused_row-in-Refused-clause-text
returns-in_ok-refused_row-in-Refused-clause-text c =
    let declared = rw c.in-Refused.is at c.in_ok-standing.ensures in
    c.in_ok-refused_row-in-Refused.ensures ∙ sym (check_text-refused c.args.bytes.now (plain_refusal c.in-Refused.line) declared)
