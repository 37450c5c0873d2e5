use Rattle.eager_apply.proofs.RowLemmas.{sets_one_row}
use Rattle.eager_apply.proofs.laws.sets_one_row.Goals as goal

pub returns : goal.returns
returns c = sets_one_row
