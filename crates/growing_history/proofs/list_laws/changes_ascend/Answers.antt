use Rattle.growing_history.proofs.ListLemmas.{changes_ascend}
use Rattle.growing_history.proofs.list_laws.changes_ascend.Goals as goal

pub returns : goal.returns
returns c = changes_ascend
