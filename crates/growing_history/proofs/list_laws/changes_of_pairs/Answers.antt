use Rattle.growing_history.proofs.ListLemmas.{changes_of_pairs}
use Rattle.growing_history.proofs.list_laws.changes_of_pairs.Goals as goal

pub returns : goal.returns
returns c = changes_of_pairs
