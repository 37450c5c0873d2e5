use Rattle.growing_history.proofs.ListLemmas.{changes_turn}
use Rattle.growing_history.proofs.list_laws.changes_turn.Goals as goal

pub returns : goal.returns
returns c = changes_turn
