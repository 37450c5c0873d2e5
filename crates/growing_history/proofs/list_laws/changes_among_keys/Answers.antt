use Rattle.growing_history.proofs.ListLemmas.{changes_among_keys}
use Rattle.growing_history.proofs.list_laws.changes_among_keys.Goals as goal

pub returns : goal.returns
returns c = changes_among_keys
