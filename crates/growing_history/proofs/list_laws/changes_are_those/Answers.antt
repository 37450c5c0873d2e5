use Rattle.growing_history.proofs.ListLemmas.{changes_are_those}
use Rattle.growing_history.proofs.list_laws.changes_are_those.Goals as goal

pub returns : goal.returns
returns c = changes_are_those
