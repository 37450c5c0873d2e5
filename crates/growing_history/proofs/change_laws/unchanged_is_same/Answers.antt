use Rattle.growing_history.proofs.UnchangedLemmas.{unchanged_is_same}
use Rattle.growing_history.proofs.change_laws.unchanged_is_same.Goals as goal

pub returns : goal.returns
returns c = unchanged_is_same
