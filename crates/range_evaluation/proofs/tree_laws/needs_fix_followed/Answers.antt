use Rattle.range_evaluation.proofs.NeedLemmas.{needs_fix_followed}
use Rattle.range_evaluation.proofs.tree_laws.needs_fix_followed.Goals as goal

pub returns : goal.returns
returns c = needs_fix_followed
