use Rattle.range_evaluation.proofs.AskedLemmas.{shared_give_out}
use Rattle.range_evaluation.proofs.tree_laws.shared_give_out.Goals as goal

pub returns : goal.returns
returns c = shared_give_out
