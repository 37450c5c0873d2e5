use Rattle.range_evaluation.proofs.NeedLemmas.{needs_fix_tree}
use Rattle.range_evaluation.proofs.tree_laws.needs_fix_tree.Goals as goal

pub returns : goal.returns
returns c = needs_fix_tree
