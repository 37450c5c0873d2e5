use Rattle.range_evaluation.proofs.OnceLemmas.{needs_are_once}
use Rattle.range_evaluation.proofs.tree_laws.needs_are_once.Goals as goal

pub returns : goal.returns
returns c = needs_are_once
