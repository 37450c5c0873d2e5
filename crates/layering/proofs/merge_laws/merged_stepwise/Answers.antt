use Rattle.layering.proofs.StepLemmas.{merged_stepwise}
use Rattle.layering.proofs.merge_laws.merged_stepwise.Goals as goal

pub returns : goal.returns
returns c = merged_stepwise
