use Rattle.semantics.proofs.ChoiceLemmas.{matches_are_choices}
use Rattle.semantics.proofs.output_laws.matches_are_choices.Goals as goal

pub returns : goal.returns
returns c = matches_are_choices
