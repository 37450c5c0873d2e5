use Rattle.key_ranges.proofs.AnswerLemmas.{first_of_just_is_found}
use Rattle.key_ranges.proofs.answer_laws.first_of_just_is_found.Goals as goal

pub returns : goal.returns
returns c = first_of_just_is_found
