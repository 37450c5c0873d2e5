use Rattle.key_ranges.proofs.AnswerLemmas.{none_of_just_is_absent}
use Rattle.key_ranges.proofs.answer_laws.none_of_just_is_absent.Goals as goal

pub returns : goal.returns
returns c = none_of_just_is_absent
