use Rattle.core_events.proofs.PlainLemmas.{one_more_answers_plainly}
use Rattle.core_events.proofs.plain_laws.one_more_answers_plainly.Goals as goal

pub returns : goal.returns
returns c = one_more_answers_plainly
