use Rattle.semantics.specs.Answers.{get}
use Rattle.pequod_cache.proofs.ToldLemmas.{told_no_answer}
use Rattle.pequod_cache.proofs.client.Client.get.Goals as goal

pub returns-in-Err-clause-told : goal.returns-in-Err-clause-told
returns-in-Err-clause-told g c = told_no_answer c.args.self.now c.try_get.new.self (get c.args.key.now) c.in-Err.ensures.goes_on c.in-Err.ensures.own
