use Rattle.updater_index.proofs.IndexLemmas.{grown_back}
use Rattle.updater_index.proofs.registered.Registered.register.Goals as goal

pub returns-in-Err-clause-err : goal.returns-in-Err-clause-err
returns-in-Err-clause-err c = grown_back c.args.self.now c.add_all.new.self c.shorten.new.self c.args.id c.count-before.result c.in-Err.ensures.err c.count-before.ensures c.shorten.ensures
