use Rattle.request_codec.specs.Plain.{plain_reply}
use Rattle.pequod_cache.specs.Questions.{asked}
use Rattle.pequod_cache.proofs.ToldLemmas.{told_replied, told_no_reply}
use Rattle.pequod_cache.proofs.client.Client.ask.Goals as goal

pub returns-in-Ok-clause-told : goal.returns-in-Ok-clause-told
returns-in-Ok-clause-told g c =
    told_replied c.args.self.now c.ask_counted.new.self (asked c.args.question c.args.range.now c.args.at) (plain_reply c.in-Ok.reply) c.in-Ok.ensures.replied c.in-Ok.ensures.goes_on c.in-Ok.ensures.own

pub returns-in-Err-clause-told : goal.returns-in-Err-clause-told
returns-in-Err-clause-told g c = told_no_reply c.args.self.now c.ask_counted.new.self (asked c.args.question c.args.range.now c.args.at) c.in-Err.ensures.goes_on c.in-Err.ensures.own
