use Rattle.protocol.specs.Requests.{feed_from}
use Rattle.request_codec.specs.Plain.{plain_reply}
use Rattle.pequod_cache.proofs.ToldLemmas.{told_replied, told_no_reply}
use Rattle.pequod_cache.proofs.client.Client.feed.Goals as goal

pub returns-in-Ok-clause-told : goal.returns-in-Ok-clause-told
returns-in-Ok-clause-told g c =
    told_replied c.args.self.now c.look_and_feed.new.self (feed_from c.args.from) (plain_reply c.in-Ok.reply) c.in-Ok.ensures.replied c.in-Ok.ensures.goes_on c.in-Ok.ensures.own

pub returns-in-Err-clause-told : goal.returns-in-Err-clause-told
returns-in-Err-clause-told g c = told_no_reply c.args.self.now c.look_and_feed.new.self (feed_from c.args.from) c.in-Err.ensures.goes_on c.in-Err.ensures.own
