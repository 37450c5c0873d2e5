use Rattle.protocol.specs.Requests.{write}
use Rattle.join_types.specs.Writes.{plain_write}
use Rattle.request_codec.specs.Plain.{plain_reply}
use Rattle.pequod_cache.proofs.ClientLemmas.{goes_on-trans}
use Rattle.pequod_cache.proofs.ToldLemmas.{told_then_others}
use Rattle.pequod_cache.proofs.client.Client.write.Goals as goal

pub returns-clause-told : goal.returns-clause-told
returns-clause-told g c =
    told_then_others c.args.self.now c.enter-reply.new.self c.settle_after.new.self (write (plain_write c.args.change)) (plain_reply c.enter-reply.result) c.enter-reply.ensures.goes_on c.settle_after.ensures.goes_on c.settle_after.ensures.own
    c.enter-reply.ensures.told

pub returns-clause-goes_on : goal.returns-clause-goes_on
returns-clause-goes_on g c = goes_on-trans c.args.self.now c.enter-reply.new.self c.settle_after.new.self c.enter-reply.ensures.goes_on c.settle_after.ensures.goes_on
