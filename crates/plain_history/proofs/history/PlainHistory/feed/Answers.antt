use Rattle.std.proofs.Common.{◌≡◌, length, refl}
use Rattle.protocol.specs.Requests.{feed_from}
use Rattle.request_codec.proofs.ReachLemmas.{in_reach}
use Rattle.plain_history.proofs.history.PlainHistory.feed.Goals as goal

pub returns-in-Some : goal.returns-in-Some
returns-in-Some c = c.in-Some.ensures (feed_from c.args.from) c.args.self.now refl refl

pub feed_within-requires : goal.feed_within-requires
feed_within-requires c = in_reach c.args.from (length c.args.self.now) c.out_of_reach.result c.out_of_reach.ensures c.in-None.is
