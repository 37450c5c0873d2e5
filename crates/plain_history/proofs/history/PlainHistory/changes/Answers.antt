use Rattle.std.proofs.Common.{◌≡◌, length, refl}
use Rattle.protocol.specs.Requests.{changes_since}
use Rattle.request_codec.proofs.ReachLemmas.{in_reach}
use Rattle.plain_history.proofs.history.PlainHistory.changes.Goals as goal

pub returns-in-Some : goal.returns-in-Some
returns-in-Some c = c.in-Some.ensures (changes_since c.args.range.now c.args.from) c.args.self.now refl refl

pub compare-requires : goal.compare-requires
compare-requires c = in_reach c.args.from (length c.args.self.now) c.out_of_reach.result c.out_of_reach.ensures c.in-None.is
