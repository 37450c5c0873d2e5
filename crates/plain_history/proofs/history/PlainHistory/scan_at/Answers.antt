use Rattle.std.proofs.Common.{◌≡◌, length, None, refl}
use Rattle.protocol.specs.Requests.{scan_at}
use Rattle.protocol.proofs.EarlierLemmas.{scan_at_told}
use Rattle.request_codec.proofs.ReachLemmas.{in_reach}
use Rattle.plain_history.proofs.history.PlainHistory.scan_at.Goals as goal

pub returns-in-Some : goal.returns-in-Some
returns-in-Some c = c.in-Some.ensures (scan_at c.args.range.now c.args.at) c.args.self.now refl refl

pub pairs_at-requires : goal.pairs_at-requires
pairs_at-requires c =
    let none : c.out_of_reach.result ≡ None = cc in
    (in_reach c.args.at (length c.args.self.now) c.out_of_reach.result c.out_of_reach.ensures none).not_ahead

pub returns : goal.returns
returns c =
    let none : c.out_of_reach.result ≡ None = cc in
    let near = in_reach c.args.at (length c.args.self.now) c.out_of_reach.result c.out_of_reach.ensures none in
    scan_at_told c.args.range.now c.args.at c.args.self.now c.in_ok-pairs.pairs.items near c.in_ok-pairs.ensures
