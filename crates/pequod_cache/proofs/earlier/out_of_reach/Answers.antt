use Rattle.std.proofs.Common.{◌+◌, ◌≤◌, arith}
use Rattle.request_codec.proofs.ReachLemmas.{ahead_told, gone_told}
use Rattle.pequod_cache.proofs.earlier.out_of_reach.Goals as goal

pub returns-then-position-at : goal.returns-then-position-at
returns-then-position-at c = ahead_told c.args.at c.args.position (omega arith)

pub returns-then-position-at-gt-REACH : goal.returns-then-position-at-gt-REACH
returns-then-position-at-gt-REACH c = gone_told c.args.at c.args.position (omega arith)

pub returns : goal.returns
returns c =
    let near : c.args.position ≤ c.args.at + 65536 = omega arith in
    record { not_ahead = omega arith; not_gone = near }
