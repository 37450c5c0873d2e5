use Rattle.std.proofs.Common.{◌≡◌, ◌+◌, ◌≤◌, length, Some, subst, arith}
use Rattle.request_codec.specs.Reach.{TellsReach}
use Rattle.request_codec.specs.declared.reply.Reply.TheVariants.{Ahead, Gone}
use Rattle.request_codec.proofs.ReachLemmas.{ahead_told, gone_told}
use Rattle.plain_history.proofs.history.PlainHistory.out_of_reach.Goals as goal

pub returns-then-position-at : goal.returns-then-position-at
returns-then-position-at c =
    let position = c.len-position.result in
    subst (λ n. TellsReach c.args.at n (Some (Ahead position))) c.len-position.ensures.length (ahead_told c.args.at position (omega arith))

pub returns-then-position-at-gt-REACH : goal.returns-then-position-at-gt-REACH
returns-then-position-at-gt-REACH c =
    let position = c.len-position.result in
    subst (λ n. TellsReach c.args.at n (Some (Gone position))) c.len-position.ensures.length (gone_told c.args.at position (omega arith))

pub returns : goal.returns
returns c =
    let count = c.len-position.ensures.length in
    let near : length c.args.self.now ≤ c.args.at + 65536 = omega (arith, count) in
    record { not_ahead = omega (arith, count); not_gone = near }
