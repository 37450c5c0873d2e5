use Rattle.std.proofs.Common.{◌+◌, ◌∙◌, sym, ap, arith}
use Rattle.updater_index.proofs.SharedLemmas.{shared_end}
use Rattle.updater_index.proofs.fork.shared_len.Goals as goal

pub returns-else-count-second-clause-number : goal.returns-else-count-second-clause-number
returns-else-count-second-clause-number c =
    let none = shared_end c.args.first.now c.args.second.now c.loop-count.count c.if-count-second.false in
    sym (c.loop-count.invariant.left ∙ ap (λ n. c.loop-count.count + n) none ∙ omega arith)
