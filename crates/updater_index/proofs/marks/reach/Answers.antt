use Rattle.std.proofs.Common.{◌+◌, ◌≤◌, List, Bool, length, get_or, false, ap, arith}
use Rattle.updater_index.proofs.MarkLemmas.{tests_longer}
use Rattle.updater_index.proofs.marks.reach.Goals as goal

pub returns-in_err-resize-clause-same : goal.returns-in_err-resize-clause-same
returns-in_err-resize-clause-same c = λ q. ap (λ (tests : List Bool). get_or tests q false) c.in_err-resize.ensures.items

pub returns-clause-same : goal.returns-clause-same
returns-clause-same c =
    let tests = c.args.queued.now.items in
    let short : length tests ≤ c.args.id + 1 = omega (arith, c.len.ensures, c.if-len-count.false) in
    tests_longer tests c.resize.new.self.items (c.args.id + 1) _ short c.in_ok-resize.ensures.items
