use Rattle.std.proofs.Common.{◌-◌, ◌&&◌, not, length, drop, ◌∙◌, arith}
use Rattle.std.proofs.lemmas.List.{length-drop, take_all}
use Rattle.join_rows.specs.Order.{is_among}
use Rattle.join_rows.proofs.OrderLemmas.{without_first}
use Rattle.join_rows.proofs.need_list.fresh_among.Goals as goal

pub returns : goal.returns
returns c = λ q.
    let others = c.args.others.now in
    let first = c.args.first in
    let rest = take_all (length others - first) (drop first others) (omega (arith, length-drop first others)) in
    c.take_out.ensures q
    ∙ (λ j. c.in_ok-fresh.ensures q j && not (is_among (rest j) q))
    ∙ without_first c.args.needs.now others first q c.requires.apart
