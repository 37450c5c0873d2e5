use Rattle.std.proofs.Common.{◌≡◌, ◌&&◌, not, take}
use Rattle.range_evaluation.specs.Trees.{Need}
use Rattle.join_rows.specs.Order.{is_among}
use Rattle.join_rows.proofs.need_list.take_out.Given as goal

abbrev pub invariant-loop-need : goal.invariant-loop-need
invariant-loop-need l = (q : Need) → is_among l.set.keys q ≡ (is_among l.fn.set.keys q && not (is_among (take l.need-index l.needs) q))
