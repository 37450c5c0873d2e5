use Rattle.std.proofs.Common.{List}
use Rattle.std.specs.Vec.Iter.{into_iter_items}
use Rattle.range_evaluation.specs.Trees.{Need}
use Rattle.join_rows.specs.Kept.{AddsEach}
use Rattle.join_rows.proofs.need_list.NeedList.merge_one_by_one.Given as goal

abbrev pub invariant-loop-need : goal.invariant-loop-need
invariant-loop-need l = (new : List Need) → AddsEach (into_iter_items l.need-iterator) l.list new → AddsEach l.fn.other l.fn.self new
