use Rattle.std.proofs.Common.{arith}
use Rattle.join_rows.proofs.need_list.NeedList.merge.Goals as goal

pub merge_past-requires-clause-apart : goal.merge_past-requires-clause-apart
merge_past-requires-clause-apart c = λ need first more. absurd (omega (arith, first.1))
