use Rattle.std.proofs.Common.{List, length, ap, subst, arith}
use Rattle.std.proofs.lemmas.List.{take_all}
use Rattle.range_evaluation.specs.Trees.{Need}
use Rattle.join_rows.specs.Kept.{AreApart}
use Rattle.join_rows.proofs.need_list.NeedList.merge_behind.Goals as goal

pub append-requires-clause-apart : goal.append-requires-clause-apart
append-requires-clause-apart c =
    subst (λ (first : List Need). AreApart first c.args.other) (take_all c.args.first c.args.self (omega (arith, ap length c.self.view_is))) c.requires.apart
