use Rattle.std.proofs.Common.{◌≡◌, ◌+◌, drop, List, subst, arith}
use Rattle.semantics.specs.Texts.{Text, Table}
use Rattle.join_rows.specs.Found.{AllAbove}
use Rattle.join_rows.specs.Leaves.{all_rows}
use Rattle.join_rows.proofs.WithinLemmas.{rest_leaves, above_span}
use Rattle.join_rows.proofs.packed.span_of.Goals as goal

pub leaf_of-last-requires-clause-are : goal.leaf_of-last-requires-clause-are
leaf_of-last-requires-clause-are c = rest_leaves c.args.leaves.now c.leaf_of-from.result c.requires

pub returns-clause-above : goal.returns-clause-above
returns-clause-above c =
    let to = c.leaf_of-from.result + c.leaf_of-last.result + 1 in
    let high : c.hi.result.now ≡ c.args.range.now.high = cc in
    subst (λ (k : Text). AllAbove k (all_rows (drop to c.args.leaves.now))) high
    (above_span c.hi.result.now c.args.leaves.now c.leaf_of-from.result c.leaf_of-last.result to (omega arith) c.leaf_of-last.ensures)
