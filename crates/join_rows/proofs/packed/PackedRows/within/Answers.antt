use Rattle.std.proofs.Common.{◌≡◌, List, length, take, ap, ◌∙◌, arith}
use Rattle.std.proofs.lemmas.List.{take_all}
use Rattle.semantics.specs.Texts.{Table, pairs_within}
use Rattle.join_rows.specs.Leaves.{all_rows}
use Rattle.join_rows.proofs.WithinLemmas.{within_leaf}
use Rattle.join_rows.proofs.packed.PackedRows.within.Goals as goal

pub loop-leaf-preserved : goal.loop-leaf-preserved
loop-leaf-preserved c =
    within_leaf c.args.range.now c.leaves_within-leaves.result.now c.loop-leaf.leaf-index c.leaf-item.result c.loop-leaf.pairs.items c.copy_span.new.pairs.items
    c.loop-leaf-test.true c.leaf-item.is c.loop-leaf.invariant c.in_ok-copy_span.ensures

pub returns : goal.returns
returns c =
    let leaves : List Table = c.leaves_within-leaves.result.now in
    c.loop-leaf.invariant ∙ ap (λ (ls : List Table). pairs_within c.args.range.now (all_rows ls)) (take_all c.loop-leaf.leaf-index leaves (omega arith)) ∙ c.leaves_within-leaves.ensures
