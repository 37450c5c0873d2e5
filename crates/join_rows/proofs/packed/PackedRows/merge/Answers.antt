use Rattle.std.proofs.Common.{◌≡◌, List, [], length, sym, ap, ◌∙◌, arith}
use Rattle.std.proofs.lemmas.List.{take_all, nil_from_length}
use Rattle.semantics.specs.Texts.{Table}
use Rattle.semantics.specs.States.{merged}
use Rattle.join_rows.specs.Leaves.{all_rows}
use Rattle.join_rows.proofs.MergeLemmas.{merged_nothing, merged_leaf}
use Rattle.join_rows.proofs.packed.PackedRows.merge.Goals as goal

pub returns-then-more-eq0 : goal.returns-then-more-eq0
returns-then-more-eq0 c = sym (ap (merged c.args.self) (nil_from_length c.args.other (omega arith)))

pub returns-then-own-eq0 : goal.returns-then-own-eq0
returns-then-own-eq0 c =
    sym (ap (λ (t : Table). merged t c.args.other) (nil_from_length c.args.self (omega arith)) ∙ merged_nothing c.args.other c.len-more.ensures.ascending)

pub loop-leaf-preserved : goal.loop-leaf-preserved
loop-leaf-preserved c =
    merged_leaf c.args.self c.loop-leaf.rows c.put_all.new.self c.deref-leaf-items.result.now c.loop-leaf.leaf-index c.leaf-item.result
    c.loop-leaf-test.true c.leaf-item.is c.loop-leaf.invariant c.in_ok-put_all.ensures

pub returns : goal.returns
returns c =
    c.loop-leaf.invariant ∙ ap (λ (ls : List Table). merged c.args.self (all_rows ls)) (take_all c.loop-leaf.leaf-index c.deref-leaf-items.result.now (omega arith))
    ∙ ap (λ (ls : List Table). merged c.args.self (all_rows ls)) c.deref-leaf-items.ensures.value ∙ ap (merged c.args.self) c.other.view_is
