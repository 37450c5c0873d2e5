use Rattle.std.proofs.Common.{◌+◌, ◌++◌, List, length, take, refl, ap, ◌∙◌, arith}
use Rattle.std.proofs.lemmas.List.{length-append, take_all}
use Rattle.semantics.specs.Texts.{Table, pairs_within}
use Rattle.join_rows.specs.Leaves.{all_rows}
use Rattle.join_types.proofs.SinkLemmas.{got_as}
use Rattle.join_rows.proofs.WithinLemmas.{within_leaf}
use Rattle.join_rows.proofs.packed.PackedRows.hand_within.Goals as goal

pub loop-leaf-init : goal.loop-leaf-init
loop-leaf-init g c = record { rows = g.met.K.RowSink.got_none c.args.sink.now; number = refl }

pub loop-leaf-preserved : goal.loop-leaf-preserved
loop-leaf-preserved g c =
    let range = c.args.range.now in
    let before : Table = pairs_within range (all_rows (take c.loop-leaf.leaf-index c.leaves_within-leaves.result.now)) in
    let leaf : Table = c.leaf-item.result in
    let more : Table = pairs_within range leaf in
    let all = within_leaf range c.leaves_within-leaves.result.now c.loop-leaf.leaf-index leaf before (before ++ more) c.loop-leaf-test.true c.leaf-item.is refl refl in
    let size = length-append before more in
    record {
      rows = got_as g.K.RowSink.got c.args.sink.now c.hand_span.new.sink (before ++ more) (pairs_within range (all_rows (take (c.loop-leaf.leaf-index + 1) c.leaves_within-leaves.result.now))) all
          (g.met.K.RowSink.got_more c.args.sink.now c.loop-leaf.sink c.hand_span.new.sink before more c.loop-leaf.invariant.rows c.in_ok-more.ensures.rows);
      number = let sum = ap length all in omega (arith, size, sum, c.loop-leaf.invariant.number, c.in_ok-more.ensures.number, c.in_ok-count.ensures);
    }

pub returns-clause-rows : goal.returns-clause-rows
returns-clause-rows g c =
    let leaves : List Table = c.leaves_within-leaves.result.now in
    got_as g.K.RowSink.got c.args.sink.now c.loop-leaf.sink (pairs_within c.args.range.now (all_rows (take c.loop-leaf.leaf-index leaves))) (pairs_within c.args.range.now c.args.self.now)
    (ap (λ (ls : List Table). pairs_within c.args.range.now (all_rows ls)) (take_all c.loop-leaf.leaf-index leaves (omega arith)) ∙ c.leaves_within-leaves.ensures) c.loop-leaf.invariant.rows

pub returns-clause-number : goal.returns-clause-number
returns-clause-number g c =
    let leaves : List Table = c.leaves_within-leaves.result.now in
    c.loop-leaf.invariant.number
    ∙ ap length (ap (λ (ls : List Table). pairs_within c.args.range.now (all_rows ls)) (take_all c.loop-leaf.leaf-index leaves (omega arith)) ∙ c.leaves_within-leaves.ensures)
