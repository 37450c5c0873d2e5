use Rattle.std.proofs.Common.{◌≡◌, ◌+◌, ◌-◌, ◌<◌, length, ◌∷◌, ◌++◌, [], take, drop, sym, ap, ◌∙◌, arith, length-drop, length-take}
use Rattle.semantics.specs.Texts.{Text, Table, pairs_within}
use Rattle.join_rows.specs.Found.{row_at}
use Rattle.join_types.proofs.SinkLemmas.{got_as}
use Rattle.join_rows.proofs.WithinLemmas.{span_more}
use Rattle.join_rows.proofs.packed.hand_span.Goals as goal

pub loop-place-init : goal.loop-place-init
loop-place-init g c =
    let leaf : Table = c.args.leaf.now in
    let from = c.span-span.result.from in
    let none : 0 ≡ from - from = omega arith in record {
      rows = got_as g.K.RowSink.got c.args.sink.now c.args.sink.now [] (take (from - from) (drop from leaf)) (ap (λ n. take n (drop from leaf)) none) (g.met.K.RowSink.got_none c.args.sink.now);
      order = omega arith;
      inside = omega arith;
    }

pub loop-place-preserved : goal.loop-place-preserved
loop-place-preserved g c =
    let leaf : Table = c.args.leaf.now in
    let from = c.span-span.result.from in
    let place = c.loop-place.place in
    let row : Text × Text = (c.key.result.now, c.value.result.now) in
    let is : row ≡ row_at place leaf = λ i. (c.key.ensures.key i, c.value.ensures i) in
    let within : place < length leaf = omega (arith, c.span-span.ensures.inside) in record {
      rows = got_as g.K.RowSink.got c.args.sink.now c.push.new.self (take (place - from) (drop from leaf) ++ row ∷ []) (take (place + 1 - from) (drop from leaf))
          (ap (λ (r : Text × Text). take (place - from) (drop from leaf) ++ r ∷ []) is ∙ sym (span_more leaf from place c.loop-place.invariant.order within))
          (g.met.K.RowSink.got_more c.args.sink.now c.loop-place.sink c.push.new.self (take (place - from) (drop from leaf)) (row ∷ []) c.loop-place.invariant.rows c.in_ok-push.ensures);
      order = omega arith;
      inside = omega arith;
    }

pub returns-clause-rows : goal.returns-clause-rows
returns-clause-rows g c =
    let leaf : Table = c.args.leaf.now in
    let from = c.span-span.result.from in
    let all : c.loop-place.place - from ≡ c.span-span.result.to - from = omega arith in
    got_as g.K.RowSink.got c.args.sink.now c.loop-place.sink (take (c.loop-place.place - from) (drop from leaf)) (pairs_within c.args.range.now leaf)
    (ap (λ n. take n (drop from leaf)) all ∙ c.span-span.ensures.rows) c.loop-place.invariant.rows

pub returns-clause-number : goal.returns-clause-number
returns-clause-number g c =
    let leaf : Table = c.args.leaf.now in
    let from = c.span-span.result.from in
    let to = c.span-span.result.to in
    let cut = length-take (to - from) (drop from leaf) in
    let rest = length-drop from leaf in
    let same = ap length c.span-span.ensures.rows in
    omega (arith, cut, rest, same, c.span-span.ensures.inside, c.saturating_sub.ensures)
