use Rattle.std.proofs.Common.{◌≡◌, sym, ap, ◌∙◌, subst, arith}
use Rattle.std.proofs.lemmas.List.{take_all}
use Rattle.semantics.specs.Texts.{Text, Table}
use Rattle.semantics.specs.States.{merged}
use Rattle.join_rows.specs.Laid.{IsRow}
use Rattle.join_rows.specs.Found.{row_at}
use Rattle.join_rows.proofs.LaidLemmas.{row_own}
use Rattle.join_rows.proofs.MergeLemmas.{merged_row}
use Rattle.join_rows.proofs.packed.PackedRows.put_all.Goals as goal

pub put_row-requires : goal.put_row-requires
put_row-requires c =
    let key = sym c.key.ensures.key in
    let value = sym c.value.ensures in
    let same : row_at c.loop-place.place c.args.leaf.now ≡ (c.key.result.now, c.value.result.now) = (λ i. (key i, value i)) in
    subst (λ (r : Text × Text). IsRow r) same (row_own c.args.leaf.now c.loop-place.place c.key.ensures.rows (omega (arith, c.len-place-end.ensures.number)))

pub loop-place-preserved : goal.loop-place-preserved
loop-place-preserved c =
    merged_row c.args.self.now c.args.leaf.now c.loop-place.self c.put_row.new.self c.loop-place.place c.key.result.now c.value.result.now
    (omega (arith, c.len-place-end.ensures.number)) c.key.ensures.key c.value.ensures c.loop-place.invariant c.in_ok-put_row.ensures.ok

pub returns : goal.returns
returns c = c.loop-place.invariant ∙ ap (merged c.args.self.now) (take_all c.loop-place.place c.args.leaf.now (omega (arith, c.len-place-end.ensures.number)))
