use Rattle.std.proofs.Common.{◌≡◌, sym, subst}
use Rattle.semantics.specs.Texts.{Text}
use Rattle.join_rows.specs.Laid.{IsRow}
use Rattle.join_rows.specs.Found.{row_at}
use Rattle.join_rows.proofs.LaidLemmas.{row_own}
use Rattle.join_rows.proofs.leaf.Leaf.pair.Goals as goal

pub pair_of-requires : goal.pair_of-requires
pair_of-requires c =
    let key = sym c.key.ensures.key in
    let value = sym c.value.ensures in
    let same : row_at c.args.place c.args.self.now ≡ (c.key.result.now, c.value.result.now) = (λ i. (key i, value i)) in
    subst (λ (r : Text × Text). IsRow r) same (row_own c.args.self.now c.args.place c.key.ensures.rows c.requires)
