use Rattle.std.proofs.Common.{◌≡◌, subst}
use Rattle.semantics.specs.Texts.{Text}
use Rattle.join_rows.specs.Found.{Parts}
use Rattle.join_rows.proofs.WithinLemmas.{span_within}
use Rattle.join_rows.proofs.leaf.Leaf.span.Goals as goal

pub returns-clause-rows : goal.returns-clause-rows
returns-clause-rows c =
    let low : c.lo.result.now ≡ c.args.range.now.low = cc in
    let high : c.hi.result.now ≡ c.args.range.now.high = cc in
    span_within c.args.range.now c.args.self.now c.count_below-from.result c.count_below-to.result
    (subst (λ (k : Text). Parts k c.args.self.now c.count_below-from.result) low c.count_below-from.ensures)
    (subst (λ (k : Text). Parts k c.args.self.now c.count_below-to.result) high c.count_below-to.ensures)
