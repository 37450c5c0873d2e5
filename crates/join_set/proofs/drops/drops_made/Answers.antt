use Rattle.std.proofs.Common.{◌++◌, ◌+◌, drop, ap, sym, ◌∙◌, append_assoc}
use Rattle.join_set.specs.Sets.{drop_made, drops_made}
use Rattle.join_set.proofs.StayLemmas.{left_at}
use Rattle.join_set.proofs.drops.drops_made.Goals as goal

pub loop-stands-preserved : goal.loop-stands-preserved
loop-stands-preserved c =
    let position = c.args.position in
    let at = c.args.at in
    let left = drops_made position at (drop (c.loop-stands.stands-index + 1) c.args.joins.now) in
    ap (λ made. made ++ left) c.in_ok-add_drop.ensures
    ∙ append_assoc c.loop-stands.made.items (drop_made position at c.stands-item.result) left
    ∙ ap (λ joins. c.loop-stands.made.items ++ drops_made position at joins) (sym (left_at c.args.joins.now c.loop-stands.stands-index c.stands-item.result c.loop-stands-test.true c.stands-item.is))
    ∙ c.loop-stands.invariant
