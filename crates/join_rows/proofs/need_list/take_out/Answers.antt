use Rattle.std.proofs.Common.{◌≡◌, ◌&&◌, ◌++◌, ◌+◌, List, [], ◌∷◌, not, take, ap, sym, ◌∙◌}
use Rattle.std.proofs.lemmas.List.{take_more}
use Rattle.range_evaluation.specs.Trees.{Need}
use Rattle.join_rows.specs.Order.{is_among}
use Rattle.join_rows.proofs.OrderLemmas.{lacks_more}
use Rattle.join_rows.proofs.need_list.take_out.Goals as goal

-- one need more is taken out
pub loop-need-preserved : goal.loop-need-preserved
loop-need-preserved c = λ q.
    let needs = c.args.needs.now in
    let i = c.loop-need.need-index in
    let need = c.need-item.result in
    let more : take (i + 1) needs ≡ take i needs ++ need ∷ [] = take_more needs i need c.loop-need-test.true ∙ ap (λ (x : Need). take i needs ++ x ∷ []) (sym c.need-item.is) in
    lacks_more c.args.set.now.keys c.loop-need.set.keys c.remove.new.self.keys (take i needs) need q (c.remove.ensures.updates.0 q) (c.loop-need.invariant q)
    ∙ ap (λ (done : List Need). is_among c.args.set.now.keys q && not (is_among done q)) (sym more)
