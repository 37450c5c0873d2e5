use Rattle.std.proofs.Common.{◌≡◌, ◌<◌, suc, List, [], ◌++◌, length, take, drop, get_or, sym, ap, ◌∙◌, arith}
use Rattle.semantics.specs.Texts.{Table}
use Rattle.join_rows.proofs.LeafLemmas.{by_none, by_some}
use Rattle.join_rows.proofs.leaves.drop_empty.Goals as goal

pub returns-then-rows-eq0 : goal.returns-then-rows-eq0
returns-then-rows-eq0 c =
    let leaves = c.args.leaves.now.items in
    let same = ap (λ (t : Table). length t) (c.leaf_in.ensures ∙ ap (λ (ls : List Table). get_or ls c.args.place []) c.as_slice.ensures.value) in
    c.remove.ensures.items ∙ sym (by_none (get_or leaves c.args.place []) (take c.args.place leaves ++ drop (suc c.args.place) leaves) leaves (omega (arith, same, c.len-rows.ensures.number, c.if-rows-eq0.true)))

pub returns-else-rows-eq0 : goal.returns-else-rows-eq0
returns-else-rows-eq0 c =
    let leaves = c.args.leaves.now.items in
    let same = ap (λ (t : Table). length t) (c.leaf_in.ensures ∙ ap (λ (ls : List Table). get_or ls c.args.place []) c.as_slice.ensures.value) in
    sym (by_some (get_or leaves c.args.place []) (take c.args.place leaves ++ drop (suc c.args.place) leaves) leaves (omega (arith, same, c.len-rows.ensures.number, c.if-rows-eq0.false)))
