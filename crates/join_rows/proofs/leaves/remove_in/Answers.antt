use Rattle.std.proofs.Common.{◌≡◌, ◌<◌, List, length, subst, arith}
use Rattle.semantics.specs.Texts.{Table}
use Rattle.join_rows.specs.Leaves.{IsLeafOf}
use Rattle.join_rows.proofs.LeafLemmas.{removed_left, left_length}
use Rattle.join_rows.proofs.leaves.remove_in.Goals as goal

pub drop_empty-requires : goal.drop_empty-requires
drop_empty-requires c = omega (arith, c.leaf_of-place.ensures.inside, c.as_slice.ensures.len)

pub returns-clause-are : goal.returns-clause-are
returns-clause-are c =
    let leaves = c.args.leaves.now.items in
    let of = subst (λ (ls : List Table). IsLeafOf c.args.key.now ls c.leaf_of-place.result) c.as_slice.ensures.value c.leaf_of-place.ensures in
    (removed_left c.args.key.now leaves c.drop_empty.new.leaves.items c.leaf_of-place.result c.index_mut.result.now c.remove-gone.new.self c.requires.are of c.index_mut.ensures.value c.remove-gone.ensures.rows c.drop_empty.ensures).are

pub returns-clause-rows : goal.returns-clause-rows
returns-clause-rows c =
    let leaves = c.args.leaves.now.items in
    let of = subst (λ (ls : List Table). IsLeafOf c.args.key.now ls c.leaf_of-place.result) c.as_slice.ensures.value c.leaf_of-place.ensures in
    (removed_left c.args.key.now leaves c.drop_empty.new.leaves.items c.leaf_of-place.result c.index_mut.result.now c.remove-gone.new.self c.requires.are of c.index_mut.ensures.value c.remove-gone.ensures.rows c.drop_empty.ensures).is

pub returns-clause-gone : goal.returns-clause-gone
returns-clause-gone c =
    let leaves = c.args.leaves.now.items in
    let of = subst (λ (ls : List Table). IsLeafOf c.args.key.now ls c.leaf_of-place.result) c.as_slice.ensures.value c.leaf_of-place.ensures in
    let sum = left_length leaves c.drop_empty.new.leaves.items c.leaf_of-place.result c.index_mut.result.now of.inside c.remove-gone.new.self c.index_mut.ensures.value c.drop_empty.ensures in
    omega (arith, sum, c.remove-gone.ensures.gone)
