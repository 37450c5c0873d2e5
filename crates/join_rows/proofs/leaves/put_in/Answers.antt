use Rattle.std.proofs.Common.{◌≡◌, ◌<◌, List, length, set, get_or, sym, ap, ◌∙◌, subst, arith}
use Rattle.std.proofs.lemmas.List.{length-set, set-get_or}
use Rattle.semantics.specs.Texts.{Table}
use Rattle.join_rows.specs.Leaves.{all_rows, AreLeaves, IsLeafOf}
use Rattle.join_rows.proofs.LeafLemmas.{put_leaf, length-set_leaf}
use Rattle.join_rows.proofs.ResultLemmas.{on_err_by}
use Rattle.join_rows.proofs.leaves.put_in.Goals as goal

pub cut_full-requires-clause-inside : goal.cut_full-requires-clause-inside
cut_full-requires-clause-inside c = omega (arith, c.leaf_of-place.ensures.inside, c.as_slice.ensures.len)

pub cut_full-requires-clause-are : goal.cut_full-requires-clause-are
cut_full-requires-clause-are c =
    let leaves = c.args.leaves.now.items in
    let leaf = c.index_mut.result.now in
    let of = subst (λ (ls : List Table). IsLeafOf c.args.key.now ls c.leaf_of-place.result) c.as_slice.ensures.value c.leaf_of-place.ensures in
    (put_leaf c.args.key.now leaves c.leaf_of-place.result c.requires.are of c.args.value.now leaf leaf c.put.new.self c.requires.row c.index_mut.ensures.value c.in_ok-fresh.ensures.ok).are

pub returns-clause-ok : goal.returns-clause-ok
returns-clause-ok c =
    let leaves = c.args.leaves.now.items in
    let leaf = c.index_mut.result.now in
    let of = subst (λ (ls : List Table). IsLeafOf c.args.key.now ls c.leaf_of-place.result) c.as_slice.ensures.value c.leaf_of-place.ensures in
    c.cut_full.ensures.rows ∙ (put_leaf c.args.key.now leaves c.leaf_of-place.result c.requires.are of c.args.value.now leaf leaf c.put.new.self c.requires.row c.index_mut.ensures.value c.in_ok-fresh.ensures.ok).is

pub returns-clause-fresh : goal.returns-clause-fresh
returns-clause-fresh c =
    let leaves = c.args.leaves.now.items in
    let leaf = c.index_mut.result.now in
    let of = subst (λ (ls : List Table). IsLeafOf c.args.key.now ls c.leaf_of-place.result) c.as_slice.ensures.value c.leaf_of-place.ensures in
    let all = ap (λ (t : Table). length t) c.cut_full.ensures.rows in
    let one = ap (λ (t : Table). length t) c.index_mut.ensures.value in
    let own = c.in_ok-fresh.ensures.fresh in
    let sum = length-set_leaf leaves c.leaf_of-place.result c.put.new.self leaf of.inside in
    omega (arith, all, one, own, sum)

pub returns-in_err-fresh-clause-are : goal.returns-in_err-fresh-clause-are
returns-in_err-fresh-clause-are c =
    let leaves = c.args.leaves.now.items in
    let leaf = c.index_mut.result.now in
    let same : set leaves c.leaf_of-place.result c.put.new.self ≡ leaves = ap (set leaves c.leaf_of-place.result) (c.in_err-fresh.ensures.err ∙ c.index_mut.ensures.value) ∙ set-get_or leaves c.leaf_of-place.result leaf in
    subst (λ (ls : List Table). AreLeaves ls) (sym same) c.requires.are

pub returns-in_err-fresh-clause-err : goal.returns-in_err-fresh-clause-err
returns-in_err-fresh-clause-err c =
    let leaves = c.args.leaves.now.items in
    let leaf = c.index_mut.result.now in
    let same : set leaves c.leaf_of-place.result c.put.new.self ≡ leaves = ap (set leaves c.leaf_of-place.result) (c.in_err-fresh.ensures.err ∙ c.index_mut.ensures.value) ∙ set-get_or leaves c.leaf_of-place.result leaf in
    on_err_by c.from_residual.result _ (ap all_rows same)
