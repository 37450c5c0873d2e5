use Rattle.std.proofs.Common.{◌≡◌, ◌+◌, ◌<◌, suc, List, [], ◌∷◌, ◌++◌, length, take, drop, get_or, sym, ap, ◌∙◌, arith}
use Rattle.semantics.specs.Texts.{Table}
use Rattle.join_rows.proofs.LeafLemmas.{cut_again, made_by}
use Rattle.join_rows.proofs.leaves.cut_before.Goals as goal

pub tail-requires : goal.tail-requires
tail-requires c =
    let same = ap (λ (t : Table). length t) (c.leaf_in.ensures ∙ ap (λ (ls : List Table). get_or ls c.args.place []) c.as_slice.ensures.value) in
    omega (arith, same, c.requires.less)

pub returns-then-is_ok-clause-are : goal.returns-then-is_ok-clause-are
returns-then-is_ok-clause-are c =
    let leaves = c.args.leaves.now.items in
    let i = c.args.place in
    let leaf = c.leaf_in.ensures ∙ ap (λ (ls : List Table). get_or ls i []) c.as_slice.ensures.value in
    (cut_again leaves c.insert.new.self.items i (i + 1) c.args.row c.in-Ok.rest c.index_mut.result.now c.truncate.new.self c.requires.are (omega (arith, c.args.leaves.now.ok.0)) (omega arith) c.requires.some c.requires.less
    (c.in-Ok.ensures ∙ ap (λ (t : Table). drop c.args.row t) leaf)
    (made_by _ _ _ _ c.insert.ensures.items (sym c.is_ok.ensures.value ∙ c.if-is_ok.true)) c.index_mut.ensures.value c.truncate.ensures).are

pub returns-then-is_ok-clause-rows : goal.returns-then-is_ok-clause-rows
returns-then-is_ok-clause-rows c =
    let leaves = c.args.leaves.now.items in
    let i = c.args.place in
    let leaf = c.leaf_in.ensures ∙ ap (λ (ls : List Table). get_or ls i []) c.as_slice.ensures.value in
    (cut_again leaves c.insert.new.self.items i (i + 1) c.args.row c.in-Ok.rest c.index_mut.result.now c.truncate.new.self c.requires.are (omega (arith, c.args.leaves.now.ok.0)) (omega arith) c.requires.some c.requires.less
    (c.in-Ok.ensures ∙ ap (λ (t : Table). drop c.args.row t) leaf)
    (made_by _ _ _ _ c.insert.ensures.items (sym c.is_ok.ensures.value ∙ c.if-is_ok.true)) c.index_mut.ensures.value c.truncate.ensures).is
