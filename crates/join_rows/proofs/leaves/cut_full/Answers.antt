use Rattle.std.proofs.Common.{◌≡◌, List, [], length, get_or, ap, ◌∙◌, arith}
use Rattle.semantics.specs.Texts.{Table}
use Rattle.join_rows.proofs.leaves.cut_full.Goals as goal

pub cut_before-requires-clause-less : goal.cut_before-requires-clause-less
cut_before-requires-clause-less c =
    let same = ap (λ (t : Table). length t) (c.leaf_in-leaf.ensures ∙ ap (λ (ls : List Table). get_or ls c.args.place []) c.as_slice.ensures.value) in
    omega (arith, same, c.len-rows.ensures.number, c.cut_place-at.ensures.before)
