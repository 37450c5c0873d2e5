use Rattle.std.proofs.Common.{◌≡◌, List, [], ◌∷◌, ◌++◌, length, ◌∙◌, ap, arith}
use Rattle.semantics.specs.Texts.{Table}
use Rattle.join_rows.proofs.LeafLemmas.{first_leaf, first_counted}
use Rattle.join_rows.proofs.leaves.put_first.Goals as goal

pub returns-clause-ok : goal.returns-clause-ok
returns-clause-ok c =
    let leaf = c.in_ok-leaf.leaf in
    let pushed = c.in_ok-push.ensures.items ∙ ap (λ (ls : List Table). ls ++ leaf ∷ []) c.in_ok-first.ensures.items in
    (first_leaf c.args.key.now c.args.value.now c.args.leaves.now.items c.push.new.self.items leaf c.requires.row (omega (arith, c.args.leaves.now.ok.0)) c.in_ok-leaf.ensures pushed).is

pub returns-clause-counted : goal.returns-clause-counted
returns-clause-counted c =
    let leaf = c.in_ok-leaf.leaf in
    let pushed = c.in_ok-push.ensures.items ∙ ap (λ (ls : List Table). ls ++ leaf ∷ []) c.in_ok-first.ensures.items in
    first_counted c.args.key.now c.args.value.now c.args.leaves.now.items c.push.new.self.items leaf c.requires.row (omega (arith, c.args.leaves.now.ok.0)) c.in_ok-leaf.ensures pushed
