use Rattle.std.proofs.Common.{◌≡◌, ◌+◌, cond, length, ap, ◌∙◌, arith}
use Rattle.semantics.specs.Texts.{Table}
use Rattle.join_rows.specs.Leaves.{all_rows}
use Rattle.join_rows.proofs.LeafLemmas.{none_without}
use Rattle.join_rows.proofs.leaves.remove_counted.Goals as goal

pub returns-then-known-eq0-clause-rows : goal.returns-then-known-eq0-clause-rows
returns-then-known-eq0-clause-rows c = none_without c.args.key.now c.args.leaves.now.items (omega (arith, c.args.leaves.now.ok.0))

pub returns-then-gone-clause-counted : goal.returns-then-gone-clause-counted
returns-then-gone-clause-counted c =
    let one = c.remove_in-gone.ensures.gone ∙ ap (λ b. length (all_rows c.remove_in-gone.new.leaves.items) + cond b 1 0) c.if-gone.true in record { leaves = c.remove_in-gone.ensures.are; number = omega (arith, one, c.requires.number) }

pub returns-else-gone-clause-counted : goal.returns-else-gone-clause-counted
returns-else-gone-clause-counted c =
    let none = c.remove_in-gone.ensures.gone ∙ ap (λ b. length (all_rows c.remove_in-gone.new.leaves.items) + cond b 1 0) c.if-gone.false in record { leaves = c.remove_in-gone.ensures.are; number = omega (arith, none, c.requires.number) }
