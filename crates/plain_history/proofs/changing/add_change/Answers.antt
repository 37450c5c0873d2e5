use Rattle.std.proofs.Common.{◌≡◌, true, false, [], ◌∷◌, ◌++◌, sym, ap, ◌∙◌, append-nil}
use Rattle.semantics.specs.Texts.{value_at}
use Rattle.growing_history.specs.StateChanges.{same_value}
use Rattle.growing_history.proofs.ListLemmas.{no_change, one_change}
use Rattle.plain_history.proofs.changing.add_change.Goals as goal

pub returns-then-is_same : goal.returns-then-is_same
returns-then-is_same c =
    let same : same_value (value_at c.args.key c.args.before.now) (value_at c.args.key c.args.after.now) ≡ true =
    sym (λ i. same_value (c.get-old.ensures i) (c.get-new.ensures i)) ∙ sym c.is_same.ensures ∙ c.if-is_same.true in
    sym (ap (λ cs. c.args.changes.now.items ++ cs) (no_change c.args.key c.args.before.now c.args.after.now same) ∙ append-nil c.args.changes.now.items)

pub returns : goal.returns
returns c =
    let other : same_value (value_at c.args.key c.args.before.now) (value_at c.args.key c.args.after.now) ≡ false =
    sym (λ i. same_value (c.get-old.ensures i) (c.get-new.ensures i)) ∙ sym c.is_same.ensures ∙ c.if-is_same.false in
    c.in_ok-push.ensures.items ∙ ap (λ v. c.args.changes.now.items ++ record { key = c.args.key; value = v } ∷ []) (c.in_ok-value.ensures ∙ c.get-new.ensures)
    ∙ ap (λ cs. c.args.changes.now.items ++ cs) (sym (one_change c.args.key c.args.before.now c.args.after.now other))
