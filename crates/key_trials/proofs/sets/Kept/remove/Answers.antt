use Rattle.std.proofs.Common.{◌≡◌, ◌∷◌, [], ℕ, true, sym, subst}
use Rattle.semantics.specs.Texts.{Text}
use Rattle.range_set.specs.Held.{Held, are_of_table}
use Rattle.key_trials.proofs.SetLemmas.{of_table-without_range}
use Rattle.key_trials.proofs.sets.Kept.remove.Goals as goal

pub invariant_of-self : goal.invariant_of-self
invariant_of-self c =
    let before = c.args.self.now in
    let name : Text = 116 ∷ [] in
    record { of_table = subst (λ (held : Held ℕ). are_of_table held name ≡ true) (sym c.remove.ensures.left) (of_table-without_range c.args.range.now before.set name before.of_table) }
