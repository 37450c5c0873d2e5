use Rattle.std.proofs.Common.{rules, ◌≡◌, List, [], ◌∷◌, length, refl, sym, ap, ◌∙◌, arith}
use Rattle.std.proofs.lemmas.Grind.{common_steps}
use Rattle.semantics.specs.States.{merged}
use Rattle.layering.proofs.MergeLemmas.{merged_into_nothing}
use Rattle.cell_slots.proofs.merging.merge.Goals as goal

-- a list without a length is empty
nothing_in : {A : Type 0} (xs : List A) → length xs ≡ 0 → xs ≡ []
nothing_in [] h = refl
nothing_in (x ∷ xs) h = absurd (omega arith)

pub returns-then-is_empty : goal.returns-then-is_empty
returns-then-is_empty c =
    let none : length c.args.first.items ≡ 0 = grind (arith, common_steps) in
    sym (ap (λ t. merged t c.args.other.items) (nothing_in c.args.first.items none) ∙ merged_into_nothing c.args.other.items c.requires.other_ascends)
