use Rattle.std.proofs.Common.{◌≡◌, ◌∷◌, [], true, sym, ap, ◌∙◌}
use Rattle.std.proofs.lemmas.Bool.{not-false}
use Rattle.semantics.specs.Texts.{Text, same, table_of}
use Rattle.key_trials.proofs.SetLemmas.{of_table-inserted}
use Rattle.key_trials.proofs.sets.Kept.keep.Goals as goal

pub invariant_of-self : goal.invariant_of-self
invariant_of-self c =
    let before = c.args.self.now in
    let gap = c.in-Some-Gap.gap in
    let name : Text = 116 ∷ [] in
    let alike : same c.table.result.now name ≡ true = not-false (same c.table.result.now name) (sym c.ne.ensures ∙ c.if-ne.false) in
    let here : same (table_of gap.low) name ≡ true = ap (λ (t : Text). same t name) (sym c.table.ensures.table) ∙ alike in
    record { of_table = of_table-inserted c.insert.result gap c.args.item before.set c.insert.new.self name c.insert.ensures.ok c.insert.ensures.err here before.of_table }
