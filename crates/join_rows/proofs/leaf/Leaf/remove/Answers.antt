use Rattle.std.proofs.Common.{Result, ℕ, List, sym, ap, ◌∙◌, subst}
use Rattle.semantics.specs.Texts.{Table, without_key}
use Rattle.join_rows.specs.declared.entry.Entry.{Entry}
use Rattle.join_rows.specs.Laid.{rows_of, AreLaid}
use Rattle.join_rows.specs.Found.{Finds, IsAt}
use Rattle.join_rows.proofs.FoundLemmas.{remove_gap}
use Rattle.join_rows.proofs.LaidLemmas.{laid_remove}
use Rattle.join_rows.proofs.leaf.Leaf.remove.Goals as goal

pub invariant_of-self : goal.invariant_of-self
invariant_of-self c =
    let bytes = c.self.inside.bytes.items in
    let entries = c.self.inside.entries.items in
    let there = subst (λ (r : Result ℕ ℕ). Finds c.args.key.now c.args.self.now r) c.in-Ok.is c.find.ensures.found in
    subst (λ (es : List Entry). AreLaid bytes es) (sym c.remove.ensures.items)
    (laid_remove bytes entries c.args.key.now c.in-Ok.place c.self.invariant (subst (λ (t : Table). IsAt c.args.key.now t c.in-Ok.place) (sym c.self.view_is) there)).laid

pub returns-in-Ok-clause-rows : goal.returns-in-Ok-clause-rows
returns-in-Ok-clause-rows c =
    let bytes = c.self.inside.bytes.items in
    let entries = c.self.inside.entries.items in
    let there = subst (λ (r : Result ℕ ℕ). Finds c.args.key.now c.args.self.now r) c.in-Ok.is c.find.ensures.found in
    ap (λ (es : List Entry). rows_of bytes es) c.remove.ensures.items
    ∙ (laid_remove bytes entries c.args.key.now c.in-Ok.place c.self.invariant (subst (λ (t : Table). IsAt c.args.key.now t c.in-Ok.place) (sym c.self.view_is) there)).is
    ∙ ap (without_key c.args.key.now) c.self.view_is

pub returns-in-Err-clause-rows : goal.returns-in-Err-clause-rows
returns-in-Err-clause-rows c =
    remove_gap c.args.key.now c.args.self.now c.in-Err.field-0 (subst (λ (r : Result ℕ ℕ). Finds c.args.key.now c.args.self.now r) c.in-Err.is c.find.ensures.found)
