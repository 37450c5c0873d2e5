use Rattle.std.proofs.Common.{ℕ, List, [], replicate, ap, sym, subst}
use Rattle.cell_slots.specs.declared.slot.Slot.{Slot}
use Rattle.cell_slots.specs.declared.slot.Slot.TheVariants.{Free}
use Rattle.cell_table.specs.Places.{Places}
use Rattle.cell_table.specs.Stores.{IsStore}
use Rattle.cell_table.proofs.StoreLemmas.{store_free}
use Rattle.cell_table.proofs.table.CellTable.new.Goals as goal

pub invariant_of-result : goal.invariant_of-result
invariant_of-result c =
    let book = c.in_ok-book.book in
    subst (λ (slots : List Slot). IsStore slots c.new-4.result.items c.new-3.result book) (sym c.in_ok-slots.ensures)
    (subst (λ (used : List ℕ). IsStore (replicate c.args.cells Free) used c.new-3.result book) (sym c.new-4.ensures.items)
    (subst (λ (places : Places). IsStore (replicate c.args.cells Free) [] places book) (sym c.new-3.ensures) (store_free c.args.cells book c.requires.some (ap (λ b. b.cells) c.in_ok-book.ensures) (ap (λ b. b.used) c.in_ok-book.ensures))))
