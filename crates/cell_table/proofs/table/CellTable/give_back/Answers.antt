use Rattle.std.proofs.Common.{◌≡◌, Some, slice_get, refl, sym, subst}
use Rattle.cell_slots.specs.declared.slot.Slot.TheVariants.{Lent, Held}
use Rattle.cell_table.specs.Stores.{Store}
use Rattle.cell_table.proofs.StoreLemmas.{store_set}
use Rattle.cell_table.proofs.table.CellTable.give_back.Goals as goal

pub invariant_of-self : goal.invariant_of-self
invariant_of-self c =
    let before = c.self.inside in
    let place = Lent c.args.at c.args.state.range in
    let held : slice_get before.slots c.args.id ≡ Some place = subst (λ (t : Store). slice_get t.holdings.slots c.args.id ≡ Some place) (sym c.self.view_is) c.requires in
    store_set before.slots c.put.new.self before.used.items before.directory before.book c.args.id place (Held c.args.at c.args.state) c.self.invariant held refl c.put.ensures.set
