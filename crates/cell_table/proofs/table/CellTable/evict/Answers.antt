use Rattle.std.proofs.Common.{◌≡◌, Some, slice_get, refl, sym, subst, ◌∙◌}
use Rattle.std.proofs.lemmas.Option.{same_Some}
use Rattle.cell_slots.specs.declared.slot.Slot.{Slot}
use Rattle.cell_slots.specs.declared.slot.Slot.TheVariants.{Held}
use Rattle.cell_table.specs.Places.{LeavesPlace}
use Rattle.cell_table.specs.Stores.{Store}
use Rattle.cell_table.proofs.StoreLemmas.{store_left}
use Rattle.cell_table.proofs.table.CellTable.evict.Goals as goal

pub invariant_of-self : goal.invariant_of-self
invariant_of-self c =
    let before = c.self.inside in
    let at = c.requires.at in
    let s = c.requires.state in
    let held : slice_get before.slots c.args.id ≡ Some (Held at s) = subst (λ (t : Store). slice_get t.holdings.slots c.args.id ≡ Some (Held at s)) (sym c.self.view_is) c.requires.held in
    let is : c.put-taken.result ≡ Held at s = same_Some c.put-taken.result (Held at s) (sym c.put-taken.ensures.was ∙ held) in
    store_left before.slots c.put-taken.new.self before.used.items before.directory c.leave.new.self before.book c.gone.new.self c.args.id at s.range (Held at s) c.self.invariant held refl c.put-taken.ensures.set
    (subst (λ (slot : Slot). LeavesPlace slot before.directory c.leave.new.self) is c.leave.ensures) c.gone.ensures
