use Rattle.std.proofs.Common.{◌≡◌, slice_get, Some, refl, sym, subst}
use Rattle.cell_slots.specs.declared.slot.Slot.TheVariants.{Lent, Held}
use Rattle.cell_slots.specs.Slots.{IsRightFor}
use Rattle.cell_table.specs.Stores.{Store}
use Rattle.scan_core.specs.Rights.{AreRight, Contents}
use Rattle.scan_core.proofs.RightLemmas.{right_same_place}
use Rattle.scan_core.proofs.contents.CoreCells.give_back.Goals as goal

pub invariant_of-self : goal.invariant_of-self
invariant_of-self c =
    let lent = subst (λ (v : Contents). slice_get v.cells.slots c.args.id ≡ Some (Lent c.args.at c.args.state.range)) (sym c.self.view_is) c.requires.lent in
    let right = subst (λ (v : Contents). IsRightFor v.history c.args.at c.args.state) (sym c.self.view_is) c.requires.right in
    subst (λ (s : Store). AreRight c.self.inside.base s.holdings.slots) (sym c.give_back.ensures)
    (right_same_place c.self.inside.base c.self.inside.cells.holdings.slots c.args.id (Lent c.args.at c.args.state.range) (Held c.args.at c.args.state) c.self.invariant lent right refl)
