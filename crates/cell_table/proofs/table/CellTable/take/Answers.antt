use Rattle.std.proofs.Common.{◌≡◌, Some, slice_get, ap, sym, ◌∙◌}
use Rattle.std.specs.Option.{option_copied}
use Rattle.semantics.specs.Texts.{Range as Bounds}
use Rattle.cell_slots.specs.declared.slot.Slot.TheVariants.{Held, Lent}
use Rattle.cell_slots.specs.Slots.{place_of}
use Rattle.cell_table.proofs.StoreLemmas.{store_set}
use Rattle.cell_table.proofs.table.CellTable.take.Goals as goal

pub invariant_of-self : goal.invariant_of-self
invariant_of-self c =
    let before = c.self.inside in
    let state = c.in-Some-Held.state in
    let held : slice_get before.slots c.args.id ≡ Some (Held c.in-Some-Held.at state) = sym c.get.ensures ∙ ap option_copied c.in-Some-Held.is ∙ ap Some c.in-Some-Held.field-0-is in
    let place : place_of (Lent c.in-Some-Held.at c.in_ok-place.place) ≡ Some (c.in-Some-Held.at, state.range) = ap (λ (r : Bounds). Some (c.in-Some-Held.at, r)) (c.in_ok-place.ensures ∙ c.range.ensures) in
    store_set before.slots c.put-taken.new.self before.used.items before.directory before.book c.args.id (Held c.in-Some-Held.at state) (Lent c.in-Some-Held.at c.in_ok-place.place)
    c.self.invariant held place c.put-taken.ensures.set
