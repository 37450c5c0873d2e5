use Rattle.std.proofs.Common.{List, sym, subst, arith}
use Rattle.cell_slots.specs.declared.slot.Slot.{Slot}
use Rattle.cell_table.specs.Stores.{AreSlots}
use Rattle.cell_table.proofs.SlotLemmas.{free_slots}
use Rattle.cell_table.proofs.slots.Slots.new.Goals as goal

pub invariant_of-result : goal.invariant_of-result
invariant_of-result c = subst (λ (xs : List Slot). AreSlots xs 0) (sym c.loop.invariant) (free_slots c.loop.counter (omega arith))
