use Rattle.std.proofs.Common.{◌≡◌, replicate}
use Rattle.cell_slots.specs.declared.slot.Slot.TheVariants.{Free}
use Rattle.cell_table.proofs.slots.Slots.new.Given as goal

-- the slots so far are free
abbrev pub invariant-loop : goal.invariant-loop
invariant-loop l = l.slots.items ≡ replicate l.counter Free
