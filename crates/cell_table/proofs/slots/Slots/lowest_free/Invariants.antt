use Rattle.std.proofs.Common.{◌≡◌, ◌-◌, length}
use Rattle.cell_table.specs.Stores.{AreSlots}
use Rattle.cell_table.proofs.slots.Slots.lowest_free.Given as goal

-- the slots are those that were there, and none is free below the number
abbrev pub invariant-loop-self : goal.invariant-loop-self
invariant-loop-self l = (l.self-inside.slots ≡ l.initial.self-inside.slots) × AreSlots l.self-inside.slots.items l.self-inside.least

abbrev pub decreases-loop-self : goal.decreases-loop-self
decreases-loop-self l = length l.self-inside.slots.items - l.self-inside.least
