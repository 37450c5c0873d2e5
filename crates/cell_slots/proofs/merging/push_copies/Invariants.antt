use Rattle.std.proofs.Common.{◌≡◌, ◌++◌, take}
use Rattle.cell_slots.proofs.merging.push_copies.Given as goal

-- copies of the pairs so far are added
abbrev pub invariant-loop-pair : goal.invariant-loop-pair
invariant-loop-pair l = l.all.items ≡ l.fn.all.items ++ take l.pair-index l.pairs
