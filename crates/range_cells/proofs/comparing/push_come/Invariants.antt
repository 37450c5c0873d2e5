use Rattle.std.proofs.Common.{◌≡◌, ◌++◌, map, take}
use Rattle.range_cells.specs.Comparing.{new_pair}
use Rattle.range_cells.proofs.comparing.push_come.Given as goal

-- the pairs so far have come
abbrev pub invariant-loop-pair : goal.invariant-loop-pair
invariant-loop-pair l = l.changes.items ≡ l.fn.changes.items ++ map new_pair (take l.pair-index l.pairs)
