use Rattle.std.proofs.Common.{◌≡◌, ◌++◌, map, take}
use Rattle.range_cells.specs.Comparing.{gone_pair}
use Rattle.range_cells.proofs.comparing.push_gone.Given as goal

-- the pairs so far have gone
abbrev pub invariant-loop-pair : goal.invariant-loop-pair
invariant-loop-pair l = l.changes.items ≡ l.fn.changes.items ++ map gone_pair (take l.pair-index l.pairs)
