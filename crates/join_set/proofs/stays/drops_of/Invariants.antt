use Rattle.std.proofs.Common.{◌≡◌, ◌++◌}
use Rattle.join_set.proofs.EndLemmas.{listed}
use Rattle.join_set.proofs.stays.drops_of.Given as goal

abbrev pub invariant-loop-table : goal.invariant-loop-table
invariant-loop-table l = l.drops.items ++ listed l.table-iterator ≡ listed l.initial.table-iterator
