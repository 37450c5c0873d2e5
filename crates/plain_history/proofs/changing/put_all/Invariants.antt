use Rattle.std.proofs.Common.{◌≡◌}
use Rattle.semantics.specs.States.{merged}
use Rattle.plain_history.proofs.changing.put_all.Given as goal

abbrev pub invariant-loop-pair : goal.invariant-loop-pair
invariant-loop-pair l = merged l.table l.pair-iterator.rest.items ≡ merged l.fn.table l.fn.pairs.items
