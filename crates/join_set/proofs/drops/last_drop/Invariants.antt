use Rattle.std.proofs.Common.{◌≡◌, take}
use Rattle.join_set.specs.Sets.{last_drop}
use Rattle.join_set.proofs.drops.last_drop.Given as goal

abbrev pub invariant-loop-dropped : goal.invariant-loop-dropped
invariant-loop-dropped l = l.last ≡ last_drop l.table (take l.dropped-index l.drops)
