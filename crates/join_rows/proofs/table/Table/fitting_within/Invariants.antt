use Rattle.std.proofs.Common.{◌≡◌, ◌++◌, map, is_some}
use Rattle.semantics.specs.Texts.{pairs_where, pairs_within}
use Rattle.semantics.specs.Patterns.{bind}
use Rattle.join_rows.specs.Placed.{pairs_of}
use Rattle.join_rows.proofs.table.Table.fitting_within.Given as goal

abbrev pub invariant-loop-pair : goal.invariant-loop-pair
invariant-loop-pair l =
    l.keys.items ++ map (λ pair. pair.0) (pairs_where (λ key. is_some (bind l.pattern key l.slots)) (pairs_of l.pair-iterator))
    ≡ map (λ pair. pair.0) (pairs_where (λ key. is_some (bind l.pattern key l.slots)) (pairs_within l.range l.self))
