use Rattle.std.proofs.Common.{◌≡◌, ◌+◌, ◌≤◌, map, take}
use Rattle.semantics.specs.States.{below}
use Rattle.growing_history.specs.StateChanges.{change_to}
use Rattle.join_eval.specs.Moves.{Moves}
use Rattle.rank_layers.proofs.valuing.values_above.Given as goal

-- the keys so far have what stands there, and the reader went on as it may
abbrev pub invariant-loop-key : goal.invariant-loop-key
invariant-loop-key g l = record {
  changes : l.changes.items ≡ map (change_to (below (take l.p (g.R.Reader.list l.fn.reader)) (l.rank + 1))) (take l.key-index l.keys);
  moves : Moves g.R.Reader.list g.R.Reader.floor (g.C.RangeCache.left (l.rank + 1)) l.fn.reader l.reader;
  counted : l.fn.steps ≤ l.steps;
}
