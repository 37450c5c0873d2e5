use Rattle.std.proofs.Common.{◌≡◌, ◌+◌, ◌≤◌, flat_map, length, take}
use Rattle.semantics.specs.Texts.{pairs_within}
use Rattle.semantics.specs.Joins.{Join}
use Rattle.semantics.specs.Outputs.{out}
use Rattle.semantics.specs.States.{below}
use Rattle.growing_history.specs.Entered.{HasEntered}
use Rattle.join_eval.specs.Moves.{Moves}
use Rattle.cell_slots.specs.Slots.{StandsAs}
use Rattle.rank_layers.proofs.outputs.read_each.Given as goal

-- what the join gives in the parts so far was found, and the reader went on as it may
abbrev pub invariant-loop-part : goal.invariant-loop-part
invariant-loop-part g l = record {
  output : (j : Join) → StandsAs (g.R.Reader.list l.fn.reader) l.fn.query.p l.fn.query.at l.fn.query.rank j →
      l.pairs.items ≡ flat_map (λ part. pairs_within (g.C.RangeCache.range_of part) (out j (below (take l.fn.query.p (g.R.Reader.list l.fn.reader)) l.fn.query.rank))) (take l.part-index l.parts);
  moves : Moves g.R.Reader.list g.R.Reader.floor (g.C.RangeCache.left (l.fn.query.rank + 1)) l.fn.reader l.reader;
  entered : HasEntered (g.R.Reader.list l.reader);
  cost : l.fn.steps + length l.pairs.items ≤ l.steps;
}
