use Rattle.std.proofs.Common.{◌≡◌, ◌+◌, ◌-◌, ◌≤◌, length, take}
use Rattle.semantics.specs.Histories.{joins_of}
use Rattle.semantics.specs.States.{below}
use Rattle.growing_history.specs.Entered.{HasEntered}
use Rattle.layering.specs.Merging.{Ascends}
use Rattle.layering.specs.Reached.{reached, with_parts}
use Rattle.join_eval.specs.Moves.{Moves}
use Rattle.cell_slots.specs.Spending.{JoinsSpend}
use Rattle.rank_layers.proofs.outputs.add_outputs.Given as goal

-- what the joins so far give is merged, the reader went on as it may, and it cost what it may
abbrev pub invariant-loop-at : goal.invariant-loop-at
invariant-loop-at g l = record {
  output : l.all.items ≡ with_parts l.fn.range (take l.at-index (reached l.fn.range l.fn.rank (joins_of (take l.fn.p (g.R.Reader.list l.fn.reader))))) (below (take l.fn.p (g.R.Reader.list l.fn.reader)) l.fn.rank) l.fn.pairs.items;
  ascends : Ascends l.all.items;
  moves : Moves g.R.Reader.list g.R.Reader.floor (g.C.RangeCache.left (l.fn.rank + 1)) l.fn.reader l.reader;
  entered : HasEntered (g.R.Reader.list l.reader);
  counted : l.fn.steps ≤ l.steps;
  cost : length l.all.items + l.fn.steps ≤ length l.fn.pairs.items + l.steps;
  spent : JoinsSpend (λ x y at j added. g.C.RangeCache.cost_one x y at l.fn.rank l.fn.p l.fn.range j added) l.fn.reader l.reader
      (take l.at-index (reached l.fn.range l.fn.rank (joins_of (take l.fn.p (g.R.Reader.list l.fn.reader))))) (l.steps - l.fn.steps);
}
