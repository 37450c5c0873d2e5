use Rattle.std.proofs.Common.{◌+◌, ◌≤◌, take}
use Rattle.semantics.specs.Histories.{joins_of}
use Rattle.growing_history.specs.Entered.{HasEntered}
use Rattle.layering.specs.Reached.{reached}
use Rattle.join_eval.specs.Moves.{Moves}
use Rattle.rank_layers.specs.Telling.{ListsAdded}
use Rattle.rank_layers.proofs.telling.add_changes.Given as goal

-- what changed in the outputs of the joins so far is among the keys, and the reader went on as it may
abbrev pub invariant-loop-at : goal.invariant-loop-at
invariant-loop-at g l = record {
  lists : ListsAdded (g.R.Reader.list l.fn.reader) l.fn.since l.fn.p l.fn.rank l.fn.range (take l.at-index (reached l.fn.range l.fn.rank (joins_of (take l.fn.p (g.R.Reader.list l.fn.reader))))) l.fn.keys.items l.all.items;
  moves : Moves g.R.Reader.list g.R.Reader.floor (g.C.RangeCache.left (l.fn.rank + 1)) l.fn.reader l.reader;
  entered : HasEntered (g.R.Reader.list l.reader);
  counted : l.fn.steps ≤ l.steps;
}
