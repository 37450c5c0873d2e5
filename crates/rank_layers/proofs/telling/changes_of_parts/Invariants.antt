use Rattle.std.proofs.Common.{◌+◌, ◌≤◌, map, take}
use Rattle.semantics.specs.Texts.{Range}
use Rattle.semantics.specs.Joins.{Join}
use Rattle.growing_history.specs.Entered.{HasEntered}
use Rattle.layering.specs.Parts.{JoinTo}
use Rattle.join_eval.specs.Moves.{Moves}
use Rattle.cell_slots.specs.Slots.{StandsAs}
use Rattle.rank_layers.specs.Telling.{ListsJoin}
use Rattle.rank_layers.proofs.telling.changes_of_parts.Given as goal

-- what changed in the parts so far is listed, and the reader went on as it may
abbrev pub invariant-loop-part : goal.invariant-loop-part
invariant-loop-part g l = record {
  told : (j : Join) (range : Range) → StandsAs (g.R.Reader.list l.fn.reader) l.fn.query.p l.fn.query.at l.fn.query.rank j → JoinTo range (map g.C.RangeCache.range_of (take l.part-index l.parts)) →
      ListsJoin (g.R.Reader.list l.fn.reader) l.fn.since l.fn.query.p l.fn.query.rank j range l.all.items;
  moves : Moves g.R.Reader.list g.R.Reader.floor (g.C.RangeCache.left (l.fn.query.rank + 1)) l.fn.reader l.reader;
  entered : HasEntered (g.R.Reader.list l.reader);
  counted : l.fn.steps ≤ l.steps;
}
