use Rattle.std.proofs.Common.{◌≡◌, ◌+◌, ◌≤◌, take, flat_map, IfSome}
use Rattle.semantics.specs.States.{below}
use Rattle.growing_history.specs.Changes.{changed_keys}
use Rattle.kept_ranges.specs.SoundLaws.{AreReportedBetween}
use Rattle.join_eval.specs.Answers.{HaveValues, change_keys}
use Rattle.join_eval.specs.Moves.{Moves}
use Rattle.range_state.specs.Asking.{LieInRanges, AreBareThroughout, IsQuiet, asking_steps}
use Rattle.range_state.proofs.asking.gather_answers.Given as goal

abbrev pub invariant-loop-need : goal.invariant-loop-need
invariant-loop-need g l = record {
  inside : LieInRanges l.needs (change_keys l.answers.items);
  complete : AreReportedBetween (g.R.Reader.list l.fn.reader) l.q l.p l.rank (take l.need-index l.needs) (change_keys l.answers.items);
  values : HaveValues (below (take l.p (g.R.Reader.list l.fn.reader)) l.rank) l.answers.items;
  bare : AreBareThroughout (g.R.Reader.list l.fn.reader) l.q l.p l.needs → change_keys l.answers.items ≡ flat_map (λ need. changed_keys l.q l.p need.range (g.R.Reader.list l.fn.reader)) (take l.need-index l.needs);
  bare_cost : AreBareThroughout (g.R.Reader.list l.fn.reader) l.q l.p l.needs → l.steps ≡ l.fn.steps + asking_steps l.q l.p (g.R.Reader.list l.fn.reader) (take l.need-index l.needs);
  quiet : IfSome l.quiet (λ r. IsQuiet (g.R.Reader.list l.fn.reader) l.q l.p l.rank r.now);
  moves : Moves g.R.Reader.list g.R.Reader.floor g.R.Reader.went l.fn.reader l.reader;
  counted : l.fn.steps ≤ l.steps;
  least : l.fn.steps + l.need-index ≤ l.steps;
}
