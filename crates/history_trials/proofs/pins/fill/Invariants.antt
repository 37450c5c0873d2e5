use Rattle.std.proofs.Common.{◌≡◌}
use Rattle.write_history.specs.Passes.{MayAppend}
use Rattle.history_trials.proofs.pins.fill.Given as goal

abbrev pub invariant-loop-number : goal.invariant-loop-number
invariant-loop-number g l = record {
  may : MayAppend l.history l.writer;
  mark : l.writer.mark ≡ l.fn.writer.mark;
}
