use Rattle.std.proofs.Common.{◌≡◌, ◌≤◌, length}
use Rattle.write_history.specs.Passes.{MayAppend}
use Rattle.history_trials.proofs.appends.appended.Given as goal

abbrev pub invariant-loop-number : goal.invariant-loop-number
invariant-loop-number g l = record {
  may : MayAppend l.history l.pass;
  within : l.last ≤ length l.pass.view;
  mark : l.pass.mark ≡ l.fn.pass.mark;
}
