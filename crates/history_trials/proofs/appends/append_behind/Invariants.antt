use Rattle.std.proofs.Common.{◌≡◌}
use Rattle.write_history.specs.Passes.{MayAppend}
use Rattle.write_history.specs.declared.known.Mark.TheVariants.{Noted}
use Rattle.history_trials.proofs.appends.append_behind.Given as goal

abbrev pub invariant-loop-number : goal.invariant-loop-number
invariant-loop-number g l = record {
  may : MayAppend l.history l.writer;
  same_history : l.reader.history ≡ l.history;
  noted : l.reader.mark ≡ Noted 0;
}
