use Rattle.std.proofs.Common.{◌≡◌}
use Rattle.write_history.specs.Passes.{MayAppend}
use Rattle.write_history.specs.declared.known.Mark.TheVariants.{Free}
use Rattle.history_trials.proofs.shards.put_and_read.Given as goal

abbrev pub invariant-loop-number : goal.invariant-loop-number
invariant-loop-number g l = record {
  may : MayAppend g.N.Naming.history l.pass;
  free : l.pass.mark ≡ Free;
}
