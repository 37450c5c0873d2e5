use Rattle.write_history.specs.Passes.{MayAppend}
use Rattle.history_trials.proofs.shards.mark_rows.Given as goal

abbrev pub invariant-loop-key : goal.invariant-loop-key
invariant-loop-key g l = MayAppend g.N.Naming.history l.pass
