use Rattle.write_history.specs.Passes.{HasSeen, MayAppend}
use Rattle.history_trials.proofs.shards.catch_all.Given as goal

abbrev pub invariant-loop-number : goal.invariant-loop-number
invariant-loop-number g l = record {
  seen : HasSeen g.N.Naming.history l.pass l.p;
  may : MayAppend g.N.Naming.history l.fn.pass → MayAppend g.N.Naming.history l.pass;
}
