use Rattle.join_model.proofs.ReplayLemmas.{HasTaken}
use Rattle.join_model.proofs.replay.replay.Given as goal

abbrev pub invariant-loop-entry : goal.invariant-loop-entry
invariant-loop-entry l = HasTaken l.entries l.entry-index l.standing l.base
