use Rattle.updater_index.proofs.FindLemmas.{IsFinding}
use Rattle.updater_index.proofs.forks.find_among.Given as goal

abbrev pub invariant-loop-fork : goal.invariant-loop-fork
invariant-loop-fork l = IsFinding l.fn.sides l.fork-iterator l.key l.initial.found l.found
