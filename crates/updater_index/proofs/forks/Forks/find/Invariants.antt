use Rattle.updater_index.proofs.WindowLemmas.{IsSearching}
use Rattle.updater_index.proofs.forks.Forks.find.Given as goal

abbrev pub invariant-loop-length : goal.invariant-loop-length
invariant-loop-length l = IsSearching l.fn.self l.length-iterator l.key l.initial.found l.found
