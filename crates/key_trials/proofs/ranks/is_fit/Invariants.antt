use Rattle.std.proofs.Common.{ℕ, ◌<◌, get_or}
use Rattle.rank_order.proofs.Falls.{IsFall}
use Rattle.key_trials.proofs.ranks.is_fit.Given as goal

abbrev pub invariant-loop-reader : goal.invariant-loop-reader
invariant-loop-reader l = (k : ℕ) → k < l.reader-index → IsFall l.n l.start l.heights (get_or l.edges k (0, 0))
