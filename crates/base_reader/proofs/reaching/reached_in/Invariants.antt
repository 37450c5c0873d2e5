use Rattle.std.proofs.Common.{◌≡◌, take, zip}
use Rattle.semantics.specs.States.{ranks_of}
use Rattle.base_reader.proofs.ReachingLemmas.{picked}
use Rattle.base_reader.proofs.reaching.reached_in.Given as goal

-- the joins so far that the range reaches are found
abbrev pub invariant-loop-i : goal.invariant-loop-i
invariant-loop-i l = l.ats.items ≡ picked l.range l.rank (take l.i (zip (ranks_of l.joins.standing) l.joins.standing))
