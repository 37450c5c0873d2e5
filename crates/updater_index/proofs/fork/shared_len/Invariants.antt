use Rattle.std.proofs.Common.{◌≡◌, ◌+◌, ◌-◌, ◌≤◌, length, drop}
use Rattle.updater_index.specs.Shared.{shared_len}
use Rattle.updater_index.proofs.fork.shared_len.Given as goal

abbrev pub invariant-loop-count : goal.invariant-loop-count
invariant-loop-count l = record {
  left : shared_len l.first l.second ≡ l.count + shared_len (drop l.count l.first) (drop l.count l.second);
  in_first : l.count ≤ length l.first;
  in_second : l.count ≤ length l.second;
}

abbrev pub decreases-loop-count : goal.decreases-loop-count
decreases-loop-count l = length l.initial.second - l.count
