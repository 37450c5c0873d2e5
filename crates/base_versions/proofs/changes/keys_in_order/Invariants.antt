use Rattle.std.proofs.Common.{◌≡◌, ◌-◌, take, drop}
use Rattle.growing_history.specs.Changes.{in_order}
use Rattle.base_versions.specs.Changes.{keys_within}
use Rattle.base_versions.proofs.changes.keys_in_order.Given as goal

abbrev pub invariant-loop-place : goal.invariant-loop-place
invariant-loop-place l = l.sorted.keys ≡ in_order (keys_within l.range (take (l.place - l.first) (drop l.first l.changes.items)))
