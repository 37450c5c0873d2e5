use Rattle.std.proofs.Common.{◌≡◌, ◌+◌, ◌≤◌, ℕ, length, max}
use Rattle.updater_index.specs.Registered.{filled}
use Rattle.updater_index.proofs.registered.lengthen.Given as goal

-- filled up, the lists are those that were
abbrev pub invariant-loop-place : goal.invariant-loop-place
invariant-loop-place l = record {
  long : length l.by_id.items ≡ l._place;
  upto : l._place ≤ max (length l.fn.by_id.items) (l.id + 1);
  same : (ids : ℕ) → length l.by_id.items ≤ ids → filled ids l.by_id.items ≡ filled ids l.fn.by_id.items;
}
