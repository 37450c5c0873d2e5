use Rattle.std.proofs.Common.{◌≡◌, ℕ, ◌<◌}
use Rattle.semantics.specs.Patterns.{text_at}
use Rattle.join_rows.proofs.need.are_same_slots.Given as goal

abbrev pub invariant-loop-place : goal.invariant-loop-place
invariant-loop-place l = (k : ℕ) → k < l.place → text_at k l.slots ≡ text_at k l.others
