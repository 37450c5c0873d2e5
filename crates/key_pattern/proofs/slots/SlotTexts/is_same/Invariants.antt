use Rattle.std.proofs.Common.{◌≡◌, ℕ, ◌<◌}
use Rattle.semantics.specs.Patterns.{text_at}
use Rattle.key_pattern.proofs.slots.SlotTexts.is_same.Given as goal

abbrev pub invariant-loop-place : goal.invariant-loop-place
invariant-loop-place l = (k : ℕ) → k < l.place → text_at k l.self ≡ text_at k l.other
