use Rattle.std.proofs.Common.{◌≡◌, ◌<◌, ℕ, is_some}
use Rattle.semantics.specs.Patterns.{text_at}
use Rattle.key_pattern.proofs.slots.Slots.has_places_of.Given as goal

abbrev pub invariant-loop-place : goal.invariant-loop-place
invariant-loop-place l = (k : ℕ) → k < l.place → is_some (text_at k l.self) ≡ is_some (text_at k l.others)
