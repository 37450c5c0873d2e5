use Rattle.std.proofs.Common.{◌≡◌, ◌<◌, ◌≤◌, ◌+◌, ℕ, take, IsSome}
use Rattle.semantics.specs.Patterns.{text_at}
use Rattle.key_pattern.specs.Places.{AreSlots, padded}
use Rattle.key_pattern.proofs.slots.Slots.used.Given as goal

abbrev pub invariant-loop-place : goal.invariant-loop-place
invariant-loop-place l = record {
  within : l.used ≤ l.place;
  all : padded (take l.used l.self) ≡ padded (take l.place l.self);
  last : (n : ℕ) → l.used ≡ n + 1 → IsSome (text_at n l.self);
  slots : 0 < l.place → AreSlots l.self;
}
