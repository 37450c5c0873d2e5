use Rattle.std.proofs.Common.{◌≡◌, ℕ, ◌<◌, get_or}
use Rattle.lazy_log.specs.declared.log.Noted.{Noted}
use Rattle.lazy_log.proofs.log.are_noted.Given as goal

abbrev pub invariant-loop-one : goal.invariant-loop-one
invariant-loop-one l = (k : ℕ) (d : Noted) → k < l.one-index → (get_or l.noted k d).slots ≡ l.slots → ⊥
