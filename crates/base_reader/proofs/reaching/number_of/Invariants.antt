use Rattle.std.proofs.Common.{◌≡◌, ◌<◌, ℕ, slice_get, Some}
use Rattle.semantics.specs.Histories.{DeclaredJoin}
use Rattle.base_reader.proofs.reaching.number_of.Given as goal

-- no join so far was declared at the position
abbrev pub invariant-loop-i : goal.invariant-loop-i
invariant-loop-i l = (k : ℕ) (s : DeclaredJoin) → k < l.i → slice_get l.joins.standing k ≡ Some s → s.position ≡ l.at → ⊥
