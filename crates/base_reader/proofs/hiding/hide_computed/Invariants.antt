use Rattle.std.proofs.Common.{◌≡◌, not}
use Rattle.semantics.specs.Texts.{pairs_where}
use Rattle.semantics.specs.Histories.{is_computed}
use Rattle.base_reader.proofs.hiding.hide_computed.Given as goal

-- the pairs so far that no output hides are left
abbrev pub invariant-loop-pair : goal.invariant-loop-pair
invariant-loop-pair l = l.left.items ≡ pairs_where (λ key. not (is_computed l.joins.standing key)) l.yielded
