use Rattle.std.proofs.Common.{◌≡◌, drop, not}
use Rattle.semantics.specs.Texts.{pairs_where}
use Rattle.semantics.specs.Histories.{is_computed}
use Rattle.join_model.proofs.hiding.hide_computed.Given as goal

abbrev pub invariant-loop-i : goal.invariant-loop-i
invariant-loop-i l =
    pairs_where (λ key. not (is_computed (drop l.i l.joins.standing) key)) l.table
    ≡ pairs_where (λ key. not (is_computed l.joins.standing key)) l.initial.table
