use Rattle.std.proofs.Common.{sym, ap, ◌∙◌, subst}
use Rattle.std.proofs.lemmas.Result.{IfOk-weaker}
use Rattle.semantics.specs.Joins.{Join, is_join}
use Rattle.semantics.specs.Patterns.{Pattern}
use Rattle.cell_slots.specs.Gaps.{HoldSameFitting}
use Rattle.cell_slots.proofs.FittingLemmas.{give_same}
use Rattle.cell_slots.proofs.fitting.output_part.Goals as goal

pub returns : goal.returns
returns c =
    let j = c.args.join.now in
    IfOk-weaker c.fitting_part.result _ _ (λ part same.
    give_same j c.args.range.now part (ap is_join (sym c.join.view_is) ∙ c.join.invariant)
    (subst (λ (p : Pattern). HoldSameFitting p c.args.range.now part) (ap (λ (k : Join). k.output) c.join.view_is) same)) c.fitting_part.ensures
