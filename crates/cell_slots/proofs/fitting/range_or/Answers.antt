use Rattle.std.proofs.Common.{inl, inr}
use Rattle.std.proofs.lemmas.Result.{IfOk-weaker}
use Rattle.cell_slots.proofs.fitting.range_or.Goals as goal

pub returns-in-Ok : goal.returns-in-Ok
returns-in-Ok c = inl (λ i. record { low = c.in-Ok.ensures.ok.0 i; high = c.in-Ok.ensures.ok.1 i })

pub returns-in-Err-BadRange : goal.returns-in-Err-BadRange
returns-in-Err-BadRange c = IfOk-weaker c.copy.result _ _ (λ part same. inr same) c.copy.ensures
