use Rattle.std.proofs.Common.{take, sym, ap, ◌∙◌}
use Rattle.std.proofs.lemmas.Result.{IfOk-weaker}
use Rattle.semantics.specs.States.{state}
use Rattle.range_cells.specs.Asked.{pairs_asked, pairs_at}
use Rattle.range_cells.proofs.asked.read_asked.Goals as goal

pub returns-in-Keys-clause-exact : goal.returns-in-Keys-clause-exact
returns-in-Keys-clause-exact g c =
    let table = state (take c.args.p c.args.stack.now.pass.view) in
    IfOk-weaker c.read_keys.result _ _ (λ pairs is. is ∙ ap (λ ks. pairs_at ks table) c.as_slice.ensures.value ∙ ap (λ touched. pairs_asked touched c.args.range.now table) (sym c.in-Keys.is))
    c.read_keys.ensures.exact
