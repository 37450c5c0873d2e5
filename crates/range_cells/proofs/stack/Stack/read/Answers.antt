use Rattle.std.proofs.Common.{◌≡◌, take, IfOk, sym, ap, ◌∙◌, subst}
use Rattle.std.proofs.lemmas.Result.{IfOk-weaker}
use Rattle.semantics.specs.Texts.{pairs_within}
use Rattle.semantics.specs.States.{state}
use Rattle.semantics.proofs.StateLemmas.{state-below}
use Rattle.shared_reader.specs.Lent.{LentPass}
use Rattle.range_cells.proofs.stack.Stack.read.Goals as goal

pub returns-clause-exact : goal.returns-clause-exact
returns-clause-exact g c =
    subst (λ (v : LentPass). IfOk c.pairs.result (λ pairs. pairs.items ≡ pairs_within c.args.range.now (state (take c.args.p v.pass.view)))) c.self.view_is
    (IfOk-weaker c.pairs.result _ _ (λ pairs is. is ∙ ap (pairs_within c.args.range.now) (sym (state-below (take c.args.p c.self.inside.lowest.pass.view)))) c.pairs.ensures.exact)
