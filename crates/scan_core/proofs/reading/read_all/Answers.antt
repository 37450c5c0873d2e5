use Rattle.std.proofs.Common.{take, sym, ap, ◌∙◌}
use Rattle.std.proofs.lemmas.Result.{IfOk-weaker}
use Rattle.semantics.specs.Texts.{pairs_within}
use Rattle.semantics.proofs.StateLemmas.{state-below}
use Rattle.scan_core.proofs.reading.read_all.Goals as goal

pub returns-clause-exact : goal.returns-clause-exact
returns-clause-exact g c =
    IfOk-weaker c.pairs-found.result _ _ (λ pairs is. is ∙ ap (pairs_within c.args.range.now) (sym (state-below (take c.args.p c.args.core.now.history)))) c.pairs-found.ensures.exact
