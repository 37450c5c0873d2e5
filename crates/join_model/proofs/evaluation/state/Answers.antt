use Rattle.std.proofs.Common.{◌≡◌, sym, ◌∙◌}
use Rattle.std.proofs.lemmas.Result.{IfOk-weaker}
use Rattle.semantics.specs.Texts.{Table}
use Rattle.semantics.specs.States.{below, state}
use Rattle.semantics.proofs.StateLemmas.{state-below}
use Rattle.join_model.proofs.evaluation.state.Goals as goal

pub returns : goal.returns
returns c = IfOk-weaker c.state_below.result
    (λ (t : Table). t ≡ below c.args.entries.now 8)
    (λ (t : Table). t ≡ state c.args.entries.now)
    (λ t e. e ∙ sym (state-below c.args.entries.now))
    c.state_below.ensures
