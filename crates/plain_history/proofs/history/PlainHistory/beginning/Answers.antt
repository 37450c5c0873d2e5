use Rattle.std.proofs.Common.{take, sym, subst, ap, ◌∙◌}
use Rattle.semantics.specs.Histories.{History}
use Rattle.semantics.specs.Verdicts.{AllEntered}
use Rattle.growing_history.proofs.EnteredLemmas.{entered_taken}
use Rattle.plain_history.proofs.history.PlainHistory.beginning.Goals as goal

pub returns-clause-entered : goal.returns-clause-entered
returns-clause-entered c =
    subst (λ (h : History). AllEntered (take c.args.at h)) (sym c.as_slice.ensures.value) (entered_taken c.args.at c.self.inside.entries.items c.self.invariant.stands.entered)
