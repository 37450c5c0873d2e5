use Rattle.std.proofs.Common.{take, sym, subst}
use Rattle.semantics.specs.Histories.{History}
use Rattle.semantics.specs.Verdicts.{AllEntered}
use Rattle.growing_history.proofs.EnteredLemmas.{entered_taken}
use Rattle.range_trials.proofs.generated.show_afresh.Goals as goal

pub afresh-requires : goal.afresh-requires
afresh-requires g c =
    subst (λ (h : History). AllEntered (take c.args.p h)) (sym c.as_slice-entries.ensures.value) (entered_taken c.args.p c.args.told.now.entries.items c.requires)
