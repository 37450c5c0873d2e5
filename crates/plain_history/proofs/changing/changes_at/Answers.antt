use Rattle.std.proofs.Common.{ap}
use Rattle.semantics.specs.Texts.{Text}
use Rattle.plain_history.proofs.ComparedLemmas.{among_next}
use Rattle.plain_history.proofs.changing.changes_at.Goals as goal

pub loop-pair-preserved : goal.loop-pair-preserved
loop-pair-preserved c =
    among_next _ c.loop-pair.changes.items _ c.loop-pair.pair-iterator.rest.items _ c.in-Some.pair _ c.args.before.now c.args.after.now c.in_ok-add_change.ensures (ap (λ (p : Text × Text). p.0) c.pair.view_is) c.in-Some.ensures.steps.0 c.loop-pair.invariant
