use Rattle.std.proofs.Common.{take, sym, ap, ◌∙◌}
use Rattle.semantics.specs.Joins.{is_aggregate}
use Rattle.growing_history.proofs.EnteredLemmas.{has_entered_taken, keeps_rules}
use Rattle.range_state.proofs.FillLemmas.{copies_by}
use Rattle.range_state.proofs.advancing.advance_held.Goals as goal

pub advance_rows-requires-clause-copies : goal.advance_rows-requires-clause-copies
advance_rows-requires-clause-copies c =
    let s = c.args.subject.now in
    let h = c.requires.known.0 in
    let can = c.requires.known.1 in
    copies_by s.join (keeps_rules (take c.args.p h) s.join s.rank (has_entered_taken c.args.p h can.entered) can.stands)
    (ap is_aggregate (sym c.value_op.ensures) ∙ sym c.is_aggregate.ensures ∙ c.if-is_aggregate.false)
