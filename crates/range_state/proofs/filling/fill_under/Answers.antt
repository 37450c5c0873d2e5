use Rattle.std.proofs.Common.{take, ◌∙◌, sym, ap}
use Rattle.semantics.specs.Joins.{is_aggregate}
use Rattle.growing_history.proofs.EnteredLemmas.{has_entered_taken, keeps_rules}
use Rattle.range_state.proofs.FillLemmas.{copies_by}
use Rattle.range_state.proofs.filling.fill_under.Goals as goal

pub fill_copies-requires-clause-copies : goal.fill_copies-requires-clause-copies
fill_copies-requires-clause-copies g c =
    let s = c.args.subject.now in
    let h = g.R.Reader.list c.args.reader.now in
    copies_by s.join (keeps_rules (take c.args.p h) s.join s.rank (has_entered_taken c.args.p h c.requires.entered) c.requires.stands)
    (ap is_aggregate (sym c.requires.operator) ∙ sym c.is_aggregate.ensures ∙ c.if-is_aggregate.false)
