use Rattle.semantics.specs.Verdicts.{AllEntered}
use Rattle.join_set.specs.Summaries.{StandsFor}
use Rattle.row_texts.proofs.telling.tell.Given as goal

abbrev pub invariant-loop-line : goal.invariant-loop-line
invariant-loop-line l =
    goal.iterator-loop-line.can_next l.line-iterator ×
    goal.iterator-loop-line.is_finite l.line-iterator ×
    AllEntered l.told.entries.items ×
    StandsFor l.told.standing l.told.entries.items
