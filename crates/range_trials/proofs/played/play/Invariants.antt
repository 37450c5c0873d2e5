use Rattle.range_trials.specs.Tried.{IsTried}
use Rattle.range_trials.proofs.played.play.Given as goal

abbrev pub invariant-loop-words : goal.invariant-loop-words
invariant-loop-words g l =
    (goal.iterator-loop-words g).can_next l.words-iterator ×
    (goal.iterator-loop-words g).is_finite l.words-iterator ×
    IsTried l.trial.reader.inner l.trial.changed l.trial.length l.trial.state
