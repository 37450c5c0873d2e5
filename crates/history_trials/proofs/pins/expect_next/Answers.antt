use Rattle.std.proofs.Common.{◌∙◌}
use Rattle.history_trials.proofs.SeatTrialLemmas.{asks_from_note}
use Rattle.history_trials.proofs.pins.expect_next.Goals as goal

pub entries-asked-requires-clause-kept : goal.entries-asked-requires-clause-kept
entries-asked-requires-clause-kept g c = asks_from_note c.look-length.new.pass.mark c.args.noted (c.look-length.ensures.goes_on.same_mark ∙ c.requires.noted)
