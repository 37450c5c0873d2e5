use Rattle.history_trials.proofs.SeatTrialLemmas.{noted_asks}
use Rattle.history_trials.proofs.appends.entries_of.Goals as goal

pub entries-requires-clause-kept : goal.entries-requires-clause-kept
entries-requires-clause-kept g c = noted_asks c.args.reader.now.mark 0 c.requires.noted
