use Rattle.history_trials.proofs.SeatTrialLemmas.{pinned_asks}
use Rattle.history_trials.proofs.appends.entries_between.Goals as goal

pub entries-requires-clause-kept : goal.entries-requires-clause-kept
entries-requires-clause-kept g c = pinned_asks c.args.pass.now.mark c.args.from c.requires.pinned
