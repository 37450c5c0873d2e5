use Rattle.history_trials.proofs.seats.unpin.Goals as goal

pub unpin-requires-clause-pinned : goal.unpin-requires-clause-pinned
unpin-requires-clause-pinned g c = (c.args._at, c.requires.pinned)
