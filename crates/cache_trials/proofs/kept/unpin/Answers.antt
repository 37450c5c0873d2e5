use Rattle.cache_trials.proofs.kept.unpin.Goals as goal

pub unpin-requires-clause-pinned : goal.unpin-requires-clause-pinned
unpin-requires-clause-pinned g c = (c.args._at, c.requires.pinned)
