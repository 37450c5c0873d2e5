use Rattle.history_trials.proofs.pins.expect_joins.Goals as goal

pub reach-first-requires-clause-pinned : goal.reach-first-requires-clause-pinned
reach-first-requires-clause-pinned g c = (c.args.at, c.requires.pinned)
