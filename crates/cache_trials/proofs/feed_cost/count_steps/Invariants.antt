use Rattle.cache_trials.proofs.feed_cost.count_steps.Given as goal

abbrev pub ghosts-read_at : goal.ghosts-read_at
ghosts-read_at g a = record { name = a.blank.name; parts = a.blank.parts }

abbrev pub ghosts-feed_since : goal.ghosts-feed_since
ghosts-feed_since g a = record { name = a.blank.name; parts = a.blank.parts }
