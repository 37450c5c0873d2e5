use Rattle.cache_trials.proofs.playing.play_line.Given as goal

abbrev pub ghosts-turn_at_end : goal.ghosts-turn_at_end
ghosts-turn_at_end g a = record { name = a.blank.name; parts = a.blank.parts }

abbrev pub ghosts-feed_since : goal.ghosts-feed_since
ghosts-feed_since g a = record { name = a.blank.name; parts = a.blank.parts }
