use Rattle.cache_trials.proofs.playing.look_there.Given as goal

abbrev pub ghosts-read_at : goal.ghosts-read_at
ghosts-read_at g a = record { name = a.blank.name; parts = a.blank.parts }

abbrev pub ghosts-scan_at : goal.ghosts-scan_at
ghosts-scan_at g a = record { name = a.blank.name; parts = a.blank.parts }
