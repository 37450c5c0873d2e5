use Rattle.list_reader.proofs.value_tests.worked_values.Given as goal

abbrev pub ghosts-changes : goal.ghosts-changes
ghosts-changes g a = record { name = a.blank.name; parts = a.blank.parts }
