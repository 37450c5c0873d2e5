use Rattle.shared_cells.proofs.directory.Directory.note_given.Goals as goal

pub returns : goal.returns
returns g c = c.self.view_is
