use Rattle.shared_cells.proofs.directory.Directory.kept_part.Goals as goal

pub returns-clause-same : goal.returns-clause-same
returns-clause-same g c = c.self.view_is
