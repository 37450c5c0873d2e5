use Rattle.std.proofs.Common.{ap, ◌∙◌}
use Rattle.std.proofs.lemmas.Result.{IfOk-weaker}
use Rattle.shared_cells.specs.Spots.{number_at}
use Rattle.shared_cells.specs.Directories.{DirectoryView}
use Rattle.shared_cells.proofs.directory.Directory.cell.Goals as goal

pub returns : goal.returns
returns g c = IfOk-weaker c.cell.result _ _ (λ found e. e ∙ ap (λ (d : DirectoryView). number_at d.spots c.args.id) c.self.view_is) c.cell.ensures
