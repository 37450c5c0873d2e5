use Rattle.std.proofs.Common.{ap}
use Rattle.shared_cells.specs.Directories.{DirectoryView}
use Rattle.shared_cells.proofs.DirectoryLemmas.{followed_kept}
use Rattle.shared_cells.proofs.directory.Directory.follow.Goals as goal

pub invariant_of-self : goal.invariant_of-self
invariant_of-self g c = followed_kept c.in_ok-followed.followed c.self.inside.spots c.self.inside.listings c.keep_followed.new.self c.keep_followed.ensures c.self.invariant

pub returns : goal.returns
returns g c = ap (λ (d : DirectoryView). d.spots) c.self.view_is
