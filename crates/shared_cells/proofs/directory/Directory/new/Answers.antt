use Rattle.std.proofs.Common.{sym, subst}
use Rattle.shared_cells.specs.Listings.{Listed}
use Rattle.shared_cells.specs.Directories.{IsDirectory, directory_of}
use Rattle.shared_cells.proofs.DirectoryLemmas.{none_kept}
use Rattle.shared_cells.proofs.directory.Directory.new.Goals as goal

pub invariant_of-result : goal.invariant_of-result
invariant_of-result g c = subst (λ (listed : Listed). IsDirectory c.new-spots.result listed) (sym c.new-listings.ensures) (none_kept c.new-spots.result)

pub returns : goal.returns
returns g c = λ i. directory_of (c.new-spots.ensures i) (c.new-listings.ensures i)
