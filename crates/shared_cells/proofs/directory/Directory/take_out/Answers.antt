use Rattle.std.proofs.Common.{MatchOption, subst}
use Rattle.shared_cells.specs.Directories.{DirectoryView, IsLetGo, NoneIsLetGo, directory_of}
use Rattle.shared_cells.proofs.DirectoryLemmas.{out_kept}
use Rattle.shared_cells.proofs.directory.Directory.take_out.Goals as goal

pub invariant_of-self : goal.invariant_of-self
invariant_of-self g c = out_kept c.take_in.result c.args.id c.self.inside.spots c.take_in.new.spots c.self.inside.listings c.take_in.new.listings c.take_in.ensures c.self.invariant

pub returns : goal.returns
returns g c =
    let after = directory_of c.take_in.new.spots c.take_in.new.listings in
    subst (λ (d : DirectoryView). MatchOption c.take_in.result (NoneIsLetGo c.args.id d after) (λ _. IsLetGo c.args.id d after)) c.self.view_is c.take_in.ensures
