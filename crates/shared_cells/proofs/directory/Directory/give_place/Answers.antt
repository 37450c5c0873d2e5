use Rattle.std.proofs.Common.{IfOk, OnErr, subst}
use Rattle.shared_cells.specs.Directories.{DirectoryView, GivesCell, IsSame, directory_of}
use Rattle.shared_cells.proofs.DirectoryLemmas.{given_kept}
use Rattle.shared_cells.proofs.directory.Directory.give_place.Goals as goal

pub invariant_of-self : goal.invariant_of-self
invariant_of-self g c =
    given_kept c.give_in.result c.args.join c.args.range.now c.self.inside.spots c.give_in.new.spots c.self.inside.listings c.give_in.new.listings c.give_in.ensures.given c.give_in.ensures.err c.self.invariant

pub returns-clause-given : goal.returns-clause-given
returns-clause-given g c =
    subst (λ (d : DirectoryView). IfOk c.give_in.result (GivesCell c.args.join c.args.range.now d (directory_of c.give_in.new.spots c.give_in.new.listings))) c.self.view_is c.give_in.ensures.given

pub returns-clause-err : goal.returns-clause-err
returns-clause-err g c =
    subst (λ (d : DirectoryView). OnErr c.give_in.result (IsSame d (directory_of c.give_in.new.spots c.give_in.new.listings))) c.self.view_is c.give_in.ensures.err
