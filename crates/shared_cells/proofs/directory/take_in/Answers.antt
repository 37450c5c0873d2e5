use Rattle.std.proofs.Common.{ap}
use Rattle.shared_cells.specs.Directories.{directory_of}
use Rattle.shared_cells.proofs.directory.take_in.Goals as goal

pub returns-in_default : goal.returns-in_default
returns-in_default g c = record { none = c.in_default.ensures.none; same = ap (λ spots. directory_of spots c.args.listings.now) c.in_default.ensures.same }

pub returns : goal.returns
returns g c = record { join = c.in-Some.out.join; range = c.in-Some.out.range; was = c.in-Some.ensures.was; stands = c.in-Some.ensures.stands; listed = c.remove.ensures }
