use Rattle.std.proofs.Common.{length}
use Rattle.cache_trials.proofs.PassLemmas.{all_write}
use Rattle.cache_trials.proofs.kept.keep_seats.Goals as goal

pub returns : goal.returns
returns g c = all_write g.N.Naming.history (length c.args.seats.clients.items) c.args.seats.clients.items c.requires.seats.clients
