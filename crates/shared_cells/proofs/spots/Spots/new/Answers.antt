use Rattle.std.proofs.Common.{length}
use Rattle.shared_cells.proofs.SpotLemmas.{none_used}
use Rattle.shared_cells.proofs.spots.Spots.new.Goals as goal

pub returns : goal.returns
returns g c = none_used c.new-spots.result.items (length c.args.passes.items) c.new-spots.ensures.items
