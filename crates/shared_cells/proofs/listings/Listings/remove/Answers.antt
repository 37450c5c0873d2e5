use Rattle.std.proofs.Common.{subst}
use Rattle.shared_cells.specs.Listings.{IsUnlisted, Listed}
use Rattle.shared_cells.proofs.listings.Listings.remove.Goals as goal

pub returns : goal.returns
returns c = subst (λ (old : Listed). IsUnlisted c.args.join c.args.range.now old c.unlist_in.new.joins.entries) c.self.view_is c.unlist_in.ensures
