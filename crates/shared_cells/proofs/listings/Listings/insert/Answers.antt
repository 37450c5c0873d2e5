use Rattle.std.proofs.Common.{◌≡◌, true, false, IfOk, OnErr, subst}
use Rattle.shared_cells.specs.Listings.{IsListed, Listed, StayListed}
use Rattle.shared_cells.proofs.listings.Listings.insert.Goals as goal

pub returns-clause-listed : goal.returns-clause-listed
returns-clause-listed c =
    subst (λ (old : Listed). IfOk c.list_in.result (λ is_listed. is_listed ≡ true → IsListed c.args.join c.args.range.now c.args.id old c.list_in.new.joins.entries)) c.self.view_is c.list_in.ensures.listed

pub returns-clause-left : goal.returns-clause-left
returns-clause-left c = subst (λ (old : Listed). IfOk c.list_in.result (λ is_listed. is_listed ≡ false → StayListed old c.list_in.new.joins.entries)) c.self.view_is c.list_in.ensures.left

pub returns-clause-err : goal.returns-clause-err
returns-clause-err c = subst (λ (old : Listed). OnErr c.list_in.result (StayListed old c.list_in.new.joins.entries)) c.self.view_is c.list_in.ensures.err
