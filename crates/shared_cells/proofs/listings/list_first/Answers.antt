use Rattle.std.proofs.Common.{sym, ◌∙◌}
use Rattle.shared_cells.proofs.ListingLemmas.{lists_one, lists_the_same}
use Rattle.shared_cells.proofs.listings.list_first.Goals as goal

pub returns-clause-listed : goal.returns-clause-listed
returns-clause-listed c = λ yes.
    lists_one c.args.join c.args.range.now c.args.id c.in_ok-listing.listing c.add.new.self c.args.joins.now.entries c.insert.new.self.entries (λ q. c.in_ok-insert.ensures.updates.0 q)
    (c.in_ok-listing.ensures ∙ sym c.requires) (c.in_ok-is_listed.ensures.added yes)

pub returns-clause-left : goal.returns-clause-left
returns-clause-left c = λ no.
    lists_the_same c.args.join c.add.new.self c.args.joins.now.entries c.insert.new.self.entries (λ q. c.in_ok-insert.ensures.updates.0 q)
    (c.in_ok-is_listed.ensures.left no ∙ c.in_ok-listing.ensures ∙ sym c.requires)
