use Rattle.std.proofs.Common.{◌≤◌, subst}
use Rattle.evict_book.specs.Books.{total_weight}
use Rattle.cell_table.specs.Stores.{AreBooked, Store}
use Rattle.cell_table.proofs.table.CellTable.look.Goals as goal

pub returns-clause-booked : goal.returns-clause-booked
returns-clause-booked c = subst (λ (t : Store). AreBooked t.holdings.slots t.book) c.self.view_is c.self.invariant.booked

pub returns-clause-fits : goal.returns-clause-fits
returns-clause-fits c = subst (λ (t : Store). total_weight t.book ≤ t.limit) c.self.view_is c.self.invariant.fits
