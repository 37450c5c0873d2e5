use Rattle.shared_cells.proofs.CellLemmas.{cell_goes_on}
use Rattle.shared_cells.proofs.cell.Cell.meet.Goals as goal

pub invariant_of-self : goal.invariant_of-self
invariant_of-self g c = cell_goes_on g.N.Naming.history c.self.inside.held c.self.inside.at c.self.inside.rank c.self.inside.range c.self.inside.pass c.meet.new.pass c.meet.ensures.goes_on c.self.invariant
