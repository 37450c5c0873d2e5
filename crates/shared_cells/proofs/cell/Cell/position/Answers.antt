use Rattle.std.proofs.Common.{ℕ, ◌≤◌, length, Option, IfSome, sym, subst}
use Rattle.kept_ranges.specs.Sound.{KeptRange}
use Rattle.shared_cells.specs.Cells.{CellView, IsRightIn}
use Rattle.shared_cells.proofs.CellLemmas.{stands_within}
use Rattle.shared_cells.proofs.cell.Cell.position.Goals as goal

pub returns-in-Some-clause-within : goal.returns-in-Some-clause-within
returns-in-Some-clause-within g c =
    let right = subst (λ (o : Option KeptRange). IfSome o (IsRightIn c.self.inside.at c.self.inside.rank c.self.inside.range c.self.inside.pass)) c.in-Some.is c.self.invariant.right in
    subst (λ (cell : CellView). IfSome c.position.result (λ q. q ≤ length cell.pass.view)) c.self.view_is
    (subst (λ (o : Option ℕ). IfSome o (λ q. q ≤ length c.self.inside.pass.view)) (sym c.position.ensures) (stands_within c.in-Some.state c.self.inside.pass.view right.right.sound))
