-- Which joins are kept.
use Rattle.std.specs.Prelude.{◌≡◌, ℕ}
use Rattle.semantics.specs.Joins.{Join, push}
use Rattle.semantics.specs.Histories.{History}
use Rattle.cell_slots.specs.Slots.{IsDeclared}

-- the join that was declared at a position is pushed
pub record IsKept (h : History) (at : ℕ) : Type 0 where
  pub join : Join
  pub declared : IsDeclared h at join
  pub pushed : join.kind ≡ push
