-- What a cell hands out.
use Rattle.std.specs.Prelude.{ℕ, ◌+◌, ◌≤◌, length}
use Rattle.semantics.specs.Texts.{Table, Range}
use Rattle.semantics.specs.Histories.{History}
use Rattle.cell_slots.specs.Slots.{IsOutput}

-- a sink got what the join that was declared at a position, with a rank, gives in a part after p entries; that took one step, and one for each pair, at least
pub record HandsOut {S : Type 0} (got : S → S → Table → Type 0) (h : History) (p at rank : ℕ) (part : Range) (old new : S) (before after : ℕ) : Type 0 where
  pub pairs : Table
  pub output : IsOutput h p at rank part pairs
  pub taken : got old new pairs
  pub cost : before + 1 + length pairs ≤ after
