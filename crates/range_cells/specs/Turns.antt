-- What a turn says.
use Rattle.std.specs.Prelude.{◌≡◌, ℕ, ◌+◌, ◌≤◌, length, None, Option, Result, Ok, Err, IfSome, MatchOption, OnOk}
use Rattle.std.specs.Option.{IsSomeAnd}
use Rattle.semantics.specs.Histories.{History}
use Rattle.kept_ranges.specs.Sound.{KeptRange}
use Rattle.range_state.specs.Work.{advance_steps, TouchesLittle}
use Rattle.shared_cells.specs.Advancing.{CanAdvance}
use Rattle.shared_cells.specs.Cells.{CellView, IsWideCell}
use Rattle.range_cells.specs.declared.turning.Turn.{Turn}
use Rattle.range_cells.specs.declared.turning.Turn.TheVariants.{Brought, TooWide, Idle, OutOfMemory}

-- where a cell was brought forward, it stands after no more entries than there are
abbrev pub IsWithinView : Turn → History → Type 0
IsWithinView (Brought id position) view = IfSome position (λ q. q ≤ length view)
IsWithinView (TooWide id) view = Unit {0}
IsWithinView Idle view = Unit {0}
IsWithinView (OutOfMemory _) view = Unit {0}

-- what a turn says of the cell with a number that it was lent, to bring it to a position with so many needs at most: it names it, and says where that stands then, or that it is too wide; or no memory was found
abbrev pub TellsCell : ℕ → History → ℕ → ℕ → CellView → Turn → Type 0
TellsCell most h p id cell (Brought number position) = (number ≡ id) × MatchOption cell.held (position ≡ None) (λ s. position ≡ s.position)
TellsCell most h p id cell (TooWide number) = (number ≡ id) × IsWideCell most h p cell
TellsCell most h p id cell Idle = ⊥
TellsCell most h p id cell (OutOfMemory _) = Unit {0}

-- a turn as a call that fails where the cell is too wide, or where no memory was found
abbrev pub done : Turn → Result (Unit {0}) (Unit {0})
done (Brought id position) = Ok tt
done (TooWide id) = Err tt
done Idle = Ok tt
done (OutOfMemory _) = Err tt

-- a call that brings a cell to a position for a rank, with so many steps, advances what stands behind with bare ranges: what no changed key touches is left, and it takes no more steps than an advance
pub record AdvancesLittle {T E : Type 0} (h : History) (floor p : ℕ) (rank : Option ℕ) (done : Result T E) (old new : CellView) (before after : ℕ) : Type 0 where
  pub little : (s : KeptRange) (q : ℕ) → CanAdvance h floor q p rank old s → OnOk done (IsSomeAnd new.held (TouchesLittle h q p s))
  pub cost : (s : KeptRange) (q : ℕ) → CanAdvance h floor q p rank old s → OnOk done (after ≤ before + advance_steps h q p s.kept.needs)
