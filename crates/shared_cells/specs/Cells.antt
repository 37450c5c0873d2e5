-- A cell as contracts see it, and what is true of it whenever its lock is free.
use Rattle.std.specs.Prelude.{◌≡◌, ℕ, ◌≤◌, ◌⊎◌, [], length, Option, IfSome, Some, None}
use Rattle.semantics.specs.Texts.{Range}
use Rattle.semantics.specs.Histories.{History}
use Rattle.layering.specs.Parts.{IsWithin}
use Rattle.write_history.specs.Passes.{HistoryId, PassView}
use Rattle.kept_ranges.specs.Sound.{KeptRange}
use Rattle.range_state.specs.Ready.{IsReady, StandsAt}
use Rattle.cell_slots.specs.Serving.{IsPast, IsTooWide, StandsFrom}
use Rattle.cell_slots.specs.Slots.{IsRightFor}

-- the position of the join's declaration, the rank and the range that the cell is for, what is kept of it, and the cell's pass
pub record CellView : Type 0 where
  pub at : ℕ
  pub rank : ℕ
  pub range : Range
  pub held : Option KeptRange
  pub pass : PassView

-- what a cell holds is of the join that was declared at the position, kept with just the cell's rank and of just its range, and right for what the pass has seen
pub record IsRightIn (at rank : ℕ) (range : Range) (pass : PassView) (s : KeptRange) : Type 0 where
  pub right : IsRightFor pass.view at s
  pub ranked : s.rank ≡ rank
  pub just : s.range ≡ range

-- the pass is of the history, and what is kept is right
pub record IsCell (history : HistoryId) (at rank : ℕ) (range : Range) (held : Option KeptRange) (pass : PassView) : Type 0 where
  pub same_history : pass.history ≡ history
  pub right : IfSome held (IsRightIn at rank range pass)

-- the cell is for the range of the join, and for the rank of it, that it was for
pub record HasSamePlace (old new : CellView) : Type 0 where
  pub at : new.at ≡ old.at
  pub rank : new.rank ≡ old.rank
  pub range : new.range ≡ old.range

-- a cell is for the join that was declared at a position while it has this rank, and for a range that has the whole part
pub record IsCellFor (cell : CellView) (at rank : ℕ) (part : Range) : Type 0 where
  pub is_of : cell.at ≡ at
  pub ranked : cell.rank ≡ rank
  pub whole : IsWithin part cell.range

-- nothing of its range is kept in a cell
abbrev pub KeepsNothing : Option KeptRange → Type 0
KeepsNothing held = IfSome held (λ s. s.position ≡ None)

-- what a cell keeps has no more than so many needs, if it keeps something
abbrev pub KeepsWithin : ℕ → Option KeptRange → Type 0
KeepsWithin most held = IfSome held (λ s. length s.kept.needs ≤ most)

-- what is taken out of a cell is what the cell kept, or keeps nothing yet
abbrev pub IsHeldOrEmpty : Option KeptRange → KeptRange → Type 0
IsHeldOrEmpty held s = (held ≡ Some s) ⊎ ((s.position ≡ None) × (s.kept.needs ≡ []))

-- what a cell keeps is what it kept, or stands at a position, or nothing is kept
abbrev pub IsHeldOrStandsAt : ℕ → Option KeptRange → Option KeptRange → Type 0
IsHeldOrStandsAt p old new = IfSome new (λ s. (old ≡ Some s) ⊎ ((s.position ≡ None) ⊎ StandsAt p s))

-- what is taken out of a cell can be read over a part of its range, for the join that was declared at a position, with this rank: it is right, and does not stand past a position
pub record IsLentFor (cell : CellView) (at rank p : ℕ) (part : Range) (s : KeptRange) : Type 0 where
  pub is_for : IsCellFor cell at rank part
  pub right : IsRightIn cell.at cell.rank cell.range cell.pass s
  pub upto : IsPast p s → ⊥

-- a cell can serve a part at a position: it is for the join and the rank, it has the whole part, and what it keeps does not stand past the position
pub record CanServe (cell : CellView) (at rank p : ℕ) (part : Range) : Type 0 where
  pub is_for : IsCellFor cell at rank part
  pub upto : IfSome cell.held (λ s. IsPast p s → ⊥)

-- what a cell keeps can be taken out of it for a part and a position: the cell can serve the part there, and keeps it, and it does not stand below a floor
pub record CanBeLent (cell : CellView) (at rank p floor : ℕ) (part : Range) (s : KeptRange) : Type 0 where
  pub serves : CanServe cell at rank p part
  pub holds : cell.held ≡ Some s
  pub from : StandsFrom floor s

-- the cell can be read over a part at a position: it is for the join and the rank, it has the whole part, and it holds a kept range that is ready there
pub record IsReadyCell (cell : CellView) (at rank p : ℕ) (part : Range) : Type 0 where
  pub is_for : IsCellFor cell at rank part
  pub state : KeptRange
  pub holds : cell.held ≡ Some state
  pub ready : IsReady p part state

-- the cell is too wide at a position: it keeps nothing, and filling its range takes more than so many needs there
pub record IsWideCell (most : ℕ) (h : History) (p : ℕ) (cell : CellView) : Type 0 where
  pub state : KeptRange
  pub holds : cell.held ≡ Some state
  pub wide : IsTooWide most h p state
