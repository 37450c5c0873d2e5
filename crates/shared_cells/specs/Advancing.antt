-- What it is to advance what a cell keeps to a position.
use Rattle.std.specs.Prelude.{◌≡◌, ℕ, ◌<◌, [], Option, Some, None, Result, OnErr, OnOk}
use Rattle.std.specs.Option.{IsSomeAnd}
use Rattle.semantics.specs.Histories.{History}
use Rattle.kept_ranges.specs.Sound.{KeptRange}
use Rattle.range_state.specs.Ready.{HasSameSubject, StandsAt, StandsOrIsForgotten}
use Rattle.range_state.specs.Asking.{AreBareThroughout}
use Rattle.cell_slots.specs.Serving.{IsCaughtUp, StandsFrom}
use Rattle.shared_cells.specs.Cells.{CellView}

-- a kept range of the same subject stands at a position, with nothing pending
pub record IsFreshAt (p : ℕ) (old new : KeptRange) : Type 0 where
  pub same : HasSameSubject old new
  pub at : StandsAt p new
  pub clear : new.kept.pending ≡ []

-- a kept range was advanced to a position, unless it stood below a floor: then it was filled there
pub record IsAdvancedFrom (floor p : ℕ) (old new : KeptRange) : Type 0 where
  pub advanced : StandsFrom floor old → IsCaughtUp p old new
  pub filled : (StandsFrom floor old → ⊥) → IsFreshAt p old new

-- where nothing was kept, nothing is, and otherwise something is, which stands so to what was
abbrev pub IsKeptBy : (KeptRange → KeptRange → Type 0) → Option KeptRange → Option KeptRange → Type 0
IsKeptBy P None new = new ≡ None
IsKeptBy P (Some s) new = IsSomeAnd new (P s)

-- what is kept, if something is, was advanced to a position, or filled there where it stood below a floor
abbrev pub AdvancesTo : ℕ → ℕ → Option KeptRange → Option KeptRange → Type 0
AdvancesTo floor p = IsKeptBy (IsAdvancedFrom floor p)

-- what is kept, if something is, is as it was, or it is forgotten
abbrev pub IsLeftOrForgotten : Option KeptRange → Option KeptRange → Type 0
IsLeftOrForgotten = IsKeptBy StandsOrIsForgotten

-- a call advances a cell to a position for a rank: where this is the cell's, what the cell keeps is advanced to it if the call succeeds, or filled there if it stands below a floor; where none is given or another, it stays as it is; where the call fails, it is as it was or forgotten
pub record AdvancesCell {T E : Type 0} (floor p : ℕ) (rank : Option ℕ) (done : Result T E) (old new : CellView) : Type 0 where
  pub advanced : rank ≡ Some old.rank → OnOk done (AdvancesTo floor p old.held new.held)
  pub left : (rank ≡ Some old.rank → ⊥) → new.held ≡ old.held
  pub failed : OnErr done (IsLeftOrForgotten old.held new.held)

-- it stands at q, below p, and the ranges of its needs are bare from there on to p
pub record StandsBare (h : History) (q p : ℕ) (s : KeptRange) : Type 0 where
  pub stands : StandsAt q s
  pub behind : q < p
  pub bare : AreBareThroughout h q p s.kept.needs

-- a call for a rank may advance what a cell keeps: the rank is the cell's, and what it keeps does not stand below a floor, but at q, below p, with bare ranges from there on to p
pub record CanAdvance (h : History) (floor q p : ℕ) (rank : Option ℕ) (cell : CellView) (s : KeptRange) : Type 0 where
  pub same : rank ≡ Some cell.rank
  pub holds : cell.held ≡ Some s
  pub from : StandsFrom floor s
  pub is_bare : StandsBare h q p s
