-- What one kept range gives for a piece of a range at a position.
use Rattle.std.specs.Prelude.{◌≡◌, ℕ, ◌+◌, ◌<◌, ◌≤◌, ◌⊎◌, filter, length, not, take, true, false, Option, IfSome, None}
use Rattle.std.specs.Option.{IsSomeAnd}
use Rattle.semantics.specs.Texts.{Table, Range, pairs_within}
use Rattle.semantics.specs.Histories.{History}
use Rattle.semantics.specs.Outputs.{out}
use Rattle.semantics.specs.States.{below}
use Rattle.range_evaluation.specs.Trees.{reading_steps}
use Rattle.lazy_log.specs.Pending.{meets_output}
use Rattle.join_rows.specs.Kept.{AddsEach}
use Rattle.kept_ranges.specs.Notes.{noted}
use Rattle.kept_ranges.specs.Sound.{KeptRange}
use Rattle.range_state.specs.Asking.{AreBareThroughout}
use Rattle.range_state.specs.Ready.{HasSameSubject, IsReady, pending_meets, StandsAt, StandsOrIsForgotten}
use Rattle.range_state.specs.Work.{advance_steps, AreBareUnder, fill_needs, meeting, MendsTooMany, mend_notes, mend_steps, needs_under_each, TakesTooMany, TouchesLittle}

-- it stands past a position
abbrev pub IsPast : ℕ → KeptRange → Type 0
IsPast p s = IsSomeAnd s.position (λ q. p < q)

-- it stands below a position
abbrev pub StandsBelow : ℕ → KeptRange → Type 0
StandsBelow p s = IsSomeAnd s.position (λ q. q < p)

-- it stands nowhere, or not below a floor
abbrev pub StandsFrom : ℕ → KeptRange → Type 0
StandsFrom floor s = IfSome s.position (λ q. floor ≤ q)

-- a kept range of the same subject: where it stood below a position it stands there, and otherwise it is as it was
pub record IsCaughtUp (p : ℕ) (old new : KeptRange) : Type 0 where
  pub same : HasSameSubject old new
  pub at : StandsBelow p old → StandsAt p new
  pub still : StandsFrom p old → new ≡ old

-- it stands where it stood, or it is forgotten, or it stands at a position
abbrev pub IsLeftOrStandsAt : ℕ → KeptRange → KeptRange → Type 0
IsLeftOrStandsAt p old new = StandsOrIsForgotten old new ⊎ StandsAt p new

-- filling a kept range at a position counts what it reads: one step at least for each of the ranges that are read, and one for each pair in it
abbrev pub CountsFill : History → ℕ → KeptRange → ℕ → ℕ → Type 0
CountsFill h p s before after = before + reading_steps (fill_needs s.join s.range (below (take p h) s.rank)) (below (take p h) s.rank) ≤ after

-- bringing a kept range forward to a position counts what it asks: one step at least for each need, or what filling it there reads
abbrev pub CountsForward : History → ℕ → KeptRange → ℕ → ℕ → Type 0
CountsForward h p s before after = (before + length s.kept.needs ≤ after) ⊎ CountsFill h p s before after

-- so does bringing it there from where it stands, and where nothing is kept, filling it
pub record CountsReach (h : History) (p : ℕ) (s : KeptRange) (before after : ℕ) : Type 0 where
  pub filled : s.position ≡ None → CountsFill h p s before after
  pub forward : (q : ℕ) → StandsAt q s → q < p → CountsForward h p s before after

-- what stood at p was mended there for a part: the slots that meet it are pending no more, the needs under them are added, each once, and each of them is noted
pub record MendsPart (h : History) (p : ℕ) (part : Range) (old new : KeptRange) : Type 0 where
  pub same : HasSameSubject old new
  pub at : StandsAt p new
  pub left : new.kept.pending ≡ filter (λ given. not (meets_output old.join.output part given)) old.kept.pending
  pub needs : AddsEach (needs_under_each old.join old.range (below (take p h) old.rank) (meeting old part)) old.kept.needs new.kept.needs
  pub notes : new.notes ≡ noted old.notes (mend_notes p (meeting old part))

-- and it took so many steps at least, and no more where what is read under these slots is bare
pub record WasMended (h : History) (p : ℕ) (part : Range) (old new : KeptRange) (before after : ℕ) : Type 0 where
  pub mends : MendsPart h p part old new
  pub least : before + mend_steps old (below (take p h) old.rank) part ≤ after
  pub cost : AreBareUnder old h p part → after ≤ before + mend_steps old (below (take p h) old.rank) part

-- a kept range that stood at q, below p, was advanced to p: that touched little, counted what it asked, and took so many steps at most; it is left so where nothing pending meets a part, and otherwise was mended for it
pub record WasAdvanced (h : History) (q p : ℕ) (part : Range) (old new : KeptRange) (before after : ℕ) : Type 0 where
  pub mid : KeptRange
  pub same : HasSameSubject old mid
  pub at : StandsAt p mid
  pub little : TouchesLittle h q p old mid
  pub between : ℕ
  pub least : CountsForward h p old before between
  pub cost : between ≤ before + advance_steps h q p old.kept.needs
  pub alone : pending_meets mid part ≡ false → (new ≡ mid) × (after ≡ between)
  pub mended : pending_meets mid part ≡ true → WasMended h p part mid new between after

-- the output of its join after p entries, in the common part of its range and a piece
abbrev pub output_within : KeptRange → History → ℕ → Range → Table
output_within s h p piece = pairs_within piece (pairs_within s.range (out s.join (below (take p h) s.rank)))

-- once a kept range is brought to a position, something pending meets a part, and its needs, with those that are found when it is mended for the part, are more than are allowed: what stood there is as it was, and what stood below, with bare ranges from there on, was advanced
pub record MendsWide (most : Option ℕ) (h : History) (p : ℕ) (part : Range) (old : KeptRange) : Type 0 where
  pub mid : KeptRange
  pub same : HasSameSubject old mid
  pub stands : StandsAt p mid
  pub still : StandsAt p old → mid ≡ old
  pub little : (q : ℕ) → StandsAt q old → q < p → AreBareThroughout h q p old.kept.needs → TouchesLittle h q p old mid
  pub meets : pending_meets mid part ≡ true
  pub many : MendsTooMany most (below (take p h) mid.rank) part mid

-- a kept range that does not stand at a position, nor below with bare ranges from there on, takes more needs than are allowed to fill it there
pub record FillsWide (most : Option ℕ) (h : History) (p : ℕ) (old : KeptRange) : Type 0 where
  pub away : StandsAt p old → ⊥
  pub unknown : (q : ℕ) → StandsAt q old → q < p → AreBareThroughout h q p old.kept.needs → ⊥
  pub many : TakesTooMany most h p old

-- to be read over a part at a position, a kept range takes more needs than are allowed: to fill it, where it cannot be advanced, or once it is mended
abbrev pub HasTooMany : Option ℕ → History → ℕ → Range → KeptRange → Type 0
HasTooMany most h p part old = FillsWide most h p old ⊎ MendsWide most h p part old

-- a kept range is too wide at a position: filling it takes more than so many needs, and nothing is kept
pub record IsTooWide (most : ℕ) (h : History) (p : ℕ) (s : KeptRange) : Type 0 where
  pub nothing : s.position ≡ None
  pub many : most < length (fill_needs s.join s.range (below (take p h) s.rank))

-- these are the pairs of a piece that a kept range gives at a position, where it keeps so many needs at most: it is ready there, or too wide
pub record ServesUpTo (most : ℕ) (h : History) (p : ℕ) (piece : Range) (old new : KeptRange) (pairs : Table) : Type 0 where
  pub output : pairs ≡ output_within old h p piece
  pub kept : IsReady p piece new ⊎ IsTooWide most h p new
