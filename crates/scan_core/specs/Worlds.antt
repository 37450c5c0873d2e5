-- The core as one value, and what its steps do.
use Rattle.std.specs.Prelude.{◌≡◌, ◌⊎◌, ℕ, ◌+◌, ◌<◌, ◌≤◌, List, length, take, slice_get, slice_set, true, false, Option, Some, None}
use Rattle.std.specs.Option.{IsSomeAnd}
use Rattle.semantics.specs.Texts.{Range, pairs_within}
use Rattle.semantics.specs.Joins.{push}
use Rattle.semantics.specs.Histories.{History, DeclaredJoin, joins_of}
use Rattle.semantics.specs.States.{below, state}
use Rattle.key_ranges.specs.Ranges.{is_open}
use Rattle.growing_history.specs.Entered.{HasRank}
use Rattle.layering.specs.Reached.{reaches, ReachesOne}
use Rattle.kept_ranges.specs.Sound.{KeptRange}
use Rattle.range_state.specs.Ready.{StandsAt, pending_meets}
use Rattle.range_state.specs.Asking.{AreBareThroughout}
use Rattle.range_state.specs.Work.{AreBareUnder, TouchesLittle, advance_steps, mend_steps}
use Rattle.cell_slots.specs.Serving.{MendsPart, WasAdvanced, WasMended}
use Rattle.core_events.specs.Events.{Event, Done, brought, mended, evicted, nothing, append, begin, piece, advance, mend, evict, finish}
use Rattle.core_events.specs.Plain.{World, Scan, scan_of, goes_on, freed, step}
use Rattle.core_events.specs.PlainLaws.{AnswersAs, LookAlike}
use Rattle.cell_slots.specs.declared.slot.Slot.{Slot}
use Rattle.cell_slots.specs.declared.slot.Slot.TheVariants.{Free, Lent}
use Rattle.cell_slots.specs.Slots.{KeepPlaces, Holdings, IsRankAt, StandsAs, HasFree, MeetsNone, IsReadySlot, HoldsReady, HoldsJust}
use Rattle.cell_slots.specs.Spending.{base_count, row_count, StandsBehind, StandsPending}
use Rattle.scan_core.specs.Cells.{HoldsAt, IsHeldAt, HoldsNothing}
use Rattle.scan_core.specs.Progress.{next_range}

-- the history and the scans under way, in the order of their numbers; and what the cells hold
pub record CoreWorld : Type 0 where
  pub world : World
  pub cells : Holdings

-- no slot is lent
abbrev pub NoneLent : List Slot → Type 0
NoneLent slots = (id at : ℕ) (range : Range) → slice_get slots id ≡ Some (Lent at range) → ⊥

-- ---- events that are of no cell

-- an event is answered as with nothing kept, and the world goes on so
pub record StepsAs (event : Event) (before after : World) (done : Done) : Type 0 where
  pub answer : AnswersAs event before done
  pub world : LookAlike after (step event before).world

-- ---- events of cells

-- a cell may be advanced to a position: it holds a kept range that does not stand past it, it lies within the history, and the range's join stands there with some rank
pub record MayAdvance (before : CoreWorld) (id to : ℕ) : Type 0 where
  pub at : ℕ
  pub kept : KeptRange
  pub held : HoldsAt before.cells.slots id at kept
  pub upto : IsSomeAnd kept.position (λ q. to < q) → ⊥
  pub within : to ≤ length before.world.history
  pub rank : ℕ
  pub stands : IsRankAt before.world.history to at (Some rank)

-- it held a kept range, and holds one of the same declaration and range, which stands at the position; where that was kept with the rank that its join has there, and stood below, with bare ranges from there on, what no changed key touches is left; and each cell keeps its place
pub record IsAdvancedIn (h : History) (before after : List Slot) (id to : ℕ) : Type 0 where
  pub at : ℕ
  pub was : KeptRange
  pub kept : KeptRange
  pub held_before : HoldsAt before id at was
  pub held : HoldsAt after id at kept
  pub stands : StandsAt to kept
  pub range : kept.range ≡ was.range
  pub little : (q : ℕ) → HasRank (joins_of (take to h)) was.join was.rank → StandsAt q was → q < to → AreBareThroughout h q to was.kept.needs → TouchesLittle h q to was kept
  pub places : KeepPlaces before after

-- it held a kept range, and holds one of the same declaration and range at the same position, with nothing pending that meets a part; what stood somewhere was mended there for the part; and each cell keeps its place
pub record IsMendedIn (h : History) (before after : List Slot) (id : ℕ) (part : Range) : Type 0 where
  pub at : ℕ
  pub was : KeptRange
  pub kept : KeptRange
  pub held_before : HoldsAt before id at was
  pub held : HoldsAt after id at kept
  pub range : kept.range ≡ was.range
  pub position : kept.position ≡ was.position
  pub clear : pending_meets kept part ≡ false
  pub places : KeepPlaces before after
  pub mends : (q : ℕ) → StandsAt q was → MendsPart h q part was kept

-- what an event does to cells: one that is of no cell, and no piece of a scan, leaves what the slots have; one of a cell is answered that there was nothing to do exactly where that is so, and otherwise what was done
abbrev pub CellSteps : Event → CoreWorld → CoreWorld → Done → Type 0
CellSteps (append client write) before after done = after.cells.slots ≡ before.cells.slots
CellSteps (begin scan range) before after done = after.cells.slots ≡ before.cells.slots
CellSteps (piece scan upto) before after done = Unit {0}
CellSteps (finish scan) before after done = after.cells.slots ≡ before.cells.slots
CellSteps (advance cell to) before after done =
    ((done ≡ brought) × MayAdvance before cell to × IsAdvancedIn before.world.history before.cells.slots after.cells.slots cell to) ⊎ ((done ≡ nothing) × (MayAdvance before cell to → ⊥) × (after.cells.slots ≡ before.cells.slots))
CellSteps (mend cell range) before after done =
    ((done ≡ mended) × IsMendedIn before.world.history before.cells.slots after.cells.slots cell range) ⊎ ((done ≡ nothing) × HoldsNothing before.cells.slots cell × (after.cells.slots ≡ before.cells.slots))
CellSteps (evict cell) before after done =
    ((done ≡ evicted) × IsHeldAt before.cells.slots cell × (after.cells.slots ≡ slice_set before.cells.slots cell Free)) ⊎ ((done ≡ nothing) × HoldsNothing before.cells.slots cell × (after.cells.slots ≡ before.cells.slots))

-- the rank with which a cell may be advanced to a position: that of its join there; or it may not be
abbrev pub IsRankTo : CoreWorld → ℕ → ℕ → Option ℕ → Type 0
IsRankTo before id to None = MayAdvance before id to → ⊥
IsRankTo before id to (Some rank) =
    MayAdvance before id to × ((at : ℕ) (s : KeptRange) → HoldsAt before.cells.slots id at s → HasRank (joins_of (take to before.world.history)) s.join rank)

-- a world without the scan with a number
abbrev pub without_scan : ℕ → World → World
without_scan number world = record { history = world.history; scans = freed number world.scans }

-- ---- work saved

-- of all joins that stand a range reaches the output of one alone, a push join
pub record ReachesPush (joins : List DeclaredJoin) (range : Range) (place : ℕ) (s : DeclaredJoin) : Type 0 where
  pub one : ReachesOne range joins place s
  pub reached : reaches range s ≡ true
  pub pushed : s.join.kind ≡ push

-- what stood behind in a slot was advanced for a range, with so many steps beside what that costs, and no more than some number; the slot holds what that leaves, or was freed since
pub record LeavesAdvanced (h : History) (slots : List Slot) (id at q p : ℕ) (range : Range) (s : KeptRange) (most added : ℕ) : Type 0 where
  pub state : KeptRange
  pub beside : ℕ
  pub few : beside ≤ most
  pub was : WasAdvanced h q p range s state beside added
  pub left : HoldsAt slots id at state ⊎ (slice_get slots id ≡ Some Free)

-- so it was of what stood there with something pending, which was mended
pub record LeavesMended (h : History) (slots : List Slot) (id at p : ℕ) (range : Range) (s : KeptRange) (most added : ℕ) : Type 0 where
  pub state : KeptRange
  pub beside : ℕ
  pub few : beside ≤ most
  pub was : WasMended h p range s state beside added
  pub left : HoldsAt slots id at state ⊎ (slice_get slots id ≡ Some Free)

-- a piece of a scan after p entries over a range that is not empty and reaches one output alone, with so many steps: where that join has rank 0 and may be kept, a cell holds just the range afterwards; where a cell could be read over it, it took at most two steps beside the range's base pairs and its pairs of the state, and a cell that could be read over it holds the same afterwards, where that fits the limit by itself; and what a cell that has the range held behind, with the rank that its join has, is advanced, and mended where something is pending then, with no more steps beside; what it held there with something pending is mended so
pub record PieceSpends (h : History) (before after : Holdings) (p : ℕ) (range : Range) (added : ℕ) : Type 0 where
  pub kept : (place : ℕ) (s : DeclaredJoin) → ReachesPush (joins_of (take p h)) range place s → is_open range ≡ true →
      StandsAs h p s.position 0 s.join → HasFree before.slots → MeetsNone before.slots s.position range → row_count h p range 0 s.join + 1 ≤ before.setting.room →
      HoldsJust after.slots s.position p range
  pub used : (place : ℕ) (s : DeclaredJoin) → ReachesPush (joins_of (take p h)) range place s → is_open range ≡ true →
      HoldsReady before.slots s.position p range →
      added ≤ 2 + base_count h p range + length (pairs_within range (state (take p h)))
  pub stays : (place : ℕ) (s : DeclaredJoin) → ReachesPush (joins_of (take p h)) range place s → is_open range ≡ true →
      (id : ℕ) (held : KeptRange) → IsReadySlot before.slots id s.position p range held → length held.kept.rows + 1 ≤ before.setting.room →
      IsReadySlot after.slots id s.position p range held
  pub behind : (place : ℕ) (s : DeclaredJoin) → ReachesPush (joins_of (take p h)) range place s → is_open range ≡ true →
      (id q : ℕ) (held : KeptRange) → StandsAs h p s.position held.rank s.join → StandsBehind h before.slots id s.position q p range held →
      LeavesAdvanced h after.slots id s.position q p range held (2 + base_count h p range + length (pairs_within range (state (take p h)))) added
  pub pending : (place : ℕ) (s : DeclaredJoin) → ReachesPush (joins_of (take p h)) range place s → is_open range ≡ true →
      (id : ℕ) (held : KeptRange) → StandsAs h p s.position held.rank s.join → StandsPending before.slots id s.position p range held →
      LeavesMended h after.slots id s.position p range held (2 + base_count h p range + length (pairs_within range (state (take p h)))) added

-- what each piece that is answered costs and leaves; and what it costs to bring a cell forward: where its kept range stands below, with the rank that its join has at the position, and the ranges of its needs are bare from there on, no more than an advance takes; and to mend one where the ranges that are read for it are bare, no more than a mend takes. A write, the beginning and the end of a scan and an eviction take no step
abbrev pub StepSpends : Event → CoreWorld → CoreWorld → ℕ → Type 0
StepSpends (append client write) before after added = added ≡ 0
StepSpends (begin scan range) before after added = added ≡ 0
StepSpends (piece number upto) before after added =
    (scan : Scan) → scan_of number before.world.scans ≡ Some scan → goes_on upto scan ≡ true → PieceSpends before.world.history before.cells after.cells scan.position (next_range scan upto) added
StepSpends (advance cell to) before after added =
    (at q : ℕ) (s : KeptRange) → HoldsAt before.cells.slots cell at s → HasRank (joins_of (take to before.world.history)) s.join s.rank → StandsAt q s → q < to → to ≤ length before.world.history →
    AreBareThroughout before.world.history q to s.kept.needs → added ≤ advance_steps before.world.history q to s.kept.needs
StepSpends (mend cell range) before after added =
    (at q : ℕ) (s : KeptRange) → HoldsAt before.cells.slots cell at s → StandsAt q s → AreBareUnder s before.world.history q range → added ≤ mend_steps s (below (take q before.world.history) s.rank) range
StepSpends (evict cell) before after added = added ≡ 0
StepSpends (finish scan) before after added = added ≡ 0
