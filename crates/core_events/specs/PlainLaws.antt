-- Laws on what events are answered.
use Rattle.std.specs.Prelude.{◌≡◌, ℕ, length, ◌≤◌, ◌==◌, List, [], ◌∷◌, ◌++◌, filter, false, not, if◌then◌else◌, Some, None, option_map}
use Rattle.std.specs.List.{AllByRecursion}
use Rattle.std.specs.Option.{option_or}
use Rattle.semantics.specs.Texts.{Text}
use Rattle.semantics.specs.Histories.{History, IsPrefix}
use Rattle.semantics.specs.Verdicts.{AllEntered}
use Rattle.core_events.specs.Events.{Event, begin, Done, is_cell_event}
use Rattle.core_events.specs.Plain.{Scan, World, scan_of, placed, moved, freed, pairs_of, step, answers_from, world_from, plain, world_after, AnswersPlainly}

-- the events that are of no cell
abbrev pub without_cells : List Event → List Event
without_cells = filter (λ event. not (is_cell_event event))

-- events of cells change no other answer
abbrev pub CellEventsChangeNothing : Type 0
CellEventsChangeNothing = (events : List Event) → plain (without_cells events) ≡ plain events

-- nor the history and the scans
abbrev pub CellEventsLeaveWorld : Type 0
CellEventsLeaveWorld = (events : List Event) → world_after (without_cells events) ≡ world_after events

-- events in two parts are answered from the world after the first
abbrev pub PlainInParts : Type 0
PlainInParts = (events more : List Event) → plain (events ++ more) ≡ plain events ++ answers_from (world_after events) more

-- and the world after both is that after the second, from there
abbrev pub WorldInParts : Type 0
WorldInParts = (events more : List Event) → world_after (events ++ more) ≡ world_from (world_after events) more

-- an event is answered as from a world, unless it is of a cell
abbrev pub AnswersAs : Event → World → Done → Type 0
AnswersAs event world done = is_cell_event event ≡ false → (step event world).answer ≡ Some done

-- events that are answered plainly are so with one more that is answered as from the world after them
abbrev pub OneMoreAnswersPlainly : Type 0
OneMoreAnswersPlainly = (events : List Event) (answers : List Done) (event : Event) (done : Done) → AnswersPlainly events answers → AnswersAs event (world_after events) done →
    AnswersPlainly (events ++ event ∷ []) (answers ++ done ∷ [])

-- the world after one event more
abbrev pub WorldAfterOneMore : Type 0
WorldAfterOneMore = (events : List Event) (event : Event) → world_after (events ++ event ∷ []) ≡ (step event (world_after events)).world

-- ---- the scans under way

-- a scan whose place is moved has the new place; every other scan is as before
abbrev pub ScanIsMoved : Type 0
ScanIsMoved = (scans : List Scan) (number other : ℕ) (place : Text) →
    scan_of other (moved number place scans) ≡ (if other == number then option_map (placed place) (scan_of other scans) else scan_of other scans)

-- a number that is freed names no scan; every other scan is as before
abbrev pub ScanIsFreed : Type 0
ScanIsFreed = (scans : List Scan) (number other : ℕ) →
    scan_of other (freed number scans) ≡ (if other == number then None else scan_of other scans)

-- a scan that begins is found by its number, where none was; every other scan is as before
abbrev pub ScanIsBegun : Type 0
ScanIsBegun = (scans : List Scan) (scan : Scan) (other : ℕ) →
    scan_of other (scans ++ scan ∷ []) ≡ option_or (scan_of other scans) (if scan.number == other then Some scan else None)

-- two worlds with one history and, by each number, one scan
pub record LookAlike (world other : World) : Type 0 where
  pub histories : world.history ≡ other.history
  pub scans : (number : ℕ) → scan_of number world.scans ≡ scan_of number other.scans

-- worlds that look alike give the same answer, and look alike afterwards
abbrev pub LooksDecide : Type 0
LooksDecide = (event : Event) (world other : World) → LookAlike world other →
    ((step event world).answer ≡ (step event other).answer) × LookAlike (step event world).world (step event other).world

-- ---- the history

-- each entry had no cause against it at its place
abbrev pub EntriesHaveEntered : Type 0
EntriesHaveEntered = (events : List Event) → AllEntered (world_after events).history

-- the history grows
abbrev pub HistoryGrows : Type 0
HistoryGrows = (events more : List Event) → IsPrefix (world_after events).history (world_after (events ++ more)).history

-- ---- the scans and the history

-- a scan was begun by one of the events, at the length of the history after those before it
pub record WasBegun (events : List Event) (scan : Scan) : Type 0 where
  pub before : List Event
  pub after : List Event
  pub begun : events ≡ before ++ begin scan.number scan.range ∷ after
  pub position : scan.position ≡ length (world_after before).history

-- so was each scan under way
abbrev pub ScansWereBegun : Type 0
ScansWereBegun = (events : List Event) → AllByRecursion (WasBegun events) (world_after events).scans

-- none stands past the history
abbrev pub ScansStandWithin : Type 0
ScansStandWithin = (events : List Event) → AllByRecursion (λ scan. scan.position ≤ length (world_after events).history) (world_after events).scans

-- a scan has the same pairs over each longer history
abbrev pub PairsStay : Type 0
PairsStay = (scan : Scan) (h more : History) → scan.position ≤ length h → IsPrefix h more → pairs_of scan more ≡ pairs_of scan h
