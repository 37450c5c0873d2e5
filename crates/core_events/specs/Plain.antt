-- `Plain`: what events are answered, with nothing kept: one fold over a history and the scans under way, in which each scan is answered whole where it finishes.
use Rattle.std.specs.Prelude.{◌≡◌, ℕ, ◌+◌, ◌&&◌, ◌==◌, List, [], ◌∷◌, ◌++◌, length, take, map, filter, find, fold, Bool, true, false, not, if◌then◌else◌, Option, Some, None, is_some, option_to_list}
use Rattle.std.specs.Ordering.{is_lt, is_le}
use Rattle.semantics.specs.Texts.{Text, text_cmp, Range, pairs_within}
use Rattle.semantics.specs.Histories.{Write, History}
use Rattle.semantics.specs.States.{state}
use Rattle.semantics.specs.Verdicts.{Cause, verdict}
use Rattle.core_events.specs.Events.{Event, append, begin, piece, advance, mend, evict, finish, Done, entered, refused, begun, answered, finished, nothing, is_cell_event}

-- a scan under way: its number, its range, the position at which it began, and its place, up to which it was answered
pub record Scan : Type 0 where
  pub number : ℕ
  pub range : Range
  pub position : ℕ
  pub place : Text

-- the history so far, and the scans under way, in the order in which they began
pub record World : Type 0 where
  pub history : History
  pub scans : List Scan

-- the world before any event
abbrev pub start : World
start = record { history = []; scans = [] }

-- the scan under way with a number, if there is one
abbrev pub scan_of : ℕ → List Scan → Option Scan
scan_of number scans = find (λ s. s.number == number) scans

-- a scan with a new place
abbrev pub placed : Text → Scan → Scan
placed place scan = record scan { place = place }

-- the scans with the place of the one with a number moved
abbrev pub moved : ℕ → Text → List Scan → List Scan
moved number place scans = map (λ s. if s.number == number then placed place s else s) scans

-- the scans without the one with a number, which is free again
abbrev pub freed : ℕ → List Scan → List Scan
freed number scans = filter (λ s. not (s.number == number)) scans

-- the answer to an event, none to one of a cell, and the world after it
pub record Step : Type 0 where
  pub answer : Option Done
  pub world : World

-- an answer and the world after it
abbrev answer_with : Done → World → Step
answer_with done world = record { answer = Some done; world = world }

-- a write enters where there is no cause against it
abbrev pub append_step : ℕ → Write → World → Option Cause → Step
append_step client write world None =
    answer_with (entered (length world.history + 1)) (record world { history = world.history ++ record { client = client; write = write } ∷ [] })
append_step client write world (Some cause) = answer_with (refused (length world.history) cause) world

-- a scan begins at the history's length, its place the range's first bound, unless one with its number is under way
abbrev pub begin_step : ℕ → Range → World → Bool → Step
begin_step number range world true = answer_with nothing world
begin_step number range world false =
    answer_with (begun (length world.history))
    (record world { scans = world.scans ++ record { number = number; range = range; position = length world.history; place = range.low } ∷ [] })

-- whether a text is above a scan's place and at most its last bound
abbrev pub goes_on : Text → Scan → Bool
goes_on upto scan = is_lt (text_cmp scan.place upto) && is_le (text_cmp upto scan.range.high)

-- a piece moves the place of its scan, where there is one and the text goes on from its place
abbrev pub piece_step : ℕ → Text → World → Option Scan → Step
piece_step number upto world None = answer_with nothing world
piece_step number upto world (Some scan) =
    if goes_on upto scan then answer_with answered (record world { scans = moved number upto world.scans }) else answer_with nothing world

-- the pairs of a scan: those of its whole range after the history's first entries, up to the position at which it began
abbrev pub pairs_of : Scan → History → List (Text × Text)
pairs_of scan h = pairs_within scan.range (state (take scan.position h))

-- a scan finishes where its place has come to its last bound, with its pairs
abbrev pub finish_step : ℕ → World → Option Scan → Step
finish_step number world None = answer_with nothing world
finish_step number world (Some scan) =
    if is_lt (text_cmp scan.place scan.range.high) then answer_with nothing world
    else answer_with (finished scan.position (pairs_of scan world.history)) (record world { scans = freed number world.scans })

-- what an event does: an event of a cell changes nothing
abbrev pub step : Event → World → Step
step (append client write) world = append_step client write world (verdict write world.history)
step (begin number range) world = begin_step number range world (is_some (scan_of number world.scans))
step (piece number upto) world = piece_step number upto world (scan_of number world.scans)
step (advance cell to) world = record { answer = None; world = world }
step (mend cell range) world = record { answer = None; world = world }
step (evict cell) world = record { answer = None; world = world }
step (finish number) world = finish_step number world (scan_of number world.scans)

-- a step's answer, before those of what follows
abbrev pub after_step : Step → (World → List Done) → List Done
after_step s more = option_to_list s.answer ++ more s.world

-- the answers to events from a world on
abbrev pub answers_from : World → List Event → List Done
answers_from world [] = []
answers_from world (event ∷ events) = after_step (step event world) (λ after. answers_from after events)

-- the world after events
abbrev pub world_from : World → List Event → World
world_from world events = fold (λ w event. (step event w).world) world events

-- `Plain`: the answers to the events that are of no cell, in order
unfoldable pub plain : List Event → List Done
plain events = answers_from start events

-- the world after events from the start
unfoldable pub world_after : List Event → World
world_after events = world_from start events

-- ---- answers to all events

-- an answer before others, or not
abbrev pub onto_answers : Bool → Done → List Done → List Done
onto_answers true done others = others
onto_answers false done others = done ∷ others

-- of the answers to events, one each, those to the events that are of no cell
abbrev pub scan_answers : List Event → List Done → List Done
scan_answers [] answers = []
scan_answers (event ∷ events) [] = []
scan_answers (event ∷ events) (done ∷ answers) = onto_answers (is_cell_event event) done (scan_answers events answers)

-- each event has one answer, and those that are of no cell have the answers of `plain`
pub record AnswersPlainly (events : List Event) (answers : List Done) : Type 0 where
  pub each : length answers ≡ length events
  pub plainly : scan_answers events answers ≡ plain events
