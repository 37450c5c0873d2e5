-- What events are answered: in parts, without those of cells, and by what is looked up.
use Rattle.std.proofs.Common.{◌≡◌, ◌==◌, ℕ, Bool, true, false, cond, not, List, [], ◌∷◌, ◌++◌, length, Some, None, option_map, refl, sym, ap, ◌∙◌, arith, append_assoc, append-nil, length-append, eqb-true}
use Rattle.std.specs.Prelude.{option_to_list}
use Rattle.std.proofs.lemmas.Bool.{false≢true, cond-true}
use Rattle.std.proofs.lemmas.List.Sums.{fold-append}
use Rattle.std.proofs.lemmas.List.Folds.{find-append}
use Rattle.core_events.specs.Events.{Event, append, begin, piece, advance, mend, evict, finish, Done, is_cell_event}
use Rattle.core_events.specs.Plain.{World, start, scan_of, placed, moved, freed, step, answers_from, world_from, plain, world_after, onto_answers, scan_answers}
use Rattle.core_events.specs.PlainLaws.{without_cells, CellEventsChangeNothing, CellEventsLeaveWorld, PlainInParts, WorldInParts, AnswersAs, OneMoreAnswersPlainly, WorldAfterOneMore, ScanIsMoved, ScanIsFreed, ScanIsBegun}

-- ---- in parts

-- the definitions, seen through
pub plain-is : (events : List Event) → plain events ≡ answers_from start events
unfolding plain
plain-is events = refl

pub world_after-is : (events : List Event) → world_after events ≡ world_from start events
unfolding world_after
world_after-is events = refl

-- answers to events in two parts
answers_in_parts : (world : World) (events more : List Event) → answers_from world (events ++ more) ≡ answers_from world events ++ answers_from (world_from world events) more
answers_in_parts world [] more = refl
answers_in_parts world (event ∷ events) more =
    let s = step event world in
    ap (λ rest. option_to_list s.answer ++ rest) (answers_in_parts s.world events more)
    ∙ sym (append_assoc (option_to_list s.answer) (answers_from s.world events) (answers_from (world_from s.world events) more))

-- events in two parts are answered from the world after the first
pub plain_in_parts : PlainInParts
plain_in_parts events more =
    plain-is (events ++ more) ∙ answers_in_parts start events more
    ∙ (λ i. sym (plain-is events) i ++ answers_from (sym (world_after-is events) i) more)

-- the world after both
pub world_in_parts : WorldInParts
world_in_parts events more =
    world_after-is (events ++ more) ∙ fold-append (λ w event. (step event w).world) start events more
    ∙ ap (λ w. world_from w more) (sym (world_after-is events))

-- the world after one event more
pub world_after_one_more : WorldAfterOneMore
world_after_one_more events event = world_in_parts events (event ∷ [])

-- ---- without cells

-- what an event of a cell does
cell_step : (event : Event) (world : World) → is_cell_event event ≡ true → ((step event world).answer ≡ None) × ((step event world).world ≡ world)
cell_step (append client write) world h = absurd (false≢true h)
cell_step (begin scan range) world h = absurd (false≢true h)
cell_step (piece scan upto) world h = absurd (false≢true h)
cell_step (advance cell to) world h = (refl, refl)
cell_step (mend cell range) world h = (refl, refl)
cell_step (evict cell) world h = (refl, refl)
cell_step (finish scan) world h = absurd (false≢true h)

-- events of cells change no answer
answers_without : (world : World) (events : List Event) → answers_from world (without_cells events) ≡ answers_from world events
answers_without world [] = refl
answers_without world (event ∷ events) =
    elim (is_cell_event event) as (λ b. is_cell_event event ≡ b → answers_from world (cond (not b) (event ∷ without_cells events) (without_cells events)) ≡ answers_from world (event ∷ events)) [
      | true ↦ λ e.
          let none = cell_step event world e in
          answers_without world events
          ∙ (λ i. option_to_list (sym none.0 i) ++ answers_from (sym none.1 i) events)
      | false ↦ λ e. ap (λ rest. option_to_list (step event world).answer ++ rest) (answers_without (step event world).world events)
    ] refl

-- nor the world
world_without : (world : World) (events : List Event) → world_from world (without_cells events) ≡ world_from world events
world_without world [] = refl
world_without world (event ∷ events) =
    elim (is_cell_event event) as (λ b. is_cell_event event ≡ b → world_from world (cond (not b) (event ∷ without_cells events) (without_cells events)) ≡ world_from world (event ∷ events)) [
      | true ↦ λ e. world_without world events ∙ ap (λ w. world_from w events) (sym (cell_step event world e).1)
      | false ↦ λ e. world_without (step event world).world events
    ] refl

pub cell_events_change_nothing : CellEventsChangeNothing
cell_events_change_nothing events = plain-is (without_cells events) ∙ answers_without start events ∙ sym (plain-is events)

pub cell_events_leave_world : CellEventsLeaveWorld
cell_events_leave_world events = world_after-is (without_cells events) ∙ world_without start events ∙ sym (world_after-is events)

-- ---- one more

-- the answers of scans with one more
one_more_answer : (events : List Event) (answers : List Done) (event : Event) (done : Done) → length answers ≡ length events →
    scan_answers (events ++ event ∷ []) (answers ++ done ∷ []) ≡ scan_answers events answers ++ onto_answers (is_cell_event event) done []
one_more_answer [] [] event done e = refl
one_more_answer [] (a ∷ answers) event done e = absurd (omega arith)
one_more_answer (x ∷ events) [] event done e = absurd (omega arith)
one_more_answer (x ∷ events) (a ∷ answers) event done e = by (is_cell_event x) (one_more_answer events answers event done (omega arith))
  where
    by : (b : Bool) → scan_answers (events ++ event ∷ []) (answers ++ done ∷ []) ≡ scan_answers events answers ++ onto_answers (is_cell_event event) done [] →
        onto_answers b a (scan_answers (events ++ event ∷ []) (answers ++ done ∷ [])) ≡ onto_answers b a (scan_answers events answers) ++ onto_answers (is_cell_event event) done []
    by true ih = ih
    by false ih = ap (λ rest. a ∷ rest) ih

-- an event's answer as a list
answer_listed : (event : Event) (world : World) (done : Done) (b : Bool) → is_cell_event event ≡ b → AnswersAs event world done → onto_answers b done [] ≡ option_to_list (step event world).answer
answer_listed event world done true e says = ap option_to_list (sym (cell_step event world e).0)
answer_listed event world done false e says = ap option_to_list (sym (says e))

-- events with one more are answered plainly
pub one_more_answers_plainly : OneMoreAnswersPlainly
one_more_answers_plainly events answers event done plainly says =
    let world = world_after events in
    record {
      each = length-append answers (done ∷ []) ∙ omega (arith, plainly.each, length-append events (event ∷ []));
      plainly =
          one_more_answer events answers event done plainly.each
          ∙ (λ i. plainly.plainly i ++ answer_listed event world done (is_cell_event event) refl says i)
          ∙ ap (λ rest. plain events ++ rest) (sym (append-nil (option_to_list (step event world).answer)))
          ∙ sym (plain_in_parts events (event ∷ []));
    }

-- ---- the scans under way

-- numbers that are the same or not
same_number : (a b c : ℕ) → (a == b) ≡ true → (b == c) ≡ (a == c)
same_number a b c e = ap (λ n. n == c) (sym (eqb-true a b e))

-- a scan that is moved
pub scan_is_moved : ScanIsMoved
scan_is_moved [] number other place = by (other == number)
  where
    by : (b : Bool) → None ≡ cond b (option_map (placed place) None) None
    by true = refl
    by false = refl
scan_is_moved (s ∷ scans) number other place =
    by (s.number == number) refl (s.number == other) refl (scan_is_moved scans number other place)
  where
    by : (a : Bool) → (s.number == number) ≡ a → (b : Bool) → (s.number == other) ≡ b →
        scan_of other (moved number place scans) ≡ cond (other == number) (option_map (placed place) (scan_of other scans)) (scan_of other scans) →
        scan_of other (cond (s.number == number) (placed place s) s ∷ moved number place scans)
        ≡ cond (other == number) (option_map (placed place) (cond (s.number == other) (Some s) (scan_of other scans))) (cond (s.number == other) (Some s) (scan_of other scans))
    by true e true f ih =
        let same : (other == number) ≡ true = same_number s.number other number f ∙ e in
        rw (e, f, same) refl
    by true e false f ih = rw (e, f) ih
    by false e true f ih =
        let same : (other == number) ≡ false = same_number s.number other number f ∙ e in
        rw (e, f, same) refl
    by false e false f ih = rw (e, f) ih

-- nothing, whatever is asked
none_either : (b : Bool) → scan_of 0 [] ≡ cond b None (scan_of 0 [])
none_either true = refl
none_either false = refl

-- a scan that is freed
pub scan_is_freed : ScanIsFreed
scan_is_freed [] number other = none_either (other == number)
scan_is_freed (s ∷ scans) number other =
    by (s.number == number) refl (s.number == other) refl (scan_is_freed scans number other)
  where
    by : (a : Bool) → (s.number == number) ≡ a → (b : Bool) → (s.number == other) ≡ b →
        scan_of other (freed number scans) ≡ cond (other == number) None (scan_of other scans) →
        scan_of other (cond (not (s.number == number)) (s ∷ freed number scans) (freed number scans)) ≡ cond (other == number) None (cond (s.number == other) (Some s) (scan_of other scans))
    by true e true f ih =
        let same : (other == number) ≡ true = same_number s.number other number f ∙ e in
        rw (e, f, same) (ih ∙ cond-true (other == number) None (scan_of other scans) same)
    by true e false f ih = rw (e, f) ih
    by false e true f ih =
        let same : (other == number) ≡ false = same_number s.number other number f ∙ e in
        rw (e, f, same) refl
    by false e false f ih = rw (e, f) ih

-- a scan that begins
pub scan_is_begun : ScanIsBegun
scan_is_begun scans scan other = find-append (λ s. s.number == other) scans (scan ∷ [])
