-- Where the scans under way were begun, and their pairs over a longer history.
use Rattle.std.proofs.Common.{◌≤◌, ◌==◌, ℕ, Bool, true, false, cond, not, List, [], ◌∷◌, ◌++◌, length, take, Option, Some, None, is_some, refl, sym, ap, ◌∙◌, subst, arith, append_assoc, append-nil, is_lt}
use Rattle.std.specs.List.{AllByRecursion}
use Rattle.std.proofs.lemmas.Bool.{cond_both}
use Rattle.std.proofs.lemmas.List.{length-append, take-append-le}
use Rattle.semantics.specs.Texts.{Text, text_cmp, Range, pairs_within}
use Rattle.semantics.specs.States.{state}
use Rattle.semantics.specs.Histories.{Write}
use Rattle.semantics.specs.Verdicts.{Cause, verdict}
use Rattle.semantics.proofs.Members.{AllByRecursion-append}
use Rattle.core_events.specs.Events.{Event, append, begin, piece, advance, mend, evict, finish}
use Rattle.core_events.specs.Plain.{Scan, World, scan_of, placed, moved, freed, goes_on, append_step, begin_step, piece_step, finish_step, Step, step, world_from, world_after}
use Rattle.core_events.specs.PlainLaws.{WasBegun, ScansWereBegun, ScansStandWithin, PairsStay}
use Rattle.core_events.proofs.PlainLemmas.{world_after-is, world_in_parts, world_after_one_more}
use Rattle.core_events.proofs.WorldLemmas.{history_grows}

-- what holds of all holds of all in another way
all_then : {A : Type 0} (P Q : A → Type 0) (xs : List A) → ((x : A) → P x → Q x) → AllByRecursion P xs → AllByRecursion Q xs
all_then P Q [] f all = tt
all_then P Q (x ∷ xs) f all = (f x all.0, all_then P Q xs f all.1)

-- one event more
begun_longer : (events : List Event) (event : Event) (scan : Scan) → WasBegun events scan → WasBegun (events ++ event ∷ []) scan
begun_longer events event scan w = record {
  before = w.before;
  after = w.after ++ event ∷ [];
  begun = ap (λ es. es ++ event ∷ []) w.begun ∙ append_assoc w.before (begin scan.number scan.range ∷ w.after) (event ∷ []);
  position = w.position;
}

-- ---- a step

-- what holds of each scan, whatever its place, holds of the scans once one is moved
all_moved : (P : Scan → Type 0) (number : ℕ) (place : Text) (scans : List Scan) → ((s : Scan) → P s → P (placed place s)) → AllByRecursion P scans → AllByRecursion P (moved number place scans)
all_moved P number place [] any all = tt
all_moved P number place (s ∷ scans) any all =
    (cond_both (s.number == number) (placed place s) s P (λ e. any s all.0) (λ e. all.0), all_moved P number place scans any all.1)

-- and once one is freed
all_freed : (P : Scan → Type 0) (number : ℕ) (scans : List Scan) → AllByRecursion P scans → AllByRecursion P (freed number scans)
all_freed P number [] all = tt
all_freed P number (s ∷ scans) all =
    let rest = all_freed P number scans all.1 in
    cond_both (not (s.number == number)) (s ∷ freed number scans) (freed number scans) (AllByRecursion P) (λ e. (all.0, rest)) (λ e. rest)

-- of two steps
all_chosen : (P : Scan → Type 0) (b : Bool) (s t : Step) → AllByRecursion P s.world.scans → AllByRecursion P t.world.scans → AllByRecursion P (cond b s t).world.scans
all_chosen P true s t first next = first
all_chosen P false s t first next = next

all_append : (P : Scan → Type 0) (client : ℕ) (write : Write) (world : World) (o : Option Cause) → AllByRecursion P world.scans → AllByRecursion P (append_step client write world o).world.scans
all_append P client write world None all = all
all_append P client write world (Some cause) all = all

all_begin : (P : Scan → Type 0) (number : ℕ) (range : Range) (world : World) (b : Bool) → P (record { number = number; range = range; position = length world.history; place = range.low }) →
    AllByRecursion P world.scans → AllByRecursion P (begin_step number range world b).world.scans
all_begin P number range world true new all = all
all_begin P number range world false new all = AllByRecursion-append P world.scans (record { number = number; range = range; position = length world.history; place = range.low } ∷ []) all (new, tt)

all_piece : (P : Scan → Type 0) (number : ℕ) (upto : Text) (world : World) (o : Option Scan) → ((s : Scan) → P s → P (placed upto s)) → AllByRecursion P world.scans → AllByRecursion P (piece_step number upto world o).world.scans
all_piece P number upto world None any all = all
all_piece P number upto world (Some s) any all = all_chosen P (goes_on upto s) _ _ (all_moved P number upto world.scans any all) all

all_finish : (P : Scan → Type 0) (number : ℕ) (world : World) (o : Option Scan) → AllByRecursion P world.scans → AllByRecursion P (finish_step number world o).world.scans
all_finish P number world None all = all
all_finish P number world (Some s) all = all_chosen P (is_lt (text_cmp s.place s.range.high)) _ _ all (all_freed P number world.scans all)

-- a scan that was begun was so, whatever its place
begun_placed : (events : List Event) (place : Text) (scan : Scan) → WasBegun events scan → WasBegun events (placed place scan)
begun_placed events place scan w = record { before = w.before; after = w.after; begun = w.begun; position = w.position }

-- the scans after one event more were begun
begun_step : (events : List Event) (event : Event) → AllByRecursion (WasBegun (events ++ event ∷ [])) (world_after events).scans → AllByRecursion (WasBegun (events ++ event ∷ [])) (step event (world_after events)).world.scans
begun_step events (append client write) all = all_append _ client write (world_after events) (verdict write (world_after events).history) all
begun_step events (begin number range) all =
    all_begin (WasBegun (events ++ begin number range ∷ [])) number range (world_after events) (is_some (scan_of number (world_after events).scans))
    (record { before = events; after = []; begun = refl; position = refl }) all
begun_step events (piece number upto) all =
    all_piece (WasBegun (events ++ piece number upto ∷ [])) number upto (world_after events) (scan_of number (world_after events).scans) (begun_placed (events ++ piece number upto ∷ []) upto) all
begun_step events (advance cell to) all = all
begun_step events (mend cell range) all = all
begun_step events (evict cell) all = all
begun_step events (finish number) all = all_finish _ number (world_after events) (scan_of number (world_after events).scans) all

-- ---- all events

-- the scans after further events were begun
begun_from : (before events : List Event) → AllByRecursion (WasBegun before) (world_after before).scans → AllByRecursion (WasBegun (before ++ events)) (world_from (world_after before) events).scans
begun_from before [] all = subst (λ es. AllByRecursion (WasBegun es) (world_after before).scans) (sym (append-nil before)) all
begun_from before (event ∷ events) all =
    let longer = all_then (WasBegun before) (WasBegun (before ++ event ∷ [])) (world_after before).scans (begun_longer before event) all in
    let next = subst (λ w. AllByRecursion (WasBegun (before ++ event ∷ [])) w.scans) (sym (world_after_one_more before event)) (begun_step before event longer) in
    let rest = begun_from (before ++ event ∷ []) events next in
    subst (λ es. AllByRecursion (WasBegun es) (world_from (step event (world_after before)).world events).scans) (append_assoc before (event ∷ []) events)
    (subst (λ w. AllByRecursion (WasBegun ((before ++ event ∷ []) ++ events)) (world_from w events).scans) (world_after_one_more before event) rest)

-- each scan under way was begun by an event
pub scans_were_begun : ScansWereBegun
scans_were_begun events =
    subst (λ w. AllByRecursion (WasBegun events) w.scans) (sym (world_in_parts [] events))
    (begun_from [] events (subst (λ w. AllByRecursion (WasBegun []) w.scans) (sym (world_after-is [])) tt))

-- none stands past the history
pub scans_stand_within : ScansStandWithin
scans_stand_within events =
    all_then (WasBegun events) (λ s. s.position ≤ length (world_after events).history) (world_after events).scans
    (λ s w.
    let grows = history_grows w.before (begin s.number s.range ∷ w.after) in
    let whole = ap (λ es. length (world_after es).history) w.begun ∙ ap length grows.1 ∙ length-append (world_after w.before).history grows.0 in
    let at = w.position in
    omega (arith, whole, at))
    (scans_were_begun events)

-- a scan has the same pairs over each longer history
pub pairs_stay : PairsStay
pairs_stay scan h more inside prefix =
    ap (λ es. pairs_within scan.range (state es)) (ap (take scan.position) prefix.1 ∙ take-append-le scan.position h prefix.0 inside)
