-- What the lowest reader makes of what cells lend and take back.
use Rattle.std.proofs.Common.{◌≡◌, ◌==◌, ◌++◌, ◌∷◌, [], ℕ, ◌≤◌, Bool, true, false, cond, List, length, Result, Ok, Err, OnOk, OnErr, IfOk, Option, Some, None, IfSome, MatchOption, refl, sym, ap, ◌∙◌, subst, arith}
use Rattle.std.proofs.lemmas.Bool.{eqb-true}
use Rattle.semantics.specs.Texts.{Range}
use Rattle.semantics.specs.Histories.{Entry, History}
use Rattle.kept_ranges.specs.Sound.{KeptRange}
use Rattle.range_state.specs.Held.{forgotten}
use Rattle.cell_slots.specs.declared.slot.Slot.{Slot}
use Rattle.cell_slots.specs.declared.slot.Slot.TheVariants.{Lent, Held}
use Rattle.cell_slots.specs.Slots.{Holdings, Setting, held_over, with_lent, Frame, Takes, IsRightFor}
use Rattle.cell_slots.specs.declared.slot.Part.{Part}
use Rattle.cell_slots.specs.Spending.{CoversAlone, Reserves}
use Rattle.semantics.specs.Joins.{Join}
use Rattle.cell_table.specs.Stores.{Store}
use Rattle.cell_table.specs.Moves.{IsLent, TakesOut}
use Rattle.scan_core.specs.Cells.{IsTaken}
use Rattle.scan_core.specs.Rights.{AreRight, setting_of, contents_of}
use Rattle.scan_core.proofs.RightLemmas.{right_more, right_same_place}

-- one entry more, or none
pub right_entered : {A E : Type 0} (result : Result A E) (old new : History) (e : Entry) (slots : List Slot) → OnOk result (new ≡ old ++ e ∷ []) → OnErr result (new ≡ old) → AreRight old slots → AreRight new slots
right_entered (Ok x) old new e slots ok err right = right_more old new slots (e ∷ [], ok) right
right_entered (Err x) old new e slots ok err right = subst (λ h. AreRight h slots) (sym err) right

-- ---- what is taken out

-- what cells hold is right after one is taken out
pub right_taken : {E : Type 0} (result : Result (Option (ℕ × KeptRange)) E) (h : History) (id : ℕ) (before after : Store) → IfOk result (TakesOut id before after) → OnErr result (after ≡ before) →
    AreRight h before.holdings.slots → AreRight h after.holdings.slots
right_taken (Err x) h id before after taken err right = subst (λ (s : Store). AreRight h s.holdings.slots) (sym err) right
right_taken (Ok None) h id before after taken err right = subst (λ (s : Store). AreRight h s.holdings.slots) (sym taken.1) right
right_taken (Ok (Some x)) h id before after taken err right =
    subst (λ (s : Store). AreRight h s.holdings.slots) (sym taken.lent)
    (right_same_place h before.holdings.slots id (Held x.0 x.1) (Lent x.0 x.1.range) right taken.held tt refl)

-- and what was taken out is
pub taken_right : (h : History) (id : ℕ) (before after : Store) (found : Option (ℕ × KeptRange)) → AreRight h before.holdings.slots → TakesOut id before after found → IsTaken h id (contents_of h before).cells (contents_of h after).cells found
taken_right h id before after None right taken = (λ at s is. taken.0 (record { at = at; state = s; held = is }), ap (λ (s : Store). (contents_of h s).cells) taken.1)
taken_right h id before after (Some x) right taken = record {
  held = taken.held;
  right = right.held id (Held x.0 x.1) taken.held;
  lent = ap (λ (s : Store). (contents_of h s).cells) taken.lent;
}

-- ---- what is lent

-- what cells hold is right after one lends
pub right_lent : {E : Type 0} (result : Result (Option KeptRange) E) (h : History) (id at rank p : ℕ) (part : Range) (before after : Store) →
    IfOk result (λ found. MatchOption found (after ≡ before) (IsLent before.holdings after.holdings id at rank p part)) → OnErr result (after ≡ before) → AreRight h before.holdings.slots → AreRight h after.holdings.slots
right_lent (Err x) h id at rank p part before after lent err right = subst (λ (s : Store). AreRight h s.holdings.slots) (sym err) right
right_lent (Ok None) h id at rank p part before after lent err right = subst (λ (s : Store). AreRight h s.holdings.slots) (sym lent) right
right_lent (Ok (Some state)) h id at rank p part before after lent err right =
    subst (λ (s : Holdings). AreRight h s.slots) (sym lent.lent)
    (right_same_place h before.holdings.slots id (Held at lent.was) (Lent at lent.was.range) right lent.might.held tt refl)

-- a position is at or above 0
from_start : (o : Option ℕ) → IfSome o (λ q. 0 ≤ q)
from_start None = tt
from_start (Some q) = omega arith

-- a store with the same limit is held over the same
over_same : (h : History) (before after : Store) → after.limit ≡ before.limit → (contents_of h after).cells ≡ held_over (setting_of h before) after.holdings
over_same h before after same = ap (λ n. held_over (record { entries = length h; room = n }) after.holdings) same

-- what is lent is taken out of its slot, with the rank
takes_from : (h : History) (before after : Store) (id at rank p : ℕ) (part : Range) (state : KeptRange) → AreRight h before.holdings.slots → after.limit ≡ before.limit →
    IsLent before.holdings after.holdings id at rank p part state → Takes h 0 (contents_of h before).cells (contents_of h after).cells id at rank p part state
takes_from h before after id at rank p part state right same lent = by (lent.was.rank == rank) refl
  where
    was : KeptRange
    was = lent.was

    was_right : IsRightFor h at was
    was_right = right.held id (Held at was) lent.might.held

    lends : (contents_of h after).cells ≡ with_lent id at was.range (contents_of h before).cells
    lends = over_same h before after same ∙ ap (held_over (setting_of h before)) lent.lent

    by : (b : Bool) → (was.rank == rank) ≡ b → Takes h 0 (contents_of h before).cells (contents_of h after).cells id at rank p part state
    by true e =
        subst (λ (s : KeptRange). Takes h 0 (contents_of h before).cells (contents_of h after).cells id at rank p part s) (sym (lent.given ∙ ap (λ x. cond x was (forgotten was.join rank was.range)) e))
        (record {
          was = was;
          held = lent.might.held;
          least = lent.might.least;
          lent = lends;
          same_range = refl;
          ranked = eqb-true was.rank rank e;
          right = was_right;
          from = from_start was.position;
          upto = lent.might.upto;
          whole = lent.might.whole;
        })
    by false e =
        subst (λ (s : KeptRange). Takes h 0 (contents_of h before).cells (contents_of h after).cells id at rank p part s) (sym (lent.given ∙ ap (λ x. cond x was (forgotten was.join rank was.range)) e))
        (record {
          was = was;
          held = lent.might.held;
          least = lent.might.least;
          lent = lends;
          same_range = refl;
          ranked = refl;
          right = record { declared = was_right.declared; sound = tt };
          from = tt;
          upto = λ past. past;
          whole = lent.might.whole;
        })

-- so where something is lent
pub lends_from : (h : History) (before after : Store) (id at rank p : ℕ) (part : Range) (found : Option KeptRange) → AreRight h before.holdings.slots → after.limit ≡ before.limit →
    MatchOption found (after ≡ before) (IsLent before.holdings after.holdings id at rank p part) →
    MatchOption found ((contents_of h after).cells ≡ (contents_of h before).cells) (Takes h 0 (contents_of h before).cells (contents_of h after).cells id at rank p part)
lends_from h before after id at rank p part None right same lent = ap (λ (s : Store). (contents_of h s).cells) lent
lends_from h before after id at rank p part (Some state) right same lent = takes_from h before after id at rank p part state right same lent

-- ---- what is covered

-- a ready range
pub alone_over : (h : History) (before after : Store) (id : ℕ) (range : Range) (parts : List Part) → after.limit ≡ before.limit → CoversAlone before.holdings after.holdings id range parts →
    CoversAlone (contents_of h before).cells (contents_of h after).cells id range parts
alone_over h before after id range parts same covers = record { one = covers.one; still = over_same h before after same ∙ ap (held_over (setting_of h before)) covers.still }

-- a range that is reserved
pub reserves_over : (h : History) (before after : Store) (at rank : ℕ) (j : Join) (range : Range) (parts : List Part) → after.limit ≡ before.limit → Reserves before.holdings after.holdings at rank j range parts →
    Reserves (contents_of h before).cells (contents_of h after).cells at rank j range parts
reserves_over h before after at rank j range parts same reserves = record {
  id = reserves.id;
  free = reserves.free;
  one = reserves.one;
  set = over_same h before after same ∙ ap (held_over (setting_of h before)) reserves.set;
}

abbrev setting_with : History → ℕ → Setting
setting_with h n = record { entries = length h; room = n }

-- how cells are left
pub frame_over : (h : History) (top : ℕ) (before after : Store) → after.limit ≡ before.limit → Frame top before.holdings after.holdings → Frame top (contents_of h before).cells (contents_of h after).cells
frame_over h top before after same frame = record {
  same_count = frame.same_count;
  left = frame.left;
  places = frame.places;
  lent = frame.lent;
  unused = frame.unused;
  same_setting = ap (setting_with h) same;
}
