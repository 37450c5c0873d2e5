-- One part of a range that is read from a cell.
use Rattle.std.proofs.Common.{◌≡◌, ℕ, ◌+◌, ◌-◌, ◌<◌, ◌≤◌, List, [], length, take, slice_get, Some, None, Result, Ok, Err, IfOk, OnOk, sym, ap, ◌∙◌, subst, arith}
use Rattle.std.specs.Option.{IsSomeAnd}
use Rattle.semantics.specs.Texts.{Table, Range, pairs_within}
use Rattle.semantics.specs.Joins.{Join}
use Rattle.semantics.specs.Histories.{History, IsPrefix, joins_of}
use Rattle.semantics.specs.Outputs.{out}
use Rattle.semantics.specs.States.{below}
use Rattle.growing_history.specs.Entered.{HasEntered, HasRank}
use Rattle.growing_history.proofs.PrefixLemmas.{prefix_refl}
use Rattle.layering.specs.Parts.{IsWithin}
use Rattle.layering.proofs.PartLemmas.{part_of_range, within_is_kept}
use Rattle.join_eval.specs.Moves.{Moves}
use Rattle.kept_ranges.specs.Sound.{KeptRange, IsSound}
use Rattle.range_state.specs.Held.{forgotten}
use Rattle.range_state.specs.Ready.{HasSameSubject, IsReady, StandsAt}
use Rattle.cell_slots.specs.Serving.{IsPast, WasAdvanced, WasMended, output_within}
use Rattle.cell_slots.proofs.AdvancedLemmas.{mended_counted}
use Rattle.cell_slots.proofs.CountingLemmas.{forward_counted, forward_order}
use Rattle.cell_slots.specs.declared.slot.Part.{Part}
use Rattle.cell_slots.specs.declared.slot.Slot.{Slot}
use Rattle.cell_slots.specs.declared.slot.Slot.TheVariants.{Lent, Held}
use Rattle.cell_slots.specs.Slots.{Holdings, with_slot, with_lent, Frame, HoldsWhole, IsReadySlot, IsDeclared, IsRightFor, StandsAs, Takes}
use Rattle.cell_slots.specs.Spending.{HoldsAdvanced, HoldsMended, KeepsJust, StandsBehind, StandsPending, StaysReady, Took}
use Rattle.cell_slots.proofs.DeclaredLemmas.{declared_over_longer, declared_once, rank_declared}
use Rattle.cell_slots.proofs.FrameLemmas.{frame_weaker, frame_around, still_lent, given_back}
use Rattle.rank_layers.proofs.MoveLemmas.{moves_as}

-- ---- the value behind a borrow, which is the lender's when the borrow has ended

-- what holds of the one holds of the other; a tactic finds that they are equal
pub of_lender : {A : Type 0} (P : A → Type 0) {lender borrowed : A} → P borrowed → lender ≡ borrowed → P lender
of_lender P holds same = subst P (sym same) holds

pub of_borrowed : {A : Type 0} (P : A → Type 0) {lender borrowed : A} → P lender → lender ≡ borrowed → P borrowed
of_borrowed P holds same = subst P same holds

-- ---- how a reader goes on

-- how the lowest reader goes on below a rank, as below a greater one
pub moves_weaker : {S : Type 0} (list : S → History) (floor : S → ℕ) (holds : S → Holdings) (top more : ℕ) (a b : S) → top ≤ more → Moves list floor (λ x y. Frame top (holds x) (holds y)) a b →
    Moves list floor (λ x y. Frame more (holds x) (holds y)) a b
moves_weaker list floor holds top more a b up moves =
    moves_as list floor (λ x y. Frame top (holds x) (holds y)) (λ x y. Frame more (holds x) (holds y)) a b (frame_weaker top more (holds a) (holds b) up) moves

-- a reader that keeps its list and its floor
pub moves_by_frame : {S : Type 0} (list : S → History) (floor : S → ℕ) (holds : S → Holdings) (top : ℕ) (a b : S) → list b ≡ list a → floor b ≡ floor a → Frame top (holds a) (holds b) →
    Moves list floor (λ x y. Frame top (holds x) (holds y)) a b
moves_by_frame list floor holds top a b same floors frame = record {
  kept = subst (IsPrefix (list a)) (sym same) (prefix_refl (list a));
  entered = subst HasEntered (sym same);
  same_floor = floors;
  on = frame;
}

-- ---- a kept range that is taken out of a slot, worked on and given back

-- what is right stays right after work that keeps its subject
pub right_after : (h more : History) (at : ℕ) (state after : KeptRange) → IsPrefix h more → IsRightFor h at state → HasSameSubject state after → IsSound after more → IsRightFor more at after
right_after h more at state after prefix right same sound = record {
  declared = subst (IsDeclared more at) (sym same.join) (declared_over_longer h more at state.join prefix right.declared);
  sound = sound;
}

-- its place is still lent
pub place_lent : (h : History) (floor : ℕ) (before lent mid : Holdings) (id at rank p : ℕ) (part : Range) (state after : KeptRange) → Takes h floor before lent id at rank p part state → Frame rank lent mid → HasSameSubject state after →
    slice_get mid.slots id ≡ Some (Lent at after.range)
place_lent h floor before lent mid id at rank p part state after takes frame same =
    still_lent before lent mid id at rank (Held at takes.was) state.range takes.held takes.lent frame ∙ ap (λ range. Some (Lent at range)) (sym same.range)

-- around the work the slots go on as a layer's
pub frame_part : (h : History) (floor : ℕ) (before lent mid after : Holdings) (id at rank p : ℕ) (part : Range) (state s : KeptRange) → Takes h floor before lent id at rank p part state → Frame rank lent mid →
    after ≡ with_slot id (Held at s) mid → HasSameSubject state s → Frame (rank + 1) before after
frame_part h floor before lent mid after id at rank p part state s takes frame set same =
    frame_around before lent mid after id at rank takes.was s state.range takes.held takes.least takes.lent frame set (same.range ∙ sym takes.same_range)

-- and so does the reader
pub moves_part : {S : Type 0} (list : S → History) (floor : S → ℕ) (holds : S → Holdings) (top rank : ℕ) (a b c d : S) (id at p : ℕ) (part : Range) (state s : KeptRange) → top ≡ rank →
    Takes (list a) (floor a) (holds a) (holds b) id at rank p part state → list b ≡ list a → floor b ≡ floor a → Moves list floor (λ x y. Frame top (holds x) (holds y)) b c →
    holds d ≡ with_slot id (Held at s) (holds c) → HasSameSubject state s → list d ≡ list c → floor d ≡ floor c → Moves list floor (λ x y. Frame (rank + 1) (holds x) (holds y)) a d
moves_part list floor holds top rank a b c d id at p part state s is takes same floors moves set subject last last_floor = record {
  kept = subst (λ l. IsPrefix l (list d)) same (subst (IsPrefix (list b)) (sym last) moves.kept);
  entered = λ e. subst HasEntered (sym last) (moves.entered (subst HasEntered (sym same) e));
  same_floor = last_floor ∙ moves.same_floor ∙ floors;
  on = frame_part (list a) (floor a) (holds a) (holds b) (holds c) (holds d) id at rank p part state s takes (subst (λ t. Frame t (holds b) (holds c)) is moves.on) set subject;
}

-- what was served is the join's output in the part
pub output_of_part : (h more : History) (floor : ℕ) (before lent : Holdings) (id at rank p : ℕ) (part : Range) (state : KeptRange) (j : Join) → Takes h floor before lent id at rank p part state → more ≡ h → IsDeclared h at j →
    output_within state more p part ≡ pairs_within part (out j (below (take p h) rank))
output_of_part h more floor before lent id at rank p part state j takes same declared =
    part_of_range part state.range (out state.join (below (take p more) state.rank)) (λ key. within_is_kept part state.range key takes.whole)
    ∙ (λ i. pairs_within part (out (declared_once h at state.join j takes.right.declared declared i) (below (take p (same i)) (takes.ranked i))))

-- the kept range's join stands with its rank
pub rank_of_part : (h more : History) (floor : ℕ) (before lent : Holdings) (id at rank p : ℕ) (part : Range) (state : KeptRange) (j : Join) → Takes h floor before lent id at rank p part state → more ≡ h → StandsAs h p at rank j →
    HasRank (joins_of (take p more)) state.join state.rank
rank_of_part h more floor before lent id at rank p part state j takes same stands =
    subst (λ l. HasRank (joins_of (take p l)) state.join state.rank) (sym same)
    (subst (HasRank (joins_of (take p h)) state.join) (sym takes.ranked) (rank_declared h p at rank j state.join stands takes.right.declared))

-- a cell that was reserved holds the whole part once it is read
pub whole_from : (mid after : Holdings) (id at rank p : ℕ) (part : Range) (j : Join) (state s : KeptRange) → state ≡ forgotten j rank part → slice_get mid.slots id ≡ Some (Lent at s.range) → after ≡ with_slot id (Held at s) mid →
    HasSameSubject state s → IsReady p part s → (state.position ≡ None → s.kept.pending ≡ []) → HoldsWhole after.slots id at p part
whole_from mid after id at rank p part j state s is lent set same ready filled = record {
  state = s;
  held = given_back mid after id (Held at s) (Lent at s.range) lent set;
  stands = ready.stands;
  clear = filled (ap (λ (k : KeptRange). k.position) is);
  just = same.range ∙ ap (λ (k : KeptRange). k.range) is;
}

-- the cell alone was used, where the reader that worked uses none
pub keeps_from : (h : History) (floor : ℕ) (before lent mid after : Holdings) (id at rank p : ℕ) (part : Range) (state s : KeptRange) → Takes h floor before lent id at rank p part state → Frame rank lent mid →
    after ≡ with_slot id (Held at s) mid → HoldsWhole after.slots id at p part → KeepsJust before after rank at p part
keeps_from h floor before lent mid after id at rank p part state s takes frame set whole = record {
  id = id;
  is = whole;
  alone = λ none. ap (λ (c : Holdings). c.used) set ∙ frame.unused none ∙ ap (λ (c : Holdings). c.used) takes.lent;
}

-- a kept range that stands at a position does not stand past it
pub not_past : (p : ℕ) (s : KeptRange) → StandsAt p s → IsPast p s → ⊥
not_past p s stands past = let less : p < p = subst (λ o. IsSomeAnd o (λ q. p < q)) stands past in omega (arith, less)

-- a kept range that was ready, was lent and did not change, while the reader was not called, stands in its slot again
pub stays_ready : (before lent mid after : Holdings) (id at p : ℕ) (part place : Range) (s t : KeptRange) → lent ≡ with_lent id at place before → mid ≡ lent → slice_get mid.slots id ≡ Some (Lent at t.range) → after ≡ with_slot id (Held at t) mid →
    t ≡ s → IsReady p part s → IsWithin part s.range → StaysReady before after id at p part s
stays_ready before lent mid after id at p part place s t is_lent same there set own ready whole = record {
  is = record {
    held = given_back mid after id (Held at t) (Lent at t.range) there set ∙ ap (λ (k : KeptRange). Some (Held at k)) own;
    ready = ready;
    whole = whole;
  };
  used = ap (λ (c : Holdings). c.used) set ∙ ap (λ (c : Holdings). c.used) same ∙ ap (λ (c : Holdings). c.used) is_lent;
}

-- one that stands below a position neither
below_not_past : (q p : ℕ) (s : KeptRange) → StandsAt q s → q < p → IsPast p s → ⊥
below_not_past q p s stands below past = let less : p < q = subst (λ o. IsSomeAnd o (λ x. p < x)) stands past in omega (arith, less, below)

-- what stands behind may be lent
pub behind_not_past : (h : History) (slots : List Slot) (id at q p : ℕ) (part : Range) (s : KeptRange) → StandsBehind h slots id at q p part s → IsPast p s → ⊥
behind_not_past h slots id at q p part s is = below_not_past q p s is.stands is.behind

-- what was lent and served while it stood behind stands in its slot again, advanced
pub holds_advanced : (rows : ℕ) (h more : History) (mid after : Holdings) (id n at q p : ℕ) (part : Range) (s lent t : KeptRange) (old new : ℕ) → more ≡ h → id ≡ n → lent ≡ s → slice_get mid.slots id ≡ Some (Lent at t.range) → after ≡ with_slot id (Held at t) mid →
    WasAdvanced more q p part lent t (old + 1 + rows) new → HoldsAdvanced h after.slots n at q p part s (old + 1 + rows) new
holds_advanced rows h more mid after id n at q p part s lent t old new same number own there set was = record {
  state = t;
  held = subst (λ k. slice_get after.slots k ≡ Some (Held at t)) number (given_back mid after id (Held at t) (Lent at t.range) there set);
  was = subst (λ (w : History × KeptRange). WasAdvanced w.0 q p part w.1 t (old + 1 + rows) new) (λ i. (same i, own i)) was;
}

-- and what was lent and served while something was pending stands there, mended
pub holds_mended : (rows : ℕ) (h more : History) (mid after : Holdings) (id n at p : ℕ) (part : Range) (s lent t : KeptRange) (old new : ℕ) → more ≡ h → id ≡ n → lent ≡ s → slice_get mid.slots id ≡ Some (Lent at t.range) → after ≡ with_slot id (Held at t) mid →
    WasMended more p part lent t (old + 1 + rows) new → HoldsMended h after.slots n at p part s (old + 1 + rows) new
holds_mended rows h more mid after id n at p part s lent t old new same number own there set was = record {
  state = t;
  held = subst (λ k. slice_get after.slots k ≡ Some (Held at t)) number (given_back mid after id (Held at t) (Lent at t.range) there set);
  was = subst (λ (w : History × KeptRange). WasMended w.0 p part w.1 t (old + 1 + rows) new) (λ i. (same i, own i)) was;
}

-- ---- the cost

-- steps that are counted from 0 on
added_steps : (h : History) (slots : List Slot) (id at q p : ℕ) (part : Range) (s : KeptRange) (old new rows : ℕ) → HoldsAdvanced h slots id at q p part s (old + 1 + rows) new → HoldsAdvanced h slots id at q p part s (1 + rows) (new - old)
added_steps h slots id at q p part s old new rows is =
    let begun : old + 1 + rows ≤ is.was.between = forward_order h p s (old + 1 + rows) is.was.between is.was.least in
    record {
      state = is.state;
      held = is.held;
      was = record {
        mid = is.was.mid;
        same = is.was.same;
        at = is.was.at;
        little = is.was.little;
        between = is.was.between - old;
        least = forward_counted h p s (old + 1 + rows) is.was.between (1 + rows) (is.was.between - old) (λ steps low. omega (arith, low)) is.was.least;
        cost = let few = is.was.cost in omega (arith, few);
        alone = λ clear. let so = is.was.alone clear in (so.0, ap (λ n. n - old) so.1);
        mended = λ meets. mended_counted h p part is.was.mid is.state is.was.between new (is.was.between - old) (new - old) (λ steps low. omega (arith, low, begun)) (λ steps up. omega (arith, up)) (is.was.mended meets);
      };
    }

-- so of a mend
mended_steps : (h : History) (slots : List Slot) (id at p : ℕ) (part : Range) (s : KeptRange) (old new rows : ℕ) → HoldsMended h slots id at p part s (old + 1 + rows) new → HoldsMended h slots id at p part s (1 + rows) (new - old)
mended_steps h slots id at p part s old new rows is = record {
  state = is.state;
  held = is.held;
  was = mended_counted h p part s is.state (old + 1 + rows) new (1 + rows) (new - old) (λ steps low. omega (arith, low)) (λ steps up. omega (arith, up)) is.was;
}

-- a part that is read as it may be
pub took_by : {V E : Type 0} (items : V → Table) (r : Result V E) (h : History) (before after : Holdings) (at rank p : ℕ) (part : Part) (old new : ℕ) →
    ((id : ℕ) (s : KeptRange) → part.cell ≡ Some id → s.rank ≡ rank → IsReadySlot before.slots id at p part.range s → IfOk r (λ v. new ≡ old + 1 + length (items v))) →
    ((id : ℕ) (s : KeptRange) → part.cell ≡ Some id → s.rank ≡ rank → IsReadySlot before.slots id at p part.range s → OnOk r (StaysReady before after id at p part.range s)) →
    ((id q : ℕ) (s : KeptRange) → part.cell ≡ Some id → s.rank ≡ rank → StandsBehind h before.slots id at q p part.range s → IfOk r (λ v. HoldsAdvanced h after.slots id at q p part.range s (old + 1 + length (items v)) new)) →
    ((id : ℕ) (s : KeptRange) → part.cell ≡ Some id → s.rank ≡ rank → StandsPending before.slots id at p part.range s → IfOk r (λ v. HoldsMended h after.slots id at p part.range s (old + 1 + length (items v)) new)) →
    ((id : ℕ) (j : Join) → part.cell ≡ Some id → slice_get before.slots id ≡ Some (Held at (forgotten j rank part.range)) → OnOk r (KeepsJust before after rank at p part.range)) →
    IfOk r (λ v. Took h before after at rank p part (length (items v)) (new - old))
took_by items (Ok v) h before after at rank p part old new ready stays behind pending held = record {
  ready = λ id s cell ranked is. let costs = ready id s cell ranked is in omega (arith, costs);
  stays = stays;
  behind = λ id q s cell ranked is. added_steps h after.slots id at q p part.range s old new (length (items v)) (behind id q s cell ranked is);
  pending = λ id s cell ranked is. mended_steps h after.slots id at p part.range s old new (length (items v)) (pending id s cell ranked is);
  held = held;
}
took_by items (Err e) h before after at rank p part old new ready stays behind pending held = tt
