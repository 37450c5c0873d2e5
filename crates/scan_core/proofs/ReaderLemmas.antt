-- What the reader of all ranks leaves of what cells hold, where one is taken out, worked on and put back.
use Rattle.std.proofs.Common.{◌≡◌, ◌⊎◌, ℕ, ◌+◌, ◌<◌, ◌≤◌, [], true, false, take, slice_get, List, Option, Some, None, IfSome, is_some, Result, Ok, Err, OnOk, inl, inr, sym, ap, ◌∙◌, subst, arith}
use Rattle.std.proofs.lemmas.Bool.{cases_eq, false≢true}
use Rattle.std.proofs.lemmas.Option.{slice_get_within}
use Rattle.semantics.specs.Texts.{is_range, Range}
use Rattle.semantics.specs.Joins.{Join}
use Rattle.semantics.specs.Histories.{History, IsPrefix, joins_of}
use Rattle.semantics.specs.States.{below, ranks_of}
use Rattle.semantics.proofs.OfRankLemmas.{all_at}
use Rattle.semantics.proofs.AdmissibleSets.{entered_is_admissible_lem}
use Rattle.growing_history.specs.Entered.{HasEntered, HasRank}
use Rattle.growing_history.proofs.EnteredLemmas.{has_entered_taken}
use Rattle.kept_ranges.specs.Sound.{KeptRange, IsSound, IsSoundAt}
use Rattle.range_state.specs.Ready.{StandsAt, pending_meets}
use Rattle.range_state.specs.Asking.{AreBareThroughout}
use Rattle.range_state.specs.Work.{AreBareUnder, TouchesLittle, advance_steps, mend_steps}
use Rattle.cell_slots.specs.Serving.{MendsPart, WasMended}
use Rattle.cell_slots.specs.declared.slot.Slot.{Slot}
use Rattle.cell_slots.specs.declared.slot.Slot.TheVariants.{Lent, Held}
use Rattle.cell_slots.specs.Slots.{Holdings, with_slot, KeepPlaces, Frame, HasFree, MeetsNone, IsReadySlot, HoldsReady, IsDeclared, IsRightFor}
use Rattle.cell_slots.specs.Spending.{Spends, StandsBehind, StandsPending}
use Rattle.cell_slots.proofs.DeclaredLemmas.{declared_over_longer}
use Rattle.cell_slots.proofs.FrameLemmas.{get-set_same, get-set_other, places_around}
use Rattle.cell_table.specs.Moves.{Evicts}
use Rattle.scan_core.specs.Places.{HasSamePlace}
use Rattle.scan_core.specs.Cells.{HoldsAt, IsTaken, IsTakenOut, KeepsLast}
use Rattle.scan_core.specs.Rights.{AreRight, Contents}
use Rattle.scan_core.specs.Worlds.{NoneLent, IsAdvancedIn, IsMendedIn, PieceSpends}
use Rattle.scan_core.proofs.RightLemmas.{one_rank}
use Rattle.scan_core.proofs.LettingLemmas.{held_state_same}
use Rattle.scan_core.proofs.SpendLemmas.{behind_after, index_stands, kept_after, pending_after, rank_within, stays_after, used_after}

-- what was found is what was taken out
pub taken_out : (h : History) (id : ℕ) (before after : Holdings) (found : Option (ℕ × KeptRange)) (at : ℕ) (s : KeptRange) → found ≡ Some (at, s) → IsTaken h id before after found → IsTakenOut h id before after at s
taken_out h id before after found at s is taken = subst (IsTaken h id before after) is taken

-- what holds where something is there holds where it is
pub where_some : (o : Option ℕ) (P : Type 0) → IfSome o (λ q. P) → is_some o ≡ true → P
where_some None P h some = absurd (false≢true some)
where_some (Some q) P h some = h

-- a kept range that stands somewhere has a rank that a reader of all ranks reads
pub small_rank : (h : History) (s : KeptRange) → HasEntered h → IsSound s h → IfSome s.position (λ q. s.rank ≤ 8)
small_rank h s entered sound = by s.position sound
  where
    by : (o : Option ℕ) → IfSome o (IsSoundAt s h) → IfSome o (λ q. s.rank ≤ 8)
    by None sound = tt
    by (Some q) sound =
        let r = sound.stands in
        let joins = joins_of (take q h) in
        let few = all_at (λ n. n ≤ 7) (ranks_of joins) r.place _ (entered_is_admissible_lem (take q h) (has_entered_taken q h entered).entered).shallow (index_stands (ranks_of joins) r.place (rank_within joins r.place r.standing r.stands)) in
        omega (arith, few, r.ranked)

-- so has a join that stands
pub rank_small : (h : History) (q : ℕ) (j : Join) (rank : ℕ) → HasEntered h → HasRank (joins_of (take q h)) j rank → rank ≤ 8
rank_small h q j rank entered r =
    let joins = joins_of (take q h) in
    let few = all_at (λ n. n ≤ 7) (ranks_of joins) r.place _ (entered_is_admissible_lem (take q h) (has_entered_taken q h entered).entered).shallow (index_stands (ranks_of joins) r.place (rank_within joins r.place r.standing r.stands)) in
    omega (arith, few, r.ranked)

-- the place of what was taken out is still lent
pub still_there : (before taken mid : Holdings) (id at : ℕ) (s : KeptRange) (range : Range) → HoldsAt before.slots id at s → taken ≡ with_slot id (Lent at s.range) before → Frame 8 taken mid → range ≡ s.range →
    slice_get mid.slots id ≡ Some (Lent at range)
still_there before taken mid id at s range held lent frame same =
    frame.left id (Lent at s.range) (ap (λ (c : Holdings). slice_get c.slots id) lent ∙ get-set_same before.slots id (Lent at s.range) (slice_get_within before.slots id (Held at s) held)) tt
    ∙ ap (λ r. Some (Lent at r)) (sym same)

-- what was worked on is right for the history after it
pub right_same : (h more : History) (at : ℕ) (s t : KeptRange) → IsPrefix h more → IsRightFor h at s → HasSamePlace s t → IsSound t more → IsRightFor more at t
right_same h more at s t prefix right same sound = record {
  declared = subst (IsDeclared more at) (sym same.join) (declared_over_longer h more at s.join prefix right.declared);
  sound = sound;
}

-- it stands in its slot afterwards
pub held_back : (mid after : Holdings) (id at : ℕ) (s : KeptRange) → slice_get mid.slots id ≡ Some (Lent at s.range) → after ≡ with_slot id (Held at s) mid → HoldsAt after.slots id at s
held_back mid after id at s lent put =
    ap (λ (c : Holdings). slice_get c.slots id) put ∙ get-set_same mid.slots id (Held at s) (slice_get_within mid.slots id (Lent at s.range) lent)

held_not_lent : (at other : ℕ) (s : KeptRange) (range : Range) → Some (Held at s) ≡ Some (Lent other range) → ⊥
held_not_lent at other s range e = cc

-- and no slot is lent, where none was
pub none_lent_back : (before taken mid after : Holdings) (id at : ℕ) (s t : KeptRange) → taken ≡ with_slot id (Lent at s.range) before → Frame 8 taken mid → slice_get mid.slots id ≡ Some (Lent at t.range) →
    after ≡ with_slot id (Held at t) mid → NoneLent before.slots → NoneLent after.slots
none_lent_back before taken mid after id at s t lent frame there put none other from range is = by (cases_eq other id)
  where
    by : (other ≡ id) ⊎ (other ≡ id → ⊥) → ⊥
    by (inl e) = held_not_lent at from t range (sym (held_back mid after id at t there put) ∙ ap (slice_get after.slots) (sym e) ∙ is)
    by (inr apart) =
        let in_mid = sym (ap (λ (c : Holdings). slice_get c.slots other) put ∙ get-set_other mid.slots id other (Held at t) apart) ∙ is in
        let in_taken = frame.lent other from range in_mid in
        none other from range (sym (ap (λ (c : Holdings). slice_get c.slots other) lent ∙ get-set_other before.slots id other (Lent at s.range) apart) ∙ in_taken)

-- and each place that was kept is
pub places_back : (before taken mid after : Holdings) (id at : ℕ) (s t : KeptRange) → HoldsAt before.slots id at s → taken ≡ with_slot id (Lent at s.range) before → Frame 8 taken mid → slice_get mid.slots id ≡ Some (Lent at t.range) →
    after ≡ with_slot id (Held at t) mid → t.range ≡ s.range → KeepPlaces before.slots after.slots
places_back before taken mid after id at s t held lent frame there put same =
    places_around before.slots taken.slots mid.slots after.slots id at s t s.range held (ap (λ (c : Holdings). c.slots) lent) frame.places (slice_get_within mid.slots id (Lent at t.range) there) (ap (λ (c : Holdings). c.slots) put) same

-- where a kept range is advanced, its cell is
pub advanced_from : {X E : Type 0} (r : Result X E) (h more : History) (before after : List Slot) (id at to rank : ℕ) (s t : KeptRange) → HasEntered more → more ≡ h → HoldsAt before id at s → HoldsAt after id at t → t.range ≡ s.range → KeepPlaces before after →
    HasRank (joins_of (take to more)) s.join rank → OnOk r (StandsAt to t) →
    ((q : ℕ) → s.rank ≡ rank → StandsAt q s → q < to → AreBareThroughout more q to s.kept.needs → OnOk r (TouchesLittle more q to s t)) → OnOk r (IsAdvancedIn h before after id to)
advanced_from (Ok x) h more before after id at to rank s t entered same was held range places has stands little =
    subst (λ (l : History). IsAdvancedIn l before after id to) same (record {
      at = at;
      was = s;
      kept = t;
      held_before = was;
      held = held;
      stands = stands;
      range = range;
      little = λ q ranked there less bare. little q (one_rank (take to more) s.join s.rank rank (has_entered_taken to more entered) ranked has) there less bare;
      places = places;
    })
advanced_from (Err e) h more before after id at to rank s t entered same was held range places has stands little = tt

-- it costs what advancing costs what the cell holds
pub cost_from : {X E : Type 0} (r : Result X E) (h more : History) (slots : List Slot) (id at to rank first last : ℕ) (s : KeptRange) → more ≡ h → HoldsAt slots id at s →
    ((q : ℕ) → s.rank ≡ rank → StandsAt q s → q < to → AreBareThroughout more q to s.kept.needs → OnOk r (last ≤ first + advance_steps more q to s.kept.needs)) →
    (other q : ℕ) (t : KeptRange) → HoldsAt slots id other t → t.rank ≡ rank → StandsAt q t → q < to → AreBareThroughout h q to t.kept.needs → OnOk r (last ≤ first + advance_steps h q to t.kept.needs)
cost_from r h more slots id at to rank first last s same held cost other q t is ranked stands less bare =
    let one : s ≡ t = held_state_same at other s t (sym held ∙ is) in
    subst (λ (l : History). OnOk r (last ≤ first + advance_steps l q to t.kept.needs)) same
    (subst (λ (x : KeptRange). OnOk r (last ≤ first + advance_steps more q to x.kept.needs)) one
    (cost q (subst (λ (x : KeptRange). x.rank ≡ rank) (sym one) ranked) (subst (StandsAt q) (sym one) stands) less
    (subst (λ (x : KeptRange). AreBareThroughout more q to x.kept.needs) (sym one) (subst (λ (l : History). AreBareThroughout l q to t.kept.needs) (sym same) bare))))

-- where mending succeeds, the cell is mended
pub mended_from : {X E : Type 0} (r : Result X E) (h more : History) (before after : List Slot) (id at : ℕ) (part : Range) (s t : KeptRange) (old new : ℕ) → more ≡ h → HoldsAt before id at s → HoldsAt after id at t → t.range ≡ s.range →
    KeepPlaces before after → OnOk r (t.position ≡ s.position) → OnOk r (pending_meets t part ≡ false) → ((q : ℕ) → StandsAt q s → OnOk r (WasMended more q part s t old new)) → OnOk r (IsMendedIn h before after id part)
mended_from (Ok x) h more before after id at part s t old new same was held range places position clear mended = record {
  at = at;
  was = s;
  kept = t;
  held_before = was;
  held = held;
  range = range;
  position = position;
  clear = clear;
  places = places;
  mends = λ q stands. subst (λ (l : History). MendsPart l q part s t) same (mended q stands).mends;
}
mended_from (Err e) h more before after id at part s t old new same was held range places position clear mended = tt

-- it costs what mending costs what the cell holds
pub mend_cost_from : {X E : Type 0} (r : Result X E) (h more : History) (slots : List Slot) (id at first last : ℕ) (part : Range) (s t : KeptRange) → more ≡ h → HoldsAt slots id at s →
    ((q : ℕ) → StandsAt q s → OnOk r (WasMended more q part s t first last)) →
    (other q : ℕ) (k : KeptRange) → HoldsAt slots id other k → StandsAt q k → AreBareUnder k h q part → OnOk r (last ≤ first + mend_steps k (below (take q h) k.rank) part)
mend_cost_from (Ok x) h more slots id at first last part s t same held mended other q k is stands bare =
    let one : s ≡ k = held_state_same at other s k (sym held ∙ is) in
    let cost : AreBareUnder k h q part → last ≤ first + mend_steps k (below (take q h) k.rank) part =
    subst (λ (w : History × KeptRange). AreBareUnder w.1 w.0 q part → last ≤ first + mend_steps w.1 (below (take q w.0) w.1.rank) part) (λ i. (same i, one i)) (mended q (subst (StandsAt q) (sym one) stands)).cost in
    cost bare
mend_cost_from (Err e) h more slots id at first last part s t same held mended other q k is stands bare = tt

-- ---- a piece

-- what a piece leaves and costs
pub piece_from : (h read : History) (before cleared : Holdings) (mid : Contents) (after : Holdings) (p : ℕ) (range : Range) (added : ℕ) → read ≡ h → cleared.slots ≡ before.slots → cleared.used ≡ [] → cleared.setting ≡ before.setting →
    mid.history ≡ read → mid.cells.setting ≡ cleared.setting → HasEntered read → is_range range.low range.high ≡ true → Spends read cleared mid.cells p range 8 added → AreRight mid.history mid.cells.slots → KeepsLast mid after.slots →
    Evicts mid.cells.slots after.slots → PieceSpends h before after p range added
piece_from h read before cleared mid after p range added same slots unused setting same_mid setting_mid entered is spends right keeps evicts =
    let entered_h = subst HasEntered same entered in
    let spends_h = subst (λ l. Spends l cleared mid.cells p range 8 added) same spends in
    record {
      kept = λ place s reach not_empty stands free apart few.
          kept_after h p range place s cleared mid after.slots before.setting.room added entered_h unused (same_mid ∙ same) (ap (λ x. x.room) (setting_mid ∙ setting)) spends_h right keeps reach not_empty
          stands (subst HasFree (sym slots) free) (subst (λ xs. MeetsNone xs s.position range) (sym slots) apart) few;
      used = λ place s reach not_empty ready.
          used_after h p range place s cleared mid.cells added entered_h is spends_h reach not_empty (subst (λ xs. HoldsReady xs s.position p range) (sym slots) ready);
      stays = λ place s reach not_empty id held is_ready few.
          stays_after h p range place s cleared mid after.slots before.setting.room added entered_h unused (ap (λ x. x.room) (setting_mid ∙ setting)) spends_h keeps reach not_empty
          id held (subst (λ xs. IsReadySlot xs id s.position p range held) (sym slots) is_ready) few;
      behind = λ place s reach not_empty id q held stands behind.
          behind_after h p range place s cleared mid.cells after.slots added entered_h is spends_h evicts reach not_empty id q held stands (subst (λ xs. StandsBehind h xs id s.position q p range held) (sym slots) behind);
      pending = λ place s reach not_empty id held stands pending.
          pending_after h p range place s cleared mid.cells after.slots added entered_h is spends_h evicts reach not_empty id held stands (subst (λ xs. StandsPending xs id s.position p range held) (sym slots) pending);
    }
