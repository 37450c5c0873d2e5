-- Cells that let go of what they hold for former joins and former ranks.
use Rattle.std.proofs.Common.{◌≡◌, ◌⊎◌, ℕ, ◌+◌, ◌≤◌, false, List, length, take, slice_get, slice_set, Option, Some, None, IfSome, inl, inr, refl, sym, ap, ◌∙◌, subst}
use Rattle.std.specs.Option.{option_and_then}
use Rattle.std.proofs.lemmas.Bool.{cases_eq}
use Rattle.std.proofs.lemmas.Option.{none-some, slice_get_within}
use Rattle.std.proofs.lemmas.List.{length-set}
use Rattle.semantics.specs.Texts.{Range}
use Rattle.semantics.specs.Joins.{Join}
use Rattle.semantics.specs.Histories.{History, joins_of}
use Rattle.key_ranges.specs.Ranges.{meets}
use Rattle.growing_history.specs.Entered.{HasEntered, HasRank}
use Rattle.growing_history.proofs.EnteredLemmas.{has_entered_taken}
use Rattle.kept_ranges.specs.Sound.{KeptRange, IsSoundAt}
use Rattle.cell_slots.specs.declared.slot.Slot.{Slot}
use Rattle.cell_slots.specs.declared.slot.Slot.TheVariants.{Free, Lent, Held}
use Rattle.cell_slots.specs.Places.{KeepsPlace}
use Rattle.cell_slots.specs.Slots.{Holdings, with_slot, place_at, place_of, Frame, HasFree, IsReadySlot, HoldsReady, IsRankAt, IsRightFor, MeetsNone, StandsAs}
use Rattle.cell_slots.specs.Spending.{row_count, StandsBehind, StandsPending}
use Rattle.cell_slots.proofs.DeclaredLemmas.{declared_once, has_rank, rank_declared, stands_as}
use Rattle.cell_slots.proofs.FrameLemmas.{get-set_same, get-set_other}
use Rattle.cell_slots.proofs.PlaceLemmas.{place_from_slot}
use Rattle.cell_table.specs.Moves.{Evicts, IsEvicted}
use Rattle.scan_core.specs.Cells.{HoldsAt}
use Rattle.scan_core.specs.LettingGo.{IsLetGo, LetsGo}
use Rattle.scan_core.specs.Rights.{AreRight}
use Rattle.scan_core.specs.Worlds.{NoneLent, PieceSpends}
use Rattle.scan_core.proofs.RightLemmas.{one_rank}

held_at_same : (at other : ℕ) (s t : KeptRange) → Some (Held at s) ≡ Some (Held other t) → at ≡ other
held_at_same at other s t e = cc

-- one slot holds one kept range
pub held_state_same : (at other : ℕ) (s t : KeptRange) → Some (Held at s) ≡ Some (Held other t) → s ≡ t
held_state_same at other s t e = cc

free_not_lent : (at : ℕ) (range : Range) → Some Free ≡ Some (Lent at range) → ⊥
free_not_lent at range e = cc

-- ---- which cells do

-- none
pub none_goes : (h : History) (p : ℕ) (cells : Holdings) → LetsGo h p cells cells
none_goes h p cells = record { same_count = refl; same_used = refl; same_setting = refl; each = λ id. inl refl }

one_by : (h : History) (p : ℕ) (slots : List Slot) (id at : ℕ) (s : KeptRange) → HoldsAt slots id at s → (IsRankAt h p at (Some s.rank) → ⊥) → (other : ℕ) → (other ≡ id) ⊎ (other ≡ id → ⊥) →
    (slice_get (slice_set slots id Free) other ≡ slice_get slots other) ⊎ IsLetGo h p slots (slice_set slots id Free) other
one_by h p slots id at s held former other (inl e) =
    subst (λ (n : ℕ). (slice_get (slice_set slots id Free) n ≡ slice_get slots n) ⊎ IsLetGo h p slots (slice_set slots id Free) n) (sym e)
    (inr (record { at = at; state = s; held = held; former = former; free = get-set_same slots id Free (slice_get_within slots id (Held at s) held) }))
one_by h p slots id at s held former other (inr apart) = inl (get-set_other slots id other Free apart)

-- one
pub one_goes : (h : History) (p : ℕ) (cells : Holdings) (id at : ℕ) (s : KeptRange) → HoldsAt cells.slots id at s → (IsRankAt h p at (Some s.rank) → ⊥) → LetsGo h p cells (with_slot id Free cells)
one_goes h p cells id at s held former = record {
  same_count = length-set cells.slots id Free;
  same_used = refl;
  same_setting = refl;
  each = λ other. one_by h p cells.slots id at s held former other (cases_eq other id);
}

then_by : (h : History) (p : ℕ) (a b c : List Slot) (id : ℕ) → (slice_get b id ≡ slice_get a id) ⊎ IsLetGo h p a b id → (slice_get c id ≡ slice_get b id) ⊎ IsLetGo h p b c id → (slice_get c id ≡ slice_get a id) ⊎ IsLetGo h p a c id
then_by h p a b c id (inl e) (inl f) = inl (f ∙ e)
then_by h p a b c id (inl e) (inr g) = inr (record { at = g.at; state = g.state; held = sym e ∙ g.held; former = g.former; free = g.free })
then_by h p a b c id (inr g) (inl f) = inr (record { at = g.at; state = g.state; held = g.held; former = g.former; free = f ∙ g.free })
then_by h p a b c id (inr g) (inr k) = inr (record { at = g.at; state = g.state; held = g.held; former = g.former; free = k.free })

-- some, and then others
pub goes_then : (h : History) (p : ℕ) (a b c : Holdings) → LetsGo h p a b → LetsGo h p b c → LetsGo h p a c
goes_then h p a b c first next = record {
  same_count = next.same_count ∙ first.same_count;
  same_used = next.same_used ∙ first.same_used;
  same_setting = next.same_setting ∙ first.same_setting;
  each = λ id. then_by h p a.slots b.slots c.slots id (first.each id) (next.each id);
}

-- a join does not stand with a rank, where another was found, or none
pub other_rank : (h : History) (p at rank : ℕ) (found : Option ℕ) → HasEntered h → IsRankAt h p at found → (found ≡ Some rank → ⊥) → IsRankAt h p at (Some rank) → ⊥
other_rank h p at rank None entered is apart stands = is stands.1.place (record { position = at; join = stands.0 }) stands.1.stands refl
other_rank h p at rank (Some r) entered is apart stands =
    let there : StandsAs h p at r is.0 = stands_as h p r (record { position = at; join = is.0 }) is.1 in
    let here : StandsAs h p at rank stands.0 = stands_as h p rank (record { position = at; join = stands.0 }) stands.1 in
    apart (ap Some (one_rank (take p h) stands.0 r rank (has_entered_taken p h entered) (rank_declared h p at r is.0 stands.0 there here.declared) (has_rank h p at rank stands.0 here)))

-- ---- what stays

free_by : (h : History) (p : ℕ) (a b : List Slot) (id : ℕ) → slice_get a id ≡ Some Free → (slice_get b id ≡ slice_get a id) ⊎ IsLetGo h p a b id → slice_get b id ≡ Some Free
free_by h p a b id free (inl e) = e ∙ free
free_by h p a b id free (inr g) = g.free

-- a cell is free, where one was
pub still_free : (h : History) (p : ℕ) (a b : Holdings) → LetsGo h p a b → HasFree a.slots → HasFree b.slots
still_free h p a b goes free = record { id = free.id; free = free_by h p a.slots b.slots free.id free.free (goes.each free.id) }

apart_by : (h : History) (p : ℕ) (a b : List Slot) (at : ℕ) (range : Range) (id : ℕ) (kept : Range) → MeetsNone a at range → (slice_get b id ≡ slice_get a id) ⊎ IsLetGo h p a b id → KeepsPlace (place_at b) id at kept → meets kept range ≡ false
apart_by h p a b at range id kept apart (inl e) keeps = apart id kept (ap (option_and_then place_of) (sym e) ∙ keeps)
apart_by h p a b at range id kept apart (inr g) keeps = absurd (none-some (at, kept) (sym (place_from_slot place_of b id Free g.free) ∙ keeps))

-- no place meets a range, where none did
pub still_apart : (h : History) (p : ℕ) (a b : Holdings) (at : ℕ) (range : Range) → LetsGo h p a b → MeetsNone a.slots at range → MeetsNone b.slots at range
still_apart h p a b at range goes apart id kept keeps = apart_by h p a.slots b.slots at range id kept apart (goes.each id) keeps

lent_by : (h : History) (p : ℕ) (a b : List Slot) (id at : ℕ) (range : Range) → NoneLent a → (slice_get b id ≡ slice_get a id) ⊎ IsLetGo h p a b id → slice_get b id ≡ Some (Lent at range) → ⊥
lent_by h p a b id at range none (inl e) is = none id at range (sym e ∙ is)
lent_by h p a b id at range none (inr g) is = free_not_lent at range (sym g.free ∙ is)

-- no slot is lent, where none was
pub still_unlent : (h : History) (p : ℕ) (a b : Holdings) → LetsGo h p a b → NoneLent a.slots → NoneLent b.slots
still_unlent h p a b goes none id at range is = lent_by h p a.slots b.slots id at range none (goes.each id) is

ready_by : (h : History) (p : ℕ) (a b : List Slot) (id at : ℕ) (s : KeptRange) → IsRankAt h p at (Some s.rank) → HoldsAt a id at s → (slice_get b id ≡ slice_get a id) ⊎ IsLetGo h p a b id → HoldsAt b id at s
ready_by h p a b id at s stands held (inl e) = e ∙ held
ready_by h p a b id at s stands held (inr g) =
    let same = held_state_same at g.at s g.state (sym held ∙ g.held) in
    let place = held_at_same at g.at s g.state (sym held ∙ g.held) in
    absurd (g.former (subst (λ (n : ℕ). IsRankAt h p n (Some g.state.rank)) place (subst (λ (x : KeptRange). IsRankAt h p at (Some x.rank)) same stands)))

-- a cell can be read over a range, where it could and its join stands: what is right where it stands has its join's rank there
still_ready_slot : (h : History) (p at rank : ℕ) (j : Join) (range : Range) (a b : Holdings) (id : ℕ) (s : KeptRange) → HasEntered h → AreRight h a.slots → StandsAs h p at rank j → LetsGo h p a b → IsReadySlot a.slots id at p range s →
    IsReadySlot b.slots id at p range s
still_ready_slot h p at rank j range a b id s entered right stands goes ready =
    let is : IsRightFor h at s = right.held id (Held at s) ready.held in
    let sound : IsSoundAt s h p = subst (λ o. IfSome o (IsSoundAt s h)) ready.ready.stands is.sound in
    let join : s.join ≡ j = declared_once h at s.join j is.declared stands.declared in
    let same : s.rank ≡ rank = one_rank (take p h) j s.rank rank (has_entered_taken p h entered) (subst (λ k. HasRank (joins_of (take p h)) k s.rank) join sound.stands) (has_rank h p at rank j stands) in
    let here : IsRankAt h p at (Some s.rank) = subst (λ (r : ℕ). IsRankAt h p at (Some r)) (sym same) (j, stands.stands) in
    record { held = ready_by h p a.slots b.slots id at s here ready.held (goes.each id); ready = ready.ready; whole = ready.whole }

-- so some can, where some could
pub still_ready : (h : History) (p at rank : ℕ) (j : Join) (range : Range) (a b : Holdings) → HasEntered h → AreRight h a.slots → StandsAs h p at rank j → LetsGo h p a b → HoldsReady a.slots at p range → HoldsReady b.slots at p range
still_ready h p at rank j range a b entered right stands goes ready = record {
  id = ready.id;
  state = ready.state;
  is = still_ready_slot h p at rank j range a b ready.id ready.state entered right stands goes ready.is;
}

-- what a cell holds behind it holds still, where its join stands with the rank that it has
still_behind : (h : History) (p at q : ℕ) (j : Join) (range : Range) (a b : Holdings) (id : ℕ) (s : KeptRange) → StandsAs h p at s.rank j → LetsGo h p a b → StandsBehind h a.slots id at q p range s → StandsBehind h b.slots id at q p range s
still_behind h p at q j range a b id s stands goes is = record {
  held = ready_by h p a.slots b.slots id at s (j, stands.stands) is.held (goes.each id);
  whole = is.whole;
  stands = is.stands;
  behind = is.behind;
  bare = is.bare;
}

-- so it does where something is pending
still_pending : (h : History) (p at : ℕ) (j : Join) (range : Range) (a b : Holdings) (id : ℕ) (s : KeptRange) → StandsAs h p at s.rank j → LetsGo h p a b → StandsPending a.slots id at p range s → StandsPending b.slots id at p range s
still_pending h p at j range a b id s stands goes is = record {
  held = ready_by h p a.slots b.slots id at s (j, stands.stands) is.held (goes.each id);
  whole = is.whole;
  stands = is.stands;
  meets = is.meets;
}

-- ---- a piece

-- what a piece leaves and costs, where cells let go before it
pub piece_over : (h : History) (before gone after : Holdings) (p : ℕ) (range : Range) (added : ℕ) → HasEntered h → AreRight h before.slots → LetsGo h p before gone → PieceSpends h gone after p range added → PieceSpends h before after p range added
piece_over h before gone after p range added entered right goes spends = record {
  kept = λ place s reach not_empty stands free apart few.
      spends.kept place s reach not_empty stands (still_free h p before gone goes free) (still_apart h p before gone s.position range goes apart)
      (subst (λ (n : ℕ). row_count h p range 0 s.join + 1 ≤ n) (sym (ap (λ x. x.room) goes.same_setting)) few);
  used = λ place s reach not_empty ready.
      let stands = stands_as h p _ s (record { place = place; stands = reach.one.stands; ranked = refl }) in
      spends.used place s reach not_empty (still_ready h p s.position _ s.join range before gone entered right stands goes ready);
  stays = λ place s reach not_empty id held is_ready few.
      let stands = stands_as h p _ s (record { place = place; stands = reach.one.stands; ranked = refl }) in
      spends.stays place s reach not_empty id held (still_ready_slot h p s.position _ s.join range before gone id held entered right stands goes is_ready)
      (subst (λ (n : ℕ). length held.kept.rows + 1 ≤ n) (sym (ap (λ x. x.room) goes.same_setting)) few);
  behind = λ place s reach not_empty id q held stands is_behind.
      spends.behind place s reach not_empty id q held stands (still_behind h p s.position q s.join range before gone id held stands goes is_behind);
  pending = λ place s reach not_empty id held stands is_pending.
      spends.pending place s reach not_empty id held stands (still_pending h p s.position s.join range before gone id held stands goes is_pending);
}

unlent_by : (a b : List Slot) (id at : ℕ) (range : Range) → (slice_get b id ≡ slice_get a id) ⊎ IsEvicted a b id → slice_get b id ≡ Some (Lent at range) → slice_get a id ≡ Some (Lent at range)
unlent_by a b id at range (inl e) is = sym e ∙ is
unlent_by a b id at range (inr g) is = absurd (free_not_lent at range (sym g.free ∙ is))

-- no slot is lent after a piece, where none was
pub unlent_after : (h : History) (p : ℕ) (before gone cleared mid after : Holdings) → LetsGo h p before gone → cleared.slots ≡ gone.slots → Frame 8 cleared mid → Evicts mid.slots after.slots → NoneLent before.slots → NoneLent after.slots
unlent_after h p before gone cleared mid after goes same frame evicts none id at range is =
    let in_cleared = frame.lent id at range (unlent_by mid.slots after.slots id at range (evicts.each id) is) in
    still_unlent h p before gone goes none id at range (sym (ap (λ (slots : List Slot). slice_get slots id) same) ∙ in_cleared)
