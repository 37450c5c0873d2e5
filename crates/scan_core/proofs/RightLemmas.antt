-- What cells hold stays right for a history, whatever is done to them.
use Rattle.std.proofs.Common.{◌≡◌, ◌==◌, ◌⊎◌, ◌&&◌, ◌||◌, ℕ, zero, suc, ◌<◌, ◌≤◌, Bool, true, false, not, List, [], ◌∷◌, take, replicate, slice_get, slice_set, slice_index, Some, None, IfSome, is_some, inl, inr, refl, sym, ap, ◌∙◌, subst, ⊎_elim, arith}
use Rattle.std.proofs.lemmas.Bool.{false≢true, and_from, cases_eq, cases_lt, eq-eqb}
use Rattle.std.proofs.lemmas.Option.{none-some, same_Some}
use Rattle.semantics.specs.Texts.{Text, same, table_of, is_range, Range}
use Rattle.semantics.specs.Patterns.{Segment, literal, slot, Pattern, segments_meet, overlaps}
use Rattle.semantics.specs.Joins.{Join, is_join}
use Rattle.semantics.specs.Histories.{History, IsPrefix, DeclaredJoin, joins_of}
use Rattle.semantics.specs.States.{ranks_of}
use Rattle.semantics.proofs.PieceLemmas.{equal_by_same, same_itself}
use Rattle.semantics.proofs.OfRankLemmas.{apart_at}
use Rattle.semantics.proofs.AdmissibleSets.{entered_is_admissible_lem}
use Rattle.key_ranges.specs.Ranges.{is_below, is_open}
use Rattle.key_ranges.specs.Containing.{bind_range}
use Rattle.key_ranges.proofs.OrderLemmas.{is_up_to, below_up_to}
use Rattle.key_ranges.proofs.RangeLemmas.{within_table}
use Rattle.growing_history.specs.Changes.{has_table, is_bare}
use Rattle.growing_history.specs.Entered.{HasEntered, HasRank}
use Rattle.layering.specs.Parts.{IsWithin}
use Rattle.layering.proofs.ReachLemmas.{bare_reaches_none}
use Rattle.kept_ranges.specs.Sound.{KeptRange, IsSoundAt}
use Rattle.kept_ranges.proofs.SoundLemmas.{sound_over_longer}
use Rattle.range_state.specs.Held.{forgotten}
use Rattle.cell_slots.specs.declared.slot.Slot.{Slot}
use Rattle.cell_slots.specs.declared.slot.Slot.TheVariants.{Free, Lent, Held}
use Rattle.cell_slots.specs.Slots.{Holdings, place_of, IsDeclared, IsReached, IsReadySlot, IsRightFor, IsSoundSlot}
use Rattle.cell_slots.proofs.DeclaredLemmas.{declared_over_longer, declared_once, has_rank}
use Rattle.cell_slots.proofs.FrameLemmas.{get-set_other}
use Rattle.cell_table.specs.Stores.{AreOfTable}
use Rattle.cell_table.specs.Moves.{Evicts, ReservesParts}
use Rattle.cell_table.proofs.SlotLemmas.{keeper}
use Rattle.scan_core.specs.Rights.{IsRightPlace, AreRight}

-- ---- the table of an output

-- an output is of one table
one_table : (p : Pattern) (t u : Text) → has_table p t ≡ true → has_table p u ≡ true → t ≡ u
one_table [] t u h g = absurd (false≢true h)
one_table (literal l ∷ ss) t u h g = sym (equal_by_same l t h) ∙ equal_by_same l u g
one_table (slot place width ∷ ss) t u h g = absurd (false≢true h)

-- a range that reaches an output is of its table
pub reached_table : (j : Join) (range : Range) → is_join j ≡ true → is_range range.low range.high ≡ true → is_some (bind_range j.output range) ≡ true → has_table j.output (table_of range.low) ≡ true
reached_table j range ok is reaches = by (has_table j.output (table_of range.low)) refl
  where
    alone : DeclaredJoin
    alone = record { position = 0; join = j }

    by : (b : Bool) → has_table j.output (table_of range.low) ≡ b → b ≡ true
    by true e = refl
    by false e =
        let bare : is_bare range (alone ∷ []) ≡ true = ap (λ x. not x && true) e in
        let none : bind_range j.output range ≡ None = (bare_reaches_none (alone ∷ []) range (ok, tt) is bare).0 in
        absurd (false≢true (sym (ap is_some none) ∙ reaches))

-- ---- ranks

or_last : (a b : Bool) → (a || b || true) ≡ true
or_last true b = refl
or_last false true = refl
or_last false false = refl

meets_itself : (s : Segment) → segments_meet s s ≡ true
meets_itself (literal l) = same_itself l
meets_itself (slot place width) = (λ i. width == 0 || (width == 0) || (eq-eqb width width refl i)) ∙ or_last (width == 0) (width == 0)

overlaps_itself : (p : Pattern) → overlaps p p ≡ true
overlaps_itself [] = refl
overlaps_itself (s ∷ ss) = and_from (segments_meet s s) (overlaps ss ss) (meets_itself s) (overlaps_itself ss)

below_other : (m n : ℕ) → n ≤ m → (m ≡ n → ⊥) → n < m
below_other m n most other = ⊎_elim (λ less. less) (λ least. absurd (other (omega (arith, most, least)))) (cases_lt n m)

-- a join stands with one rank
pub one_rank : (h : History) (j : Join) (r s : ℕ) → HasEntered h → HasRank (joins_of h) j r → HasRank (joins_of h) j s → r ≡ s
one_rank h j r s entered a b =
    let apart = (entered_is_admissible_lem h entered.entered).apart in
    let clash : (x y : DeclaredJoin) → overlaps x.join.output y.join.output ≡ false → x.join ≡ j → y.join ≡ j → ⊥ =
    λ x y not_over is also. false≢true (sym not_over ∙ (λ i. overlaps (is i).output (also i).output) ∙ overlaps_itself j.output) in
    ⊎_elim (λ (e : a.place ≡ b.place). sym a.ranked ∙ ap (slice_index (ranks_of (joins_of h))) e ∙ b.ranked)
    (λ other. ⊎_elim
    (λ less. absurd (clash a.standing b.standing (apart_at (joins_of h) a.place b.place a.standing b.standing apart less a.stands b.stands) a.is b.is))
    (λ most. absurd (clash b.standing a.standing (apart_at (joins_of h) b.place a.place b.standing a.standing apart (below_other a.place b.place most other) b.stands a.stands) b.is a.is))
    (cases_lt a.place b.place))
    (cases_eq a.place b.place)

-- ---- one slot that is set

pub set_here : (slots : List Slot) (id : ℕ) (filled x : Slot) → slice_get (slice_set slots id filled) id ≡ Some x → (x ≡ filled) ⊎ (slice_get slots id ≡ Some x)
set_here [] id filled x is = inr is
set_here (y ∷ ys) zero filled x is = inl (sym (same_Some filled x is))
set_here (y ∷ ys) (suc id) filled x is = set_here ys id filled x is

-- a slot that stands where one is set
set_cases : (slots : List Slot) (id other : ℕ) (filled x : Slot) → slice_get (slice_set slots id filled) other ≡ Some x → (x ≡ filled) ⊎ (slice_get slots other ≡ Some x)
set_cases slots id other filled x is = by (cases_eq other id)
  where
    by : (other ≡ id) ⊎ (other ≡ id → ⊥) → (x ≡ filled) ⊎ (slice_get slots other ≡ Some x)
    by (inl e) =
        subst (λ (n : ℕ). (x ≡ filled) ⊎ (slice_get slots n ≡ Some x)) (sym e)
        (set_here slots id filled x (subst (λ (n : ℕ). slice_get (slice_set slots id filled) n ≡ Some x) e is))
    by (inr apart) = inr (sym (get-set_other slots id other filled apart) ∙ is)

-- what cells hold is right where what is set is
pub right_set : (h : History) (slots : List Slot) (id : ℕ) (filled : Slot) → AreRight h slots → IsSoundSlot h filled →
    ((at : ℕ) (range : Range) → place_of filled ≡ Some (at, range) → IsRightPlace h at range) → AreRight h (slice_set slots id filled)
right_set h slots id filled right sound place = record {
  held = λ other x is. ⊎_elim (λ e. subst (IsSoundSlot h) (sym e) sound) (λ at. right.held other x at) (set_cases slots id other filled x is);
  placed = λ other x at range is p. ⊎_elim (λ e. place at range (sym (ap place_of e) ∙ p)) (λ stands. right.placed other x at range stands p) (set_cases slots id other filled x is);
}

-- so it is where a slot keeps its place
pub right_same_place : (h : History) (slots : List Slot) (id : ℕ) (old filled : Slot) → AreRight h slots → slice_get slots id ≡ Some old → IsSoundSlot h filled → place_of filled ≡ place_of old → AreRight h (slice_set slots id filled)
right_same_place h slots id old filled right stands sound same =
    right_set h slots id filled right sound (λ at range is. right.placed id old at range stands (sym same ∙ is))

-- and where it is freed
pub right_free : (h : History) (slots : List Slot) (id : ℕ) → AreRight h slots → AreRight h (slice_set slots id Free)
right_free h slots id right = right_set h slots id Free right tt (λ at range is. absurd (none-some (at, range) is))

-- ---- all slots

pub free_there : (count id : ℕ) (filled : Slot) → slice_get (replicate count Free) id ≡ Some filled → Free ≡ filled
free_there zero id filled is = absurd (none-some filled is)
free_there (suc count) zero filled is = same_Some Free filled is
free_there (suc count) (suc id) filled is = free_there count id filled is

-- free slots
pub right_at_first : (h : History) (count : ℕ) → AreRight h (replicate count Free)
right_at_first h count = record {
  held = λ id filled is. subst (IsSoundSlot h) (free_there count id filled is) tt;
  placed = λ id filled at range is p. absurd (none-some (at, range) (ap place_of (free_there count id filled is) ∙ p));
}

-- a longer history
pub right_more : (h more : History) (slots : List Slot) → IsPrefix h more → AreRight h slots → AreRight more slots
right_more h more slots prefix right = record {
  held = λ id filled is. by filled (right.held id filled is);
  placed = λ id filled at range is p.
      let was = right.placed id filled at range is p in
      record { join = was.join; declared = declared_over_longer h more at was.join prefix was.declared; table = was.table };
}
  where
    by : (filled : Slot) → IsSoundSlot h filled → IsSoundSlot more filled
    by Free sound = tt
    by (Lent at range) sound = tt
    by (Held at s) sound = record { declared = declared_over_longer h more at s.join prefix sound.declared; sound = sound_over_longer s h more prefix sound.sound }

-- slots of which some were evicted
pub right_evicted : (h : History) (before after : List Slot) → Evicts before after → AreRight h before → AreRight h after
right_evicted h before after evicts right = record {
  held = λ id filled is. ⊎_elim (λ e. right.held id filled (sym e ∙ is))
      (λ gone. subst (IsSoundSlot h) (same_Some Free filled (sym gone.free ∙ is)) tt) (evicts.each id);
  placed = λ id filled at range is p. ⊎_elim (λ e. right.placed id filled at range (sym e ∙ is) p)
      (λ gone. absurd (none-some (at, range) (ap place_of (same_Some Free filled (sym gone.free ∙ is)) ∙ p))) (evicts.each id);
}

-- slots of which some were reserved for parts of a range that reaches the output of a join
pub right_reserved : (h : History) (before after : Holdings) (at rank : ℕ) (j : Join) (range : Range) → ReservesParts before after at rank j range → IsDeclared h at j → is_range range.low range.high ≡ true →
    has_table j.output (table_of range.low) ≡ true → AreRight h before.slots → AreRight h after.slots
right_reserved h before after at rank j range reserves declared is table right = record {
  held = λ id filled there. ⊎_elim (λ e. right.held id filled (sym e ∙ there))
      (λ r. subst (IsSoundSlot h) (same_Some (Held at (forgotten j rank r.part)) filled (sym r.holds ∙ there)) (record { declared = declared; sound = tt })) (reserves.each id);
  placed = λ id filled other kept there p. ⊎_elim (λ e. right.placed id filled other kept (sym e ∙ there) p)
      (λ r. place r.part r.inside r.not_empty other kept (ap place_of (same_Some (Held at (forgotten j rank r.part)) filled (sym r.holds ∙ there)) ∙ p)) (reserves.each id);
}
  where
    of_part : (part : Range) → IsWithin part range → is_open part ≡ true → table_of part.low ≡ table_of range.low
    of_part part inside full = within_table range part.low is (and_from (is_up_to range.low part.low) (is_below part.low range.high) inside.begins (below_up_to part.low part.high range.high full inside.ends))

    place : (part : Range) → IsWithin part range → is_open part ≡ true → (other : ℕ) (kept : Range) → place_of (Held at (forgotten j rank part)) ≡ Some (other, kept) → IsRightPlace h other kept
    place part inside full other kept e =
        subst (λ (q : ℕ × Range). IsRightPlace h q.0 q.1) (same_Some (at, part) (other, kept) e)
        (record { join = j; declared = declared; table = subst (λ t. has_table j.output t ≡ true) (sym (of_part part inside full)) table })

-- ---- what is known of right cells

-- the places of a join are of the table of a range that reaches its output
pub places_of_table : (h : History) (slots : List Slot) (at : ℕ) (j : Join) (name : Text) → AreRight h slots → IsDeclared h at j → has_table j.output name ≡ true → AreOfTable slots at name
places_of_table h slots at j name right declared table id kept keeps =
    let k = keeper slots id at kept keeps in
    let place = right.placed id k.slot at kept k.stands k.place in
    one_table j.output (table_of kept.low) name
    (subst (λ (x : Join). has_table x.output (table_of kept.low) ≡ true) (declared_once h at place.join j place.declared declared) place.table) table

-- a cell that is ready at a position holds its join's rank there
pub ready_rank : (h : History) (slots : List Slot) (id at p rank : ℕ) (range : Range) (s : KeptRange) → HasEntered (take p h) → AreRight h slots → IsReached h p at rank range → IsReadySlot slots id at p range s → s.rank ≡ rank
ready_rank h slots id at p rank range s entered right reached ready =
    let is : IsRightFor h at s = right.held id (Held at s) ready.held in
    let sound : IsSoundAt s h p = subst (λ o. IfSome o (IsSoundAt s h)) ready.ready.stands is.sound in
    let join : s.join ≡ reached.join = declared_once h at s.join reached.join is.declared reached.stands.declared in
    one_rank (take p h) reached.join s.rank rank entered (subst (λ j. HasRank (joins_of (take p h)) j s.rank) join sound.stands) (has_rank h p at rank reached.join reached.stands)
