-- What the core as one value keeps.
use Rattle.std.proofs.Common.{◌≡◌, ◌⊎◌, ◌<◌, ◌≤◌, ℕ, List, length, take, replicate, slice_get, slice_set, Option, Some, None, IsSomeAnd, inl, inr, sym, ◌∙◌, subst, ⊎_elim}
use Rattle.std.proofs.lemmas.Bool.{cases_eq}
use Rattle.semantics.specs.Texts.{Range}
use Rattle.semantics.specs.Histories.{joins_of}
use Rattle.growing_history.specs.Entered.{HasRank}
use Rattle.kept_ranges.specs.Sound.{KeptRange}
use Rattle.cell_slots.specs.declared.slot.Slot.{Slot}
use Rattle.cell_slots.specs.declared.slot.Slot.TheVariants.{Free, Lent, Held}
use Rattle.cell_slots.specs.Slots.{IsRankAt, IsRightFor}
use Rattle.cell_slots.proofs.DeclaredLemmas.{has_rank, stands_ranked}
use Rattle.cell_slots.proofs.FrameLemmas.{get-set_other}
use Rattle.scan_core.specs.Cells.{HoldsAt}
use Rattle.scan_core.specs.Worlds.{CoreWorld, NoneLent, IsRankTo}
use Rattle.scan_core.proofs.RightLemmas.{free_there, set_here}

held_same : (at other : ℕ) (s t : KeptRange) → Some (Held at s) ≡ Some (Held other t) → at ≡ other
held_same at other s t e = cc

state_same : (at other : ℕ) (s t : KeptRange) → Some (Held at s) ≡ Some (Held other t) → s ≡ t
state_same at other s t e = cc

-- free slots are not lent
pub none_lent_first : (count : ℕ) → NoneLent (replicate count Free)
none_lent_first count id at range is = free_not_lent at range (free_there count id (Lent at range) is)
  where
    free_not_lent : (at : ℕ) (range : Range) → Free ≡ Lent at range → ⊥
    free_not_lent at range e = cc

-- nor is one that is freed
pub none_lent_freed : (slots : List Slot) (id : ℕ) → NoneLent slots → NoneLent (slice_set slots id Free)
none_lent_freed slots id none other at range is = by (cases_eq other id)
  where
    not_free : Lent at range ≡ Free → ⊥
    not_free e = cc

    by : (other ≡ id) ⊎ (other ≡ id → ⊥) → ⊥
    by (inl e) = ⊎_elim not_free (none id at range) (set_here slots id Free (Lent at range) (subst (λ (n : ℕ). slice_get (slice_set slots id Free) n ≡ Some (Lent at range)) e is))
    by (inr apart) = none other at range (sym (get-set_other slots id other Free apart) ∙ is)

-- the rank of what a cell holds, by the rank of its join
pub rank_to_from : (before : CoreWorld) (id to at : ℕ) (s : KeptRange) (found : Option ℕ) → HoldsAt before.cells.slots id at s → IsRightFor before.world.history at s → (IsSomeAnd s.position (λ q. to < q) → ⊥) → to ≤ length before.world.history →
    IsRankAt before.world.history to at found → IsRankTo before id to found
rank_to_from before id to at s None held right upto inside none = λ may.
    let same = held_same at may.at s may.kept (sym held ∙ may.held) in
    none may.stands.1.place (record { position = may.at; join = may.stands.0 }) may.stands.1.stands (sym same)
rank_to_from before id to at s (Some rank) held right upto inside found = (
  record { at = at; kept = s; held = held; upto = upto; within = inside; rank = rank; stands = found },
  λ other t there. subst (λ (x : KeptRange). HasRank (joins_of (take to before.world.history)) x.join rank) (state_same at other s t (sym held ∙ there))
      (has_rank before.world.history to at rank s.join (stands_ranked before.world.history to at rank s.join right.declared found)),
)
