-- What a piece of a scan leaves in the cells, and what it costs.
use Rattle.std.proofs.Common.{◌≡◌, ◌++◌, ◌+◌, ◌-◌, ℕ, zero, suc, ◌<◌, ◌≤◌, ◌⊎◌, inl, inr, true, cond, List, [], ◌∷◌, length, take, slice_get, slice_index, Some, IfSome, refl, sym, ap, ◌∙◌, subst, arith}
use Rattle.std.specs.List.{AllByRecursion}
use Rattle.std.proofs.lemmas.List.Sums.{length-filter, count_by-le-length}
use Rattle.std.proofs.lemmas.Option.{slice_get_within}
use Rattle.semantics.specs.Texts.{Text, Table, is_range, Range, within, pairs_within}
use Rattle.semantics.specs.Joins.{Join, is_join}
use Rattle.semantics.specs.Histories.{Entry, History, DeclaredJoin, joins_of}
use Rattle.semantics.specs.Outputs.{out}
use Rattle.semantics.specs.States.{ranks_of, below, state}
use Rattle.semantics.proofs.OfRankLemmas.{all_at, length-ranks_of}
use Rattle.semantics.proofs.AdmissibleSets.{entered_is_admissible_lem}
use Rattle.key_ranges.specs.Ranges.{is_open}
use Rattle.growing_history.specs.Entered.{IsWrite, HasEntered, HasRank}
use Rattle.growing_history.proofs.EnteredLemmas.{has_entered_taken}
use Rattle.layering.proofs.AloneLemmas.{one_reached_in_rank, none_reached_in_others}
use Rattle.layering.proofs.LayerLemmas.{one_reached_length}
use Rattle.kept_ranges.specs.Kept.{Kept, IsRight, IsRowKey, is_covered}
use Rattle.kept_ranges.specs.Sound.{KeptRange, IsSoundAt}
use Rattle.kept_ranges.proofs.ReadLemmas.{rows_are_output}
use Rattle.cell_slots.specs.declared.slot.Slot.{Slot}
use Rattle.cell_slots.specs.declared.slot.Slot.TheVariants.{Free, Held}
use Rattle.cell_slots.specs.Slots.{Holdings, IsDeclared, StandsAs, HasFree, MeetsNone, IsReadySlot, HoldsReady, HoldsJust, IsRightFor}
use Rattle.cell_slots.specs.Spending.{base_count, row_count, ReachesOnly, Spends, StandsBehind, StandsPending}
use Rattle.cell_slots.proofs.DeclaredLemmas.{declared_once, has_rank}
use Rattle.cell_table.specs.Moves.{Evicts, IsEvicted}
use Rattle.scan_core.specs.Rights.{AreRight, Contents}
use Rattle.scan_core.specs.Cells.{HoldsAt, KeepsLast}
use Rattle.scan_core.specs.Worlds.{LeavesAdvanced, LeavesMended, ReachesPush}
use Rattle.scan_core.proofs.RightLemmas.{one_rank}

-- what was declared is a join
pub declared_is_join : (h : History) (at : ℕ) (j : Join) → HasEntered h → IsDeclared h at j → is_join j ≡ true
declared_is_join h at j entered declared =
    subst IsWrite declared.declares (all_at (λ (e : Entry). IsWrite e.write) h (at - 1) declared.entry entered.writes declared.stands)

-- ---- how many rows are kept

all_within : (range : Range) (table : Table) → AllByRecursion (λ pair. within range pair.0 ≡ true) table → pairs_within range table ≡ table
all_within range [] inside = refl
all_within range (pair ∷ pairs) inside = ap (λ b. cond b (pair ∷ pairs_within range pairs) (pairs_within range pairs)) inside.0 ∙ ap (λ t. pair ∷ t) (all_within range pairs inside.1)

keys_inside : (j : Join) (range : Range) (table : Table) → AllByRecursion (λ pair. IsRowKey j range pair.0) table → AllByRecursion (λ pair. within range pair.0 ≡ true) table
keys_inside j range [] keys = tt
keys_inside j range (pair ∷ pairs) keys = (keys.0.inside, keys_inside j range pairs keys.1)

-- where nothing is pending, at most as many rows are kept as the join gives in the range
rows_few : (j : Join) (range : Range) (table : Table) (kept : Kept) → is_join j ≡ true → IsRight j range table kept → kept.pending ≡ [] → length kept.rows ≤ length (pairs_within range (out j table))
rows_few j range table kept ok right none =
    let rows : pairs_within range kept.rows ≡ kept.rows = all_within range kept.rows (keys_inside j range kept.rows right.rows.keys) in
    let are : kept.rows ≡ pairs_within range (pairs_within range (out j table)) =
    sym rows ∙ rows_are_output j range range table kept ok right (λ key inside also short. ap (λ pending. is_covered j.output pending key) none) in
    let count = ap length are in
    let test = λ (pair : Text × Text). within range pair.0 in
    let kept_count = length-filter test (pairs_within range (out j table)) in
    let fewer = count_by-le-length test (pairs_within range (out j table)) in
    omega (arith, count, kept_count, fewer)

-- ---- one output alone

-- a number stands where it is looked up
pub index_stands : (ns : List ℕ) (i : ℕ) → i < length ns → slice_get ns i ≡ Some (slice_index ns i)
index_stands [] i less = absurd (omega arith)
index_stands (n ∷ ns) zero less = refl
index_stands (n ∷ ns) (suc i) less = index_stands ns i (omega arith)

pub rank_within : (joins : List DeclaredJoin) (place : ℕ) (s : DeclaredJoin) → slice_get joins place ≡ Some s → place < length (ranks_of joins)
rank_within joins place s stands = let inside = slice_get_within joins place s stands in omega (arith, inside, length-ranks_of joins)

-- a range that reaches one output alone reaches it at its rank
pub reaches_only : (h : History) (p : ℕ) (range : Range) (place : ℕ) (s : DeclaredJoin) → HasEntered h → ReachesPush (joins_of (take p h)) range place s → ReachesOnly (joins_of (take p h)) range 8 (slice_index (ranks_of (joins_of (take p h))) place) s
reaches_only h p range place s entered reach =
    let joins = joins_of (take p h) in
    let place_in : place < length (ranks_of joins) = rank_within joins place s reach.one.stands in
    let few = all_at (λ n. n ≤ 7) (ranks_of joins) place (slice_index (ranks_of joins) place) (entered_is_admissible_lem (take p h) (has_entered_taken p h entered).entered).shallow (index_stands (ranks_of joins) place place_in) in
    record {
      is_below = omega (arith, few);
      one = one_reached_in_rank joins range place s reach.one reach.reached;
      alone = λ r less apart. none_reached_in_others joins range place r s reach.one (λ e. apart (sym e));
    }

-- where its join has rank 0 and may be kept, a cell holds just the range
pub kept_after : (h : History) (p : ℕ) (range : Range) (place : ℕ) (s : DeclaredJoin) (before : Holdings) (mid : Contents) (after : List Slot) (limit added : ℕ) → HasEntered h → before.used ≡ [] → mid.history ≡ h → mid.cells.setting.room ≡ limit →
    Spends h before mid.cells p range 8 added → AreRight mid.history mid.cells.slots → KeepsLast mid after → ReachesPush (joins_of (take p h)) range place s → is_open range ≡ true →
    StandsAs h p s.position 0 s.join → HasFree before.slots → MeetsNone before.slots s.position range → row_count h p range 0 s.join + 1 ≤ limit → HoldsJust after s.position p range
kept_after h p range place s before mid after limit added entered unused same_history same_limit spends right keeps reach not_empty stands free apart few =
    let joins = joins_of (take p h) in
    let rank = slice_index (ranks_of joins) place in
    let none : rank ≡ 0 = one_rank (take p h) s.join rank 0 (has_entered_taken p h entered) (record { place = place; standing = s; stands = reach.one.stands; is = refl; ranked = refl }) (has_rank h p s.position 0 s.join stands) in
    let k = spends.kept rank s (reaches_only h p range place s entered reach) not_empty (record { pushed = reach.pushed; free = free; apart = apart }) in
    let used : mid.cells.used ≡ k.id ∷ [] = k.alone none ∙ ap (λ used. used ++ k.id ∷ []) unused in
    let w = k.is in
    let is : IsRightFor mid.history s.position w.state = right.held k.id (Held s.position w.state) w.held in
    let here : IsRightFor h s.position w.state = subst (λ l. IsRightFor l s.position w.state) same_history is in
    let sound : IsSoundAt w.state h p = subst (λ o. IfSome o (IsSoundAt w.state h)) w.stands here.sound in
    let join : w.state.join ≡ s.join = declared_once h s.position w.state.join s.join here.declared stands.declared in
    let zero_rank : w.state.rank ≡ 0 = one_rank (take p h) s.join w.state.rank 0 (has_entered_taken p h entered) (subst (λ j. HasRank joins j w.state.rank) join sound.stands) (has_rank h p s.position 0 s.join stands) in
    let rows = rows_few w.state.join w.state.range (below (take p h) w.state.rank) w.state.kept (declared_is_join h s.position w.state.join entered here.declared) sound.right w.clear in
    let same_rows : length (pairs_within w.state.range (out w.state.join (below (take p h) w.state.rank))) ≡ row_count h p range 0 s.join =
    (λ i. length (pairs_within (w.just i) (out (join i) (below (take p h) (zero_rank i))))) in
    record {
      id = k.id;
      is = record {
        state = w.state;
        held = keeps k.id s.position w.state used w.held (omega (arith, rows, same_rows, few, same_limit));
        stands = w.stands;
        clear = w.clear;
        just = w.just;
      };
    }

-- where a cell could be read over the range, it took at most two steps beside the base pairs and the pairs of the state
pub used_after : (h : History) (p : ℕ) (range : Range) (place : ℕ) (s : DeclaredJoin) (before after : Holdings) (added : ℕ) → HasEntered h → is_range range.low range.high ≡ true → Spends h before after p range 8 added →
    ReachesPush (joins_of (take p h)) range place s → is_open range ≡ true → HoldsReady before.slots s.position p range → added ≤ 2 + base_count h p range + length (pairs_within range (state (take p h)))
used_after h p range place s before after added entered is spends reach not_empty ready =
    let joins = joins_of (take p h) in
    let rank = slice_index (ranks_of joins) place in
    let cost = spends.used rank s (reaches_only h p range place s entered reach) not_empty ready in
    let whole = one_reached_length (take p h) range place s (has_entered_taken p h entered) is reach.one in
    omega (arith, cost, whole)

-- a cell that could be read over the range holds the same afterwards, where that fits the limit by itself
pub stays_after : (h : History) (p : ℕ) (range : Range) (place : ℕ) (s : DeclaredJoin) (before : Holdings) (mid : Contents) (after : List Slot) (limit added : ℕ) → HasEntered h → before.used ≡ [] → mid.cells.setting.room ≡ limit →
    Spends h before mid.cells p range 8 added → KeepsLast mid after → ReachesPush (joins_of (take p h)) range place s → is_open range ≡ true →
    (id : ℕ) (held : KeptRange) → IsReadySlot before.slots id s.position p range held → length held.kept.rows + 1 ≤ limit → IsReadySlot after id s.position p range held
stays_after h p range place s before mid after limit added entered unused same_limit spends keeps reach not_empty id held is few =
    let stays = spends.stays (slice_index (ranks_of (joins_of (take p h))) place) s (reaches_only h p range place s entered reach) not_empty id held is in
    let used : mid.cells.used ≡ id ∷ [] = stays.used ∙ ap (λ used. used ++ id ∷ []) unused in
    record {
      held = keeps id s.position held used stays.is.held (omega (arith, few, same_limit));
      ready = stays.is.ready;
      whole = stays.is.whole;
    }

left_or_free : (mid after : List Slot) (id at : ℕ) (s : KeptRange) → HoldsAt mid id at s → (slice_get after id ≡ slice_get mid id) ⊎ IsEvicted mid after id → HoldsAt after id at s ⊎ (slice_get after id ≡ Some Free)
left_or_free mid after id at s held (inl same) = inl (same ∙ held)
left_or_free mid after id at s held (inr gone) = inr gone.free

-- what a cell held behind, with the rank of its join, was advanced: the cell holds what that leaves, or was freed
pub behind_after : (h : History) (p : ℕ) (range : Range) (place : ℕ) (s : DeclaredJoin) (before mid : Holdings) (after : List Slot) (added : ℕ) → HasEntered h → is_range range.low range.high ≡ true →
    Spends h before mid p range 8 added → Evicts mid.slots after → ReachesPush (joins_of (take p h)) range place s → is_open range ≡ true →
    (id q : ℕ) (held : KeptRange) → StandsAs h p s.position held.rank s.join → StandsBehind h before.slots id s.position q p range held →
    LeavesAdvanced h after id s.position q p range held (2 + base_count h p range + length (pairs_within range (state (take p h)))) added
behind_after h p range place s before mid after added entered is spends evicts reach not_empty id q held stands behind =
    let joins = joins_of (take p h) in
    let rank = slice_index (ranks_of joins) place in
    let same : held.rank ≡ rank = one_rank (take p h) s.join held.rank rank (has_entered_taken p h entered) (has_rank h p s.position held.rank s.join stands) (record { place = place; standing = s; stands = reach.one.stands; is = refl; ranked = refl }) in
    let advances = spends.behind rank s (reaches_only h p range place s entered reach) not_empty id q held same behind in
    let few = advances.few in
    let whole = one_reached_length (take p h) range place s (has_entered_taken p h entered) is reach.one in
    record {
      state = advances.holds.state;
      beside = advances.beside;
      few = omega (arith, few, whole);
      was = advances.holds.was;
      left = left_or_free mid.slots after id s.position advances.holds.state advances.holds.held (evicts.each id);
    }

-- so it is of what stood there with something pending, which was mended
pub pending_after : (h : History) (p : ℕ) (range : Range) (place : ℕ) (s : DeclaredJoin) (before mid : Holdings) (after : List Slot) (added : ℕ) → HasEntered h → is_range range.low range.high ≡ true →
    Spends h before mid p range 8 added → Evicts mid.slots after → ReachesPush (joins_of (take p h)) range place s → is_open range ≡ true →
    (id : ℕ) (held : KeptRange) → StandsAs h p s.position held.rank s.join → StandsPending before.slots id s.position p range held →
    LeavesMended h after id s.position p range held (2 + base_count h p range + length (pairs_within range (state (take p h)))) added
pending_after h p range place s before mid after added entered is spends evicts reach not_empty id held stands pending =
    let joins = joins_of (take p h) in
    let rank = slice_index (ranks_of joins) place in
    let same : held.rank ≡ rank = one_rank (take p h) s.join held.rank rank (has_entered_taken p h entered) (has_rank h p s.position held.rank s.join stands) (record { place = place; standing = s; stands = reach.one.stands; is = refl; ranked = refl }) in
    let mends = spends.pending rank s (reaches_only h p range place s entered reach) not_empty id held same pending in
    let few = mends.few in
    let whole = one_reached_length (take p h) range place s (has_entered_taken p h entered) is reach.one in
    record {
      state = mends.holds.state;
      beside = mends.beside;
      few = omega (arith, few, whole);
      was = mends.holds.was;
      left = left_or_free mid.slots after id s.position mends.holds.state mends.holds.held (evicts.each id);
    }
