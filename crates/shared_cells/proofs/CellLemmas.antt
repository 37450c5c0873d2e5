-- What a cell keeps, over longer histories, and as the join's that is asked for.
use Rattle.std.proofs.Common.{◌≡◌, ℕ, ◌<◌, ◌≤◌, ◌⊎◌, length, take, Option, IfSome, MatchOption, Some, None, Result, Ok, Err, IfErr, refl, sym, ap, ◌∙◌, subst, inl, inr, ⊎_elim, arith}
use Rattle.std.specs.Option.{IsSomeAnd}
use Rattle.semantics.specs.Texts.{Table, Range, value_at, pairs_within}
use Rattle.semantics.specs.Joins.{Join}
use Rattle.semantics.specs.Histories.{History, IsPrefix, joins_of}
use Rattle.semantics.specs.Outputs.{out}
use Rattle.semantics.specs.States.{below}
use Rattle.growing_history.specs.Entered.{HasRank}
use Rattle.growing_history.proofs.PrefixLemmas.{take_prefix}
use Rattle.layering.specs.Parts.{IsWithin}
use Rattle.layering.proofs.PartLemmas.{part_of_range, within_is_kept}
use Rattle.write_history.specs.Passes.{HistoryId, PassView, GoesOn}
use Rattle.join_eval.specs.Bounds.{OnTooWide}
use Rattle.join_eval.specs.declared.bounds.KeepFault.{KeepFault}
use Rattle.join_eval.specs.declared.bounds.KeepFault.TheVariants.{TooWide, OutOfMemory}
use Rattle.join_eval.specs.declared.reading.Changed.{Changed}
use Rattle.join_eval.specs.declared.reading.Changed.TheVariants.{Keys, All}
use Rattle.kept_ranges.specs.Sound.{KeptRange, IsSound, IsSoundAt}
use Rattle.kept_ranges.proofs.SoundLemmas.{sound_over_longer}
use Rattle.range_state.specs.Held.{forgotten}
use Rattle.range_state.specs.Ready.{HasSameSubject, IsReady, StandsAt}
use Rattle.range_state.specs.Work.{TakesTooMany}
use Rattle.cell_slots.specs.Serving.{CountsFill, CountsReach, IsLeftOrStandsAt, IsPast, IsTooWide, StandsFrom, output_within}
use Rattle.cell_slots.specs.Telling.{TellsOutput}
use Rattle.cell_slots.proofs.CountingLemmas.{fill_over}
use Rattle.cell_slots.proofs.LongerLemmas.{bare_all}
use Rattle.cell_slots.proofs.UpToLemmas.{gone_is_wide, wide_over}
use Rattle.cell_slots.specs.Slots.{IsDeclared, IsOutput, IsRightFor, StandsAs, IsRankIn, IsRankAt}
use Rattle.cell_slots.proofs.DeclaredLemmas.{declared_over_longer, declared_once, has_rank, stands_ranked, stands_over}
use Rattle.rank_layers.specs.Telling.{TellsJoin}
use Rattle.rank_layers.proofs.PartLemmas.{not_past}
use Rattle.shared_cells.specs.Advancing.{IsKeptBy, StandsBare}
use Rattle.shared_cells.specs.Cells.{CellView, IsRightIn, IsCell, HasSamePlace, IsCellFor, IsHeldOrEmpty, IsHeldOrStandsAt, IsLentFor, CanServe, IsReadyCell, IsWideCell, KeepsNothing, KeepsWithin}

-- ---- over longer histories

-- what is right stays so in a longer history
pub right_over_longer : (h more : History) (at : ℕ) (s : KeptRange) → IsPrefix h more → IsRightFor h at s → IsRightFor more at s
right_over_longer h more at s prefix right = record {
  declared = declared_over_longer h more at s.join prefix right.declared;
  sound = sound_over_longer s h more prefix right.sound;
}

-- so does what is kept, where a pass has seen more
pub kept_over_longer : (held : Option KeptRange) (at rank : ℕ) (range : Range) (old new : PassView) → IsPrefix old.view new.view → IfSome held (IsRightIn at rank range old) → IfSome held (IsRightIn at rank range new)
kept_over_longer None at rank range old new prefix right = tt
kept_over_longer (Some s) at rank range old new prefix right = record { right = right_over_longer old.view new.view at s prefix right.right; ranked = right.ranked; just = right.just }

-- and the cell
pub cell_goes_on : (name : HistoryId) (held : Option KeptRange) (at rank : ℕ) (range : Range) (old new : PassView) → GoesOn old new → IsCell name at rank range held old → IsCell name at rank range held new
cell_goes_on name held at rank range old new on cell = record {
  same_history = on.same_history ∙ cell.same_history;
  right = kept_over_longer held at rank range old new on.begins cell.right;
}

-- what stands with bare ranges does so over the longer list, by whatever name it goes
pub stands_longer : (h more : History) (q p : ℕ) (s t : KeptRange) → IsPrefix h more → p ≤ length h → t ≡ s → StandsBare h q p s → StandsBare more q p t
stands_longer h more q p s t prefix within same is =
    subst (StandsBare more q p) (sym same) (record { stands = is.stands; behind = is.behind; bare = bare_all h more q p s.kept.needs prefix within is.bare })

-- what keeps nothing yet, in a cell that has the place for which it was made
pub new_is_right : (h : History) (cell : CellView) (at rank : ℕ) (range : Range) (j : Join) (s : KeptRange) → IsPrefix h cell.pass.view → cell.at ≡ at → cell.rank ≡ rank → cell.range ≡ range → IsDeclared h at j → s ≡ forgotten j rank range →
    IsRightIn cell.at cell.rank cell.range cell.pass s
new_is_right h cell at rank range j s prefix place ranked just declared is =
    subst (λ (kept : KeptRange). IsRightIn cell.at cell.rank cell.range cell.pass kept) (sym is)
    (record {
      right = record { declared = subst (λ (n : ℕ). IsDeclared cell.pass.view n j) (sym place) (declared_over_longer h cell.pass.view at j prefix declared); sound = tt };
      ranked = sym ranked;
      just = sym just;
    })

-- ---- the join that is asked for

-- what is taken out of a cell is right for what the pass has seen
pub right_of_lent : (cell : CellView) (h : History) (at rank p : ℕ) (part : Range) (s : KeptRange) → cell.pass.view ≡ h → IsLentFor cell at rank p part s → IsRightFor h cell.at s
right_of_lent cell h at rank p part s met lent = subst (λ (l : History). IsRightFor l cell.at s) met lent.right.right

-- it is of the join that stands
same_join : (cell : CellView) (h more : History) (at rank p : ℕ) (part : Range) (s : KeptRange) (j : Join) → IsPrefix h more → cell.pass.view ≡ more → IsLentFor cell at rank p part s → StandsAs h p at rank j → s.join ≡ j
same_join cell h more at rank p part s j prefix met lent stands =
    declared_once more at s.join j (subst (λ (a : ℕ). IsDeclared more a s.join) lent.is_for.is_of (right_of_lent cell more at rank p part s met lent).declared)
    (declared_over_longer h more at j prefix stands.declared)

-- it is kept with the rank that is asked for
ranked_of_lent : (cell : CellView) (at rank p : ℕ) (part : Range) (s : KeptRange) → IsLentFor cell at rank p part s → s.rank ≡ rank
ranked_of_lent cell at rank p part s lent = lent.right.ranked ∙ lent.is_for.ranked

-- with which the join stands
pub rank_of_lent : (cell : CellView) (h more : History) (at rank p : ℕ) (part : Range) (s : KeptRange) (j : Join) → p ≤ length h → IsPrefix h more → cell.pass.view ≡ more → IsLentFor cell at rank p part s → StandsAs h p at rank j →
    HasRank (joins_of (take p more)) s.join s.rank
rank_of_lent cell h more at rank p part s j within prefix met lent stands =
    subst (λ (r : ℕ). HasRank (joins_of (take p more)) s.join r) (sym (ranked_of_lent cell at rank p part s lent))
    (subst (λ (k : Join). HasRank (joins_of (take p more)) k rank) (sym (same_join cell h more at rank p part s j prefix met lent stands)) (has_rank more p at rank j (stands_over h more p at rank j within prefix stands)))

-- it has the whole part
whole_of_lent : (cell : CellView) (at rank p : ℕ) (part : Range) (s : KeptRange) → IsLentFor cell at rank p part s → IsWithin part s.range
whole_of_lent cell at rank p part s lent = subst (IsWithin part) (sym lent.right.just) lent.is_for.whole

-- what it gives in the part is the join's output there
pub output_of_lent : (cell : CellView) (h more : History) (at rank p : ℕ) (part : Range) (s : KeptRange) (pairs : Table) → p ≤ length h → IsPrefix h more → cell.pass.view ≡ more → IsLentFor cell at rank p part s →
    pairs ≡ output_within s more p part → IsOutput h p at rank part pairs
output_of_lent cell h more at rank p part s pairs within prefix met lent is j stands =
    is
    ∙ part_of_range part s.range (out s.join (below (take p more) s.rank)) (λ key. within_is_kept part s.range key (whole_of_lent cell at rank p part s lent))
    ∙ (λ i. pairs_within part (out (same_join cell h more at rank p part s j prefix met lent stands i) (below (take_prefix p h more within prefix i) (ranked_of_lent cell at rank p part s lent i))))

-- what it says of its output in the part, it says of the join's
pub told_of_lent : (cell : CellView) (h more : History) (at rank q p : ℕ) (part : Range) (s : KeptRange) (j : Join) (answer : Changed) → q ≤ p → p ≤ length h → IsPrefix h more → cell.pass.view ≡ more → IsLentFor cell at rank p part s → StandsAs h p at rank j →
    TellsOutput s more q p part answer → TellsJoin h q p rank j part answer
told_of_lent cell h more at rank q p part s j (Keys keys) order within prefix met lent stands told = record {
  ascend = told.ascend;
  inside = told.inside;
  complete = λ key inside unlisted x from to.
      let step : (y : ℕ) → y ≤ p → value_at key (out s.join (below (take y more) s.rank)) ≡ value_at key (out j (below (take y h) rank)) =
      λ y upto i. value_at key (out (same_join cell h more at rank p part s j prefix met lent stands i) (below (take_prefix y h more (omega arith) prefix i) (ranked_of_lent cell at rank p part s lent i))) in
      sym (step x to) ∙ told.complete x key from to (within_is_kept part s.range key (whole_of_lent cell at rank p part s lent) inside) inside unlisted ∙ step q order;
}
told_of_lent cell h more at rank q p part s j All order within prefix met lent stands told = tt

-- ---- advancing

within_by : (o : Option ℕ) (s : KeptRange) (h : History) → IfSome o (IsSoundAt s h) → IfSome o (λ q. q ≤ length h)
within_by None s h sound = tt
within_by (Some q) s h sound = sound.place

-- where something right stands is no later than the end of the history
pub stands_within : (s : KeptRange) (h : History) → IsSound s h → IfSome s.position (λ q. q ≤ length h)
stands_within s h sound = within_by s.position s h sound

-- what a cell holds is right for what its pass has seen, by whatever name that goes
pub right_here : (cell : CellView) (h : History) (at : ℕ) (s : KeptRange) → cell.pass.view ≡ h → cell.at ≡ at → IsRightIn cell.at cell.rank cell.range cell.pass s → IsRightFor h at s
right_here cell h at s met place right =
    subst (λ (l : History). IsRightFor l at s) met (subst (λ (a : ℕ). IsRightFor cell.pass.view a s) place right.right)

-- the rank that the join has after p entries, it has there in longer histories
rank_over_longer : (h more : History) (p at rank : ℕ) → p ≤ length h → IsPrefix h more → IsRankAt h p at (Some rank) → IsRankAt more p at (Some rank)
rank_over_longer h more p at rank within prefix is = subst (λ (l : History). IsRankIn (joins_of l) at (Some rank)) (sym (take_prefix p h more within prefix)) is

-- what a cell holds stands after p entries with the cell's rank, where that is the one that its join has there
pub rank_of_kept : (cell : CellView) (h more : History) (p : ℕ) (rank : Option ℕ) (s : KeptRange) → p ≤ length h → IsPrefix h more → cell.pass.view ≡ more → rank ≡ Some cell.rank → IsRankAt h p cell.at rank → IsRightIn cell.at cell.rank cell.range cell.pass s →
    HasRank (joins_of (take p more)) s.join s.rank
rank_of_kept cell h more p rank s within prefix met same is right =
    let there = rank_over_longer h more p cell.at cell.rank within prefix (subst (IsRankAt h p cell.at) same is) in
    let stands = stands_ranked more p cell.at cell.rank s.join (right_here cell more cell.at s met refl right).declared there in
    subst (HasRank (joins_of (take p more)) s.join) (sym right.ranked) (has_rank more p cell.at cell.rank s.join stands)

-- nothing is kept where nothing was
pub kept_nothing : (P : KeptRange → KeptRange → Type 0) (held left : Option KeptRange) → held ≡ None → left ≡ None → IsKeptBy P held left
kept_nothing P held left none empty = subst (λ (o : Option KeptRange). IsKeptBy P o left) (sym none) empty

-- what is kept stands so to what was
pub kept_by : (P : KeptRange → KeptRange → Type 0) (held after : Option KeptRange) (s t : KeptRange) → held ≡ Some s → after ≡ Some t → P s t → IsKeptBy P held after
kept_by P held after s t is gives so =
    subst (λ (o : Option KeptRange). IsKeptBy P o after) (sym is) (subst (λ (o : Option KeptRange). IsSomeAnd o (P s)) (sym gives) so)

-- ---- what can be served

-- the place that a cell has, the other has
pub same_place_back : (old new : CellView) → HasSamePlace old new → HasSamePlace new old
same_place_back old new same = record { at = sym same.at; rank = sym same.rank; range = sym same.range }

-- a cell with the same place is for what the other is for
is_for_same : (old new : CellView) (at rank : ℕ) (part : Range) → HasSamePlace old new → IsCellFor old at rank part → IsCellFor new at rank part
is_for_same old new at rank part same is = record {
  is_of = same.at ∙ is.is_of;
  ranked = same.rank ∙ is.ranked;
  whole = subst (IsWithin part) (sym same.range) is.whole;
}

-- it can serve what the other can, if it keeps what that one keeps
pub serves_same : (old new : CellView) (at rank p : ℕ) (part : Range) → HasSamePlace old new → new.held ≡ old.held → CanServe old at rank p part → CanServe new at rank p part
serves_same old new at rank p part same held can = record {
  is_for = is_for_same old new at rank part same can.is_for;
  upto = subst (λ (o : Option KeptRange). IfSome o (λ s. IsPast p s → ⊥)) (sym held) can.upto;
}

-- a cell that can be read over a part at once can serve it
pub ready_serves : (cell : CellView) (at rank p : ℕ) (part : Range) → IsReadyCell cell at rank p part → CanServe cell at rank p part
ready_serves cell at rank p part ready = record {
  is_for = ready.is_for;
  upto = subst (λ (o : Option KeptRange). IfSome o (λ s. IsPast p s → ⊥)) (sym ready.holds) (not_past p ready.state ready.ready.stands);
}

-- what a cell that can serve a part keeps can be read over it, once it is taken out
pub lent_of_kept : (before after : CellView) (at rank p : ℕ) (part : Range) (s : KeptRange) → HasSamePlace before after → CanServe before at rank p part → before.held ≡ Some s → IsRightIn after.at after.rank after.range after.pass s →
    IsLentFor after at rank p part s
lent_of_kept before after at rank p part s same can holds right = record {
  is_for = is_for_same before after at rank part same can.is_for;
  right = right;
  upto = subst (λ (o : Option KeptRange). IfSome o (λ t. IsPast p t → ⊥)) holds can.upto;
}

-- what stands nowhere stands past no position
nowhere_is_not_past : (p : ℕ) (s : KeptRange) → s.position ≡ None → IsPast p s → ⊥
nowhere_is_not_past p s is past = subst (λ (o : Option ℕ). IsSomeAnd o (λ q. p < q)) is past

-- so can what keeps nothing yet
pub lent_of_new : (before after : CellView) (at rank p : ℕ) (part : Range) (s : KeptRange) → HasSamePlace before after → CanServe before at rank p part → s.position ≡ None → IsRightIn after.at after.rank after.range after.pass s →
    IsLentFor after at rank p part s
lent_of_new before after at rank p part s same can fresh right = record {
  is_for = is_for_same before after at rank part same can.is_for;
  right = right;
  upto = nowhere_is_not_past p s fresh;
}

-- a cell that keeps nothing can serve what the other can
pub serves_empty : (old new : CellView) (at rank p : ℕ) (part : Range) → HasSamePlace old new → new.held ≡ None → CanServe old at rank p part → CanServe new at rank p part
serves_empty old new at rank p part same empty can = record {
  is_for = is_for_same old new at rank part same can.is_for;
  upto = subst (λ (o : Option KeptRange). IfSome o (λ s. IsPast p s → ⊥)) (sym empty) tt;
}

-- ---- the floor

-- what is ready at a position does not stand below a floor that is not above it
pub ready_from : (floor p : ℕ) (part : Range) (s : KeptRange) → floor ≤ p → IsReady p part s → StandsFrom floor s
ready_from floor p part s above ready = subst (λ (o : Option ℕ). IfSome o (λ q. floor ≤ q)) (sym ready.stands) above

-- what stands nowhere does not stand below a floor
pub nowhere_from : (floor : ℕ) (s : KeptRange) → s.position ≡ None → StandsFrom floor s
nowhere_from floor s is = subst (λ (o : Option ℕ). IfSome o (λ q. floor ≤ q)) (sym is) tt

-- what a cell keeps is taken out of it, where it does not stand below a floor
pub taken_from : (floor : ℕ) (held taken : Option KeptRange) (s : KeptRange) → held ≡ Some s → StandsFrom floor s → (IfSome held (StandsFrom floor) → taken ≡ held) → taken ≡ Some s
taken_from floor held taken s holds from takes = takes (subst (λ (o : Option KeptRange). IfSome o (StandsFrom floor)) (sym holds) from) ∙ holds

-- what is taken out of a cell keeps nothing, where nothing was kept in it from a floor on
taken_empty : (floor : ℕ) (held : Option KeptRange) (s : KeptRange) → IfSome held (λ k. StandsFrom floor k → ⊥) → IsHeldOrEmpty held s → StandsFrom floor s → s.position ≡ None
taken_empty floor held s away (inl is) from = absurd (subst (λ (o : Option KeptRange). IfSome o (λ k. StandsFrom floor k → ⊥)) is away from)
taken_empty floor held s away (inr empty) from = empty.0

-- what filling it counts, filling the cell's range counts for the join that is asked for
pub fill_of_lent : (cell : CellView) (h more : History) (at rank p floor before after : ℕ) (part whole : Range) (held : Option KeptRange) (s : KeptRange) (j : Join) → p ≤ length h → IsPrefix h more → cell.pass.view ≡ more → IsLentFor cell at rank p part s
    → StandsAs h p at rank j → cell.range ≡ whole → IfSome held (λ k. StandsFrom floor k → ⊥) → IsHeldOrEmpty held s → StandsFrom floor s → CountsReach more p s before after → CountsFill h p (forgotten j rank whole) before after
fill_of_lent cell h more at rank p floor before after part whole held s j within prefix met lent stands same away whose from counts =
    let subject : HasSameSubject (forgotten j rank whole) s =
    record { join = same_join cell h more at rank p part s j prefix met lent stands; rank = ranked_of_lent cell at rank p part s lent; range = lent.right.just ∙ same } in
    fill_over h more p (forgotten j rank whole) s before after subject within prefix (counts.filled (taken_empty floor held s away whose from))

-- ---- what is given back

-- what is taken out of a cell has no more than so many needs, where what the cell kept has no more
pub lent_within : (most : ℕ) (held : Option KeptRange) (s : KeptRange) → IsHeldOrEmpty held s → KeepsWithin most held → length s.kept.needs ≤ most
lent_within most held s (inl is) few = subst (KeepsWithin most) is few
lent_within most held s (inr empty) few = let none : length s.kept.needs ≡ 0 = ap length empty.1 in omega (arith, none)

-- what was taken out of a cell, and is given back as it was, at a position or forgotten, is what the cell kept, or stands so
pub held_there : (p : ℕ) (old new : Option KeptRange) (s t : KeptRange) → IsHeldOrEmpty old s → new ≡ Some t → IsLeftOrStandsAt p s t → IsHeldOrStandsAt p old new
held_there p old new s t whose holds left = subst (IsHeldOrStandsAt p old) (sym holds) (by_place whose left)
  where
    by_place : IsHeldOrEmpty old s → IsLeftOrStandsAt p s t → (old ≡ Some t) ⊎ ((t.position ≡ None) ⊎ StandsAt p t)
    by_place any (inr at) = inr (inr at)
    by_place any (inl (inr gone)) = inr (inl gone)
    by_place (inl is) (inl (inl same)) = inl (is ∙ ap (λ (k : KeptRange). Some k) (sym same))
    by_place (inr empty) (inl (inl same)) = inr (inl (ap (λ (k : KeptRange). k.position) same ∙ empty.0))

-- where something stands nowhere, nothing is kept
pub keeps_nothing : (held : Option KeptRange) (at : Option ℕ) → MatchOption held (at ≡ None) (λ s. at ≡ s.position) → at ≡ None → KeepsNothing held
keeps_nothing None at is none = tt
keeps_nothing (Some s) at is none = sym is ∙ none

-- what is given back after it was served makes the cell one that can be read so, or one that is too wide
pub served_cell : (lent after : CellView) (h more : History) (at rank p most : ℕ) (part : Range) (s t : KeptRange) → p ≤ length h → IsPrefix h more → IsLentFor lent at rank p part s → HasSamePlace lent after → after.held ≡ Some t
    → IsReady p part t ⊎ IsTooWide most more p t → IsReadyCell after at rank p part ⊎ IsWideCell most h p after
served_cell lent after h more at rank p most part s t within prefix taken same holds kept =
    ⊎_elim (λ (ready : IsReady p part t). inl (record { is_for = is_for_same lent after at rank part same taken.is_for; state = t; holds = holds; ready = ready }))
    (λ (wide : IsTooWide most more p t). inr (record { state = t; holds = holds; wide = wide_over most p h more t within prefix wide })) kept

-- what is given back after a fault that there are too many needs makes the cell one that is too wide
pub wide_cell : {T E : Type 0} (r : Result T (KeepFault E)) (after : CellView) (h more : History) (p most : ℕ) (s t : KeptRange) → p ≤ length h → IsPrefix h more → after.held ≡ Some t → HasSameSubject s t
    → IfErr r (OnTooWide (TakesTooMany (Some most) more p s)) → IfErr r (OnTooWide (t.position ≡ None)) → IfErr r (OnTooWide (IsWideCell most h p after))
wide_cell (Ok x) after h more p most s t within prefix holds same many gone = tt
wide_cell (Err (TooWide word)) after h more p most s t within prefix holds same many gone = record { state = t; holds = holds; wide = wide_over most p h more t within prefix (gone_is_wide most p more s t same gone many) }
wide_cell (Err (OutOfMemory memory)) after h more p most s t within prefix holds same many gone = tt
