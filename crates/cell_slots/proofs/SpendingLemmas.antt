-- What reading costs over cells that have one owner, one join after another and one rank after another.
use Rattle.std.proofs.Common.{◌≡◌, ℕ, ◌+◌, ◌<◌, ◌≤◌, List, [], ◌∷◌, ◌++◌, length, take, slice_get, Some, inl, inr, refl, sym, ap, ◌∙◌, subst, arith}
use Rattle.std.specs.Option.{option_and_then}
use Rattle.std.proofs.lemmas.Bool.{cases_eq}
use Rattle.std.proofs.lemmas.Option.{slice_get_within}
use Rattle.semantics.specs.Texts.{Range, pairs_within}
use Rattle.semantics.specs.Joins.{Join}
use Rattle.semantics.specs.Histories.{History, DeclaredJoin, IsPrefix, joins_of}
use Rattle.semantics.specs.Outputs.{out}
use Rattle.semantics.specs.States.{below}
use Rattle.growing_history.proofs.PrefixLemmas.{take_prefix}
use Rattle.layering.specs.Parts.{IsWithin}
use Rattle.layering.specs.Reached.{reached, ReachesNoneBelow}
use Rattle.kept_ranges.specs.Sound.{KeptRange}
use Rattle.range_state.specs.Held.{forgotten}
use Rattle.cell_slots.proofs.AdvancedLemmas.{mended_counted}
use Rattle.cell_slots.proofs.CountingLemmas.{forward_counted}
use Rattle.cell_slots.proofs.LongerLemmas.{advanced_before, bare_all, mended_before}
use Rattle.cell_slots.specs.declared.slot.Part.{Part}
use Rattle.cell_slots.specs.declared.slot.Slot.{Slot}
use Rattle.cell_slots.specs.declared.slot.Slot.TheVariants.{Free, Held}
use Rattle.cell_slots.specs.Places.{LiesInPlace}
use Rattle.cell_slots.specs.Slots.{Holdings, HoldsReady, IsReadySlot, place_at, place_of, StandsAs}
use Rattle.cell_slots.specs.Spending.{base_count, row_count, AdvancesWithin, Covers, HoldsAdvanced, HoldsMended, JoinsSpend, KeepsJust, MayKeep, MendsWithin, OneSpends, ReachesOnly, Spends, StandsBehind, StandsPending, StaysReady, Took}
use Rattle.cell_slots.proofs.FrameLemmas.{get-set_same}

-- ---- one join

-- a cell that was reserved before it was read was not used by that
keeps_after : (start before after : Holdings) (rank at p : ℕ) (range : Range) → before.used ≡ start.used → KeepsJust before after rank at p range → KeepsJust start after rank at p range
keeps_after start before after rank at p range same keeps = record {
  id = keeps.id;
  is = keeps.is;
  alone = λ none. keeps.alone none ∙ ap (λ used. used ++ keeps.id ∷ []) same;
}

same_part : (x y : Part) → ◌≡◌ {A = List Part} (x ∷ []) (y ∷ []) → x ≡ y
same_part x y e = cc

-- what a cell holds lies in its place
lies_held : (slots : List Slot) (id at : ℕ) (range : Range) (s : KeptRange) → slice_get slots id ≡ Some (Held at s) → IsWithin range s.range → LiesInPlace (place_at slots) id at range
lies_held slots id at range s held whole = record { place = s.range; kept = ap (option_and_then place_of) held; inside = whole }

-- so does what can be read over a range
lies_ready : (slots : List Slot) (id at p : ℕ) (range : Range) (s : KeptRange) → IsReadySlot slots id at p range s → LiesInPlace (place_at slots) id at range
lies_ready slots id at p range s is = lies_held slots id at range s is.held is.whole

-- what stands behind does so over a longer list, where no cell changes
behind_longer : (h more : History) (a b : Holdings) (id at q p : ℕ) (range : Range) (s : KeptRange) → p ≤ length h → IsPrefix h more → b ≡ a → StandsBehind h a.slots id at q p range s → StandsBehind more b.slots id at q p range s
behind_longer h more a b id at q p range s within prefix same is = record {
  held = subst (λ (cells : Holdings). slice_get cells.slots id ≡ Some (Held at s)) (sym same) is.held;
  whole = is.whole;
  stands = is.stands;
  behind = is.behind;
  bare = bare_all h more q p s.kept.needs prefix within is.bare;
}

-- what was advanced over the longer list was so over the list
holds_before : (h more : History) (slots : List Slot) (id at q p : ℕ) (range : Range) (s : KeptRange) (before after : ℕ) → p ≤ length h → IsPrefix h more → q < p → HoldsAdvanced more slots id at q p range s before after →
    HoldsAdvanced h slots id at q p range s before after
holds_before h more slots id at q p range s before after within prefix less is = record {
  state = is.state;
  held = is.held;
  was = advanced_before h more q p range s is.state before after prefix within (omega (arith, less)) is.was;
}

-- and what was mended
mended_over_list : (h more : History) (slots : List Slot) (id at p : ℕ) (range : Range) (s : KeptRange) (before after : ℕ) → p ≤ length h → IsPrefix h more → HoldsMended more slots id at p range s before after → HoldsMended h slots id at p range s before after
mended_over_list h more slots id at p range s before after within prefix is = record {
  state = is.state;
  held = is.held;
  was = mended_before h more p range s is.state before after prefix within is.was;
}

-- what is spent where a range was covered by one part and that was read
pub cost_of_part : (h more : History) (a b c : Holdings) (at rank p : ℕ) (range : Range) (part : Part) (j : Join) (n m : ℕ) → p ≤ length h → IsPrefix h more → StandsAs h p at rank j → n ≡ row_count h p range rank j →
    Covers h a b at rank p range (part ∷ []) → Took more b c at rank p part n m → OneSpends h a c p range rank at j m
cost_of_part h more a b c at rank p range part j n m within prefix stands rows covers took = record {
  used = λ opened holds.
      let alone = covers.alone holds.id opened (lies_ready a.slots holds.id at p range holds.state holds.is) in
      let is = same_part part (record { range = range; cell = Some holds.id }) alone.one in
      let costs = took.ready holds.id holds.state (ap (λ (x : Part). x.cell) is) (covers.ranked holds.id holds.state holds.is)
      (subst (λ r. IsReadySlot b.slots holds.id at p r holds.state) (sym (ap (λ (x : Part). x.range) is)) (subst (λ (cells : Holdings). IsReadySlot cells.slots holds.id at p range holds.state) (sym alone.still) holds.is)) in
      omega (arith, costs, rows);
  stays = λ id s opened is.
      let alone = covers.alone id opened (lies_ready a.slots id at p range s is) in
      let one = same_part part (record { range = range; cell = Some id }) alone.one in
      let here = subst (λ r. IsReadySlot b.slots id at p r s) (sym (ap (λ (x : Part). x.range) one)) (subst (λ (cells : Holdings). IsReadySlot cells.slots id at p range s) (sym alone.still) is) in
      let left = took.stays id s (ap (λ (x : Part). x.cell) one) (covers.ranked id s is) here in
      subst (λ (cells : Holdings). StaysReady cells c id at p range s) alone.still (subst (λ r. StaysReady b c id at p r s) (ap (λ (x : Part). x.range) one) left);
  behind = λ id q s opened ranked is.
      let alone = covers.alone id opened (lies_held a.slots id at range s is.held is.whole) in
      let one = same_part part (record { range = range; cell = Some id }) alone.one in
      let same : part.range ≡ range = ap (λ (x : Part). x.range) one in
      let here : StandsBehind more b.slots id at q p range s = behind_longer h more a b id at q p range s within prefix alone.still is in
      let was : HoldsAdvanced more c.slots id at q p part.range s (1 + n) m = took.behind id q s (ap (λ (x : Part). x.cell) one) ranked (subst (λ r. StandsBehind more b.slots id at q p r s) (sym same) here) in
      holds_before h more c.slots id at q p range s (1 + row_count h p range rank j) m within prefix is.behind
      (subst (λ (w : Range × ℕ). HoldsAdvanced more c.slots id at q p w.0 s (1 + w.1) m) (λ i. (same i, rows i)) was);
  pending = λ id s opened ranked is.
      let alone = covers.alone id opened (lies_held a.slots id at range s is.held is.whole) in
      let one = same_part part (record { range = range; cell = Some id }) alone.one in
      let same : part.range ≡ range = ap (λ (x : Part). x.range) one in
      let here : StandsPending b.slots id at p range s = subst (λ (cells : Holdings). StandsPending cells.slots id at p range s) (sym alone.still) is in
      let was : HoldsMended more c.slots id at p part.range s (1 + n) m = took.pending id s (ap (λ (x : Part). x.cell) one) ranked (subst (λ r. StandsPending b.slots id at p r s) (sym same) here) in
      mended_over_list h more c.slots id at p range s (1 + row_count h p range rank j) m within prefix
      (subst (λ (w : Range × ℕ). HoldsMended more c.slots id at p w.0 s (1 + w.1) m) (λ i. (same i, rows i)) was);
  kept = λ opened may.
      let reserves = covers.reserved j stands opened may in
      let is = same_part part (record { range = range; cell = Some reserves.id }) reserves.one in
      let just = ap (λ (x : Part). x.range) is in
      keeps_after a b c rank at p range (ap (λ (cells : Holdings). cells.used) reserves.set)
      (subst (KeepsJust b c rank at p) just (took.held reserves.id j (ap (λ (x : Part). x.cell) is)
      (ap (λ (cells : Holdings). slice_get cells.slots reserves.id) reserves.set
      ∙ get-set_same a.slots reserves.id (Held at (forgotten j rank range)) (slice_get_within a.slots reserves.id Free reserves.free)
      ∙ ap (λ r. Some (Held at (forgotten j rank r))) (sym just))));
}

-- what is spent where it was covered by none or several: it could not be read at once, nor be kept
pub cost_of_parts : (h : History) (a b c : Holdings) (at rank p : ℕ) (range : Range) (parts : List Part) (j : Join) (m : ℕ) → StandsAs h p at rank j →
    Covers h a b at rank p range parts → (length parts ≡ 1 → ⊥) → OneSpends h a c p range rank at j m
cost_of_parts h a b c at rank p range parts j m stands covers several = record {
  used = λ opened holds. absurd (several (ap length (covers.alone holds.id opened (lies_ready a.slots holds.id at p range holds.state holds.is)).one));
  stays = λ id s opened is. absurd (several (ap length (covers.alone id opened (lies_ready a.slots id at p range s is)).one));
  behind = λ id q s opened ranked is. absurd (several (ap length (covers.alone id opened (lies_held a.slots id at range s is.held is.whole)).one));
  pending = λ id s opened ranked is. absurd (several (ap length (covers.alone id opened (lies_held a.slots id at range s is.held is.whole)).one));
  kept = λ opened may. absurd (several (ap length (covers.reserved j stands opened may).one));
}

-- what is spent over a longer list is so over the list
one_spends_over : (h more : History) (before after : Holdings) (p : ℕ) (range : Range) (rank at : ℕ) (j : Join) (added : ℕ) → p ≤ length h → IsPrefix h more →
    OneSpends more before after p range rank at j added → OneSpends h before after p range rank at j added
one_spends_over h more before after p range rank at j added within prefix one =
    let same = take_prefix p h more within prefix in
    record {
      used = λ opened holds. subst (λ l. added ≤ 1 + length (pairs_within range (out j (below l rank)))) same (one.used opened holds);
      stays = one.stays;
      behind = λ id q s opened ranked is.
          subst (λ (l : History). HoldsAdvanced h after.slots id at q p range s (1 + length (pairs_within range (out j (below l rank)))) added) same
          (holds_before h more after.slots id at q p range s (1 + row_count more p range rank j) added within prefix is.behind
          (one.behind id q s opened ranked (behind_longer h more before before id at q p range s within prefix refl is)));
      pending = λ id s opened ranked is.
          subst (λ (l : History). HoldsMended h after.slots id at p range s (1 + length (pairs_within range (out j (below l rank)))) added) same
          (mended_over_list h more after.slots id at p range s (1 + row_count more p range rank j) added within prefix (one.pending id s opened ranked is));
      kept = one.kept;
    }

-- ---- the joins of a rank

-- what reading them costs and leaves, over one list
abbrev JoinsTake : History → Holdings → Holdings → ℕ → Range → ℕ → List DeclaredJoin → ℕ → Type 0
JoinsTake h before after p range rank joins added = JoinsSpend (λ x y at j n. OneSpends h x y p range rank at j n) before after joins added

none_take : (h : History) (b c : Holdings) (p : ℕ) (range : Range) (rank m : ℕ) (joins : List DeclaredJoin) → joins ≡ [] → JoinsTake h b c p range rank joins m → (m ≡ 0) × (c ≡ b)
none_take h b c p range rank m joins none takes = subst (λ js. JoinsTake h b c p range rank js m) none takes

one_of : (h : History) (b c : Holdings) (p : ℕ) (range : Range) (rank m : ℕ) (joins : List DeclaredJoin) (s : DeclaredJoin) → joins ≡ s ∷ [] → JoinsTake h b c p range rank joins m → OneSpends h b c p range rank s.position s.join m
one_of h b c p range rank m joins s one spends = subst (λ js. JoinsTake h b c p range rank js m) one spends

-- what was advanced, so many steps later
holds_later : (h : History) (slots : List Slot) (id at q p : ℕ) (range : Range) (s : KeptRange) (n before after : ℕ) → HoldsAdvanced h slots id at q p range s before after → HoldsAdvanced h slots id at q p range s (n + before) (n + after)
holds_later h slots id at q p range s n before after is = record {
  state = is.state;
  held = is.held;
  was = record {
    mid = is.was.mid;
    same = is.was.same;
    at = is.was.at;
    little = is.was.little;
    between = n + is.was.between;
    least = forward_counted h p s before is.was.between (n + before) (n + is.was.between) (λ steps low. omega (arith, low)) is.was.least;
    cost = let few = is.was.cost in omega (arith, few);
    alone = λ clear. let so = is.was.alone clear in (so.0, ap (λ m. n + m) so.1);
    mended = λ meets. mended_counted h p range is.was.mid is.state is.was.between after (n + is.was.between) (n + after) (λ steps low. omega (arith, low)) (λ steps up. omega (arith, up)) (is.was.mended meets);
  };
}

-- what is spent below the rank comes before it
advances_after : (h : History) (slots : List Slot) (id at q p : ℕ) (range : Range) (s : KeptRange) (n m k rows most : ℕ) → k ≡ n + m → n + (1 + rows) ≤ most → HoldsAdvanced h slots id at q p range s (1 + rows) m → AdvancesWithin h slots id at q p range s most k
advances_after h slots id at q p range s n m k rows most sum few is = record {
  beside = n + (1 + rows);
  few = few;
  holds = subst (λ (x : ℕ). HoldsAdvanced h slots id at q p range s (n + (1 + rows)) x) (sym sum) (holds_later h slots id at q p range s n (1 + rows) m is);
}

-- so it is of what was mended
mends_after : (h : History) (slots : List Slot) (id at p : ℕ) (range : Range) (s : KeptRange) (n m k rows most : ℕ) → k ≡ n + m → n + (1 + rows) ≤ most → HoldsMended h slots id at p range s (1 + rows) m → MendsWithin h slots id at p range s most k
mends_after h slots id at p range s n m k rows most sum few is = record {
  beside = n + (1 + rows);
  few = few;
  holds = subst (λ (x : ℕ). HoldsMended h slots id at p range s (n + (1 + rows)) x) (sym sum) (record {
    state = is.state;
    held = is.held;
    was = mended_counted h p range s is.state (1 + rows) m (n + (1 + rows)) (n + m) (λ steps low. omega (arith, low)) (λ steps up. omega (arith, up)) is.was;
  });
}

-- below the next rank: what is spent below the rank, and by its joins
next_spends : (h : History) (a b c : Holdings) (p : ℕ) (range : Range) (rank n m k : ℕ) → k ≡ n + m → Spends h a b p range rank n → JoinsTake h b c p range rank (reached range rank (joins_of (take p h))) m →
    Spends h a c p range (rank + 1) k
next_spends h a b c p range rank n m k sum first joins = record {
  none = λ none.
      let here = none_take h b c p range rank m (reached range rank (joins_of (take p h))) (none rank (omega arith)) joins in
      let lower = first.none (λ r less. none r (omega arith)) in
      omega (arith, here.0, lower, sum);
  still = λ none.
      let here = none_take h b c p range rank m (reached range rank (joins_of (take p h))) (none rank (omega arith)) joins in
      here.1 ∙ first.still (λ r less. none r (omega arith));
  used = λ rk s only opened holds. elim (cases_eq rk rank) [
    | inl e ↦
        let none = lower_none rk s only e in
        let one : OneSpends h b c p range rank s.position s.join m = one_of h b c p range rank m (reached range rank (joins_of (take p h))) s (subst (λ r. reached range r (joins_of (take p h)) ≡ s ∷ []) e only.one) joins in
        let here : m ≤ 1 + row_count h p range rk s.join = subst (λ r. m ≤ 1 + row_count h p range r s.join) (sym e) (one.used opened (subst (λ cells. HoldsReady cells.slots s.position p range) (sym (first.still none)) holds)) in
        let lower = first.none none in
        omega (arith, here, lower, sum)
    | inr apart ↦
        let here = none_take h b c p range rank m (reached range rank (joins_of (take p h))) (only.alone rank (omega arith) (λ e. apart (sym e))) joins in
        let lower = first.used rk s (lower_only rk s only apart) opened holds in
        omega (arith, here.0, lower, sum)
  ];
  stays = λ rk s only opened id kept is. elim (cases_eq rk rank) [
    | inl e ↦
        let none = lower_none rk s only e in
        let one : OneSpends h b c p range rank s.position s.join m = one_of h b c p range rank m (reached range rank (joins_of (take p h))) s (subst (λ r. reached range r (joins_of (take p h)) ≡ s ∷ []) e only.one) joins in
        subst (λ cells. StaysReady cells c id s.position p range kept) (first.still none)
        (one.stays id kept opened (subst (λ cells. IsReadySlot cells.slots id s.position p range kept) (sym (first.still none)) is))
    | inr apart ↦
        let here = none_take h b c p range rank m (reached range rank (joins_of (take p h))) (only.alone rank (omega arith) (λ e. apart (sym e))) joins in
        subst (λ cells. StaysReady a cells id s.position p range kept) (sym here.1) (first.stays rk s (lower_only rk s only apart) opened id kept is)
  ];
  behind = λ rk s only opened id q kept ranked is. elim (cases_eq rk rank) [
    | inl e ↦
        let none = lower_none rk s only e in
        let one : OneSpends h b c p range rank s.position s.join m = one_of h b c p range rank m (reached range rank (joins_of (take p h))) s (subst (λ r. reached range r (joins_of (take p h)) ≡ s ∷ []) e only.one) joins in
        let lower : n ≤ 1 + base_count h p range = first.none none in
        let rows : row_count h p range rk s.join ≡ row_count h p range rank s.join = ap (λ r. row_count h p range r s.join) e in
        advances_after h c.slots id s.position q p range kept n m k (row_count h p range rank s.join) (2 + base_count h p range + row_count h p range rk s.join) sum (omega (arith, lower, rows))
        (one.behind id q kept opened (ranked ∙ e) (subst (λ cells. StandsBehind h cells.slots id s.position q p range kept) (sym (first.still none)) is))
    | inr apart ↦
        let here = none_take h b c p range rank m (reached range rank (joins_of (take p h))) (only.alone rank (omega arith) (λ e. apart (sym e))) joins in
        let none : m ≡ 0 = here.0 in
        let count : n ≡ k = omega (arith, none, sum) in
        subst (λ (w : Holdings × ℕ). AdvancesWithin h w.0.slots id s.position q p range kept (2 + base_count h p range + row_count h p range rk s.join) w.1) (λ i. (sym here.1 i, count i))
        (first.behind rk s (lower_only rk s only apart) opened id q kept ranked is)
  ];
  pending = λ rk s only opened id kept ranked is. elim (cases_eq rk rank) [
    | inl e ↦
        let none = lower_none rk s only e in
        let one : OneSpends h b c p range rank s.position s.join m = one_of h b c p range rank m (reached range rank (joins_of (take p h))) s (subst (λ r. reached range r (joins_of (take p h)) ≡ s ∷ []) e only.one) joins in
        let lower : n ≤ 1 + base_count h p range = first.none none in
        let rows : row_count h p range rk s.join ≡ row_count h p range rank s.join = ap (λ r. row_count h p range r s.join) e in
        mends_after h c.slots id s.position p range kept n m k (row_count h p range rank s.join) (2 + base_count h p range + row_count h p range rk s.join) sum (omega (arith, lower, rows))
        (one.pending id kept opened (ranked ∙ e) (subst (λ cells. StandsPending cells.slots id s.position p range kept) (sym (first.still none)) is))
    | inr apart ↦
        let here = none_take h b c p range rank m (reached range rank (joins_of (take p h))) (only.alone rank (omega arith) (λ e. apart (sym e))) joins in
        let none : m ≡ 0 = here.0 in
        let count : n ≡ k = omega (arith, none, sum) in
        subst (λ (w : Holdings × ℕ). MendsWithin h w.0.slots id s.position p range kept (2 + base_count h p range + row_count h p range rk s.join) w.1) (λ i. (sym here.1 i, count i))
        (first.pending rk s (lower_only rk s only apart) opened id kept ranked is)
  ];
  kept = λ rk s only opened may. elim (cases_eq rk rank) [
    | inl e ↦
        let none = lower_none rk s only e in
        let one : OneSpends h b c p range rank s.position s.join m = one_of h b c p range rank m (reached range rank (joins_of (take p h))) s (subst (λ r. reached range r (joins_of (take p h)) ≡ s ∷ []) e only.one) joins in
        subst (λ r. KeepsJust a c r s.position p range) (sym e) (subst (λ cells. KeepsJust cells c rank s.position p range) (first.still none)
        (one.kept opened (subst (λ cells. MayKeep cells.slots s.position s.join range) (sym (first.still none)) may)))
    | inr apart ↦
        let here = none_take h b c p range rank m (reached range rank (joins_of (take p h))) (only.alone rank (omega arith) (λ e. apart (sym e))) joins in
        subst (λ cells. KeepsJust a cells rk s.position p range) (sym here.1) (first.kept rk s (lower_only rk s only apart) opened may)
  ];
}
  where
    lower_none : (rk : ℕ) (s : DeclaredJoin) → ReachesOnly (joins_of (take p h)) range (rank + 1) rk s → rk ≡ rank → ReachesNoneBelow range rank (joins_of (take p h))
    lower_none rk s only e = λ r less. only.alone r (omega arith) (λ same. omega (arith, same, e, less))

    lower_only : (rk : ℕ) (s : DeclaredJoin) → ReachesOnly (joins_of (take p h)) range (rank + 1) rk s → (rk ≡ rank → ⊥) → ReachesOnly (joins_of (take p h)) range rank rk s
    lower_only rk s only apart = record {
      is_below = omega (arith, only.is_below, apart);
      one = only.one;
      alone = λ r less. only.alone r (omega arith);
    }

-- readers' cells, over a longer list
take_own : {S : Type 0} (list : S → History) (holds : S → Holdings) (h : History) (c d : S) (p : ℕ) (range : Range) (rank m : ℕ) (joins : List DeclaredJoin) → p ≤ length h → IsPrefix h (list c) →
    JoinsSpend (λ x y at j n. OneSpends (list x) (holds x) (holds y) p range rank at j n) c d joins m → JoinsTake h (holds c) (holds d) p range rank joins m
take_own list holds h c d p range rank m [] within prefix spends = (spends.0, ap holds spends.1)
take_own list holds h c d p range rank m (s ∷ []) within prefix spends = one_spends_over h (list c) (holds c) (holds d) p range rank s.position s.join m within prefix spends
take_own list holds h c d p range rank m (s ∷ t ∷ more) within prefix spends = tt

-- so it is of a reader that was read below a rank, was looked at, and then read what the joins of the rank give
pub spends_next : {S : Type 0} (list : S → History) (holds : S → Holdings) (a b c d : S) (p : ℕ) (range : Range) (rank n m k : ℕ) → k ≡ n + m → p ≤ length (list a) → IsPrefix (list a) (list c) →
    Spends (list a) (holds a) (holds b) p range rank n → c ≡ b →
    JoinsSpend (λ x y at j added. OneSpends (list x) (holds x) (holds y) p range rank at j added) c d (reached range rank (joins_of (take p (list c)))) m →
    Spends (list a) (holds a) (holds d) p range (rank + 1) k
spends_next list holds a b c d p range rank n m k sum within prefix first looked joins =
    next_spends (list a) (holds a) (holds b) (holds d) p range rank n m k sum first
    (subst (λ cells. JoinsTake (list a) cells (holds d) p range rank (reached range rank (joins_of (take p (list a)))) m) (ap holds looked)
    (subst (λ l. JoinsTake (list a) (holds c) (holds d) p range rank (reached range rank (joins_of l)) m) (take_prefix p (list a) (list c) within prefix)
    (take_own list holds (list a) c d p range rank m (reached range rank (joins_of (take p (list c)))) within prefix joins)))
