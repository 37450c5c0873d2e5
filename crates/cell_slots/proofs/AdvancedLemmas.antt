-- Kept ranges that are advanced, mended and read.
use Rattle.std.proofs.Common.{◌≡◌, ℕ, ◌+◌, ◌<◌, ◌≤◌, ◌⊎◌, Bool, true, false, nat_lt, filter, length, not, take, Option, IfSome, Some, None, Result, Ok, Err, OnOk, OnErr, refl, sym, ap, ◌∙◌, subst, inl, inr, arith, ltb-true, ltb-false}
use Rattle.std.specs.List.{AllByRecursion}
use Rattle.std.specs.Option.{IsSomeAnd}
use Rattle.std.proofs.lemmas.Bool.{true≢false}
use Rattle.semantics.specs.Texts.{Table, Range}
use Rattle.semantics.specs.Patterns.{Slots}
use Rattle.semantics.specs.Histories.{History, IsPrefix, joins_of}
use Rattle.semantics.specs.States.{below}
use Rattle.growing_history.proofs.PrefixLemmas.{take_prefix}
use Rattle.lazy_log.specs.Pending.{meets_output}
use Rattle.range_evaluation.specs.Trees.{tree}
use Rattle.join_rows.specs.Kept.{AddsEach}
use Rattle.join_eval.specs.Bounds.{Allows}
use Rattle.join_eval.specs.Walks.{AreBare}
use Rattle.kept_ranges.specs.Notes.{noted}
use Rattle.kept_ranges.specs.Sound.{KeptRange}
use Rattle.range_state.specs.Ready.{HasSameSubject, pending_meets, StandsAt, StandsOrIsForgotten}
use Rattle.range_state.specs.Work.{advance_steps, AreBareUnder, fill_needs, IsFilledAfresh, meeting, mend_notes, mend_steps, needs_under_each, TouchesLittle}
use Rattle.range_state.proofs.HeldLemmas.{afresh_few}
use Rattle.cell_slots.specs.Serving.{CountsForward, IsCaughtUp, IsLeftOrStandsAt, WasMended, WasAdvanced}
use Rattle.cell_slots.proofs.CountingLemmas.{forward_counted}

-- ---- mended

-- a mend over a list that has grown
pub mended_over : {X E : Type 0} (r : Result X E) (h here : History) (p : ℕ) (part : Range) (old new : KeptRange) (before after : ℕ) → IsPrefix h here → p ≤ length h → StandsAt p old → HasSameSubject old new
    → OnOk r (new.position ≡ old.position) → OnOk r (new.kept.pending ≡ filter (λ given. not (meets_output old.join.output part given)) old.kept.pending)
    → ((x : ℕ) → StandsAt x old → OnOk r (AddsEach (needs_under_each old.join old.range (below (take x here) old.rank) (meeting old part)) old.kept.needs new.kept.needs))
    → ((x : ℕ) → StandsAt x old → OnOk r (new.notes ≡ noted old.notes (mend_notes x (meeting old part))))
    → ((x : ℕ) → StandsAt x old → OnOk r (before + mend_steps old (below (take x here) old.rank) part ≤ after))
    → ((x : ℕ) → StandsAt x old → AreBareUnder old here x part → OnOk r (after ≤ before + mend_steps old (below (take x here) old.rank) part))
    → OnOk r (WasMended h p part old new before after)
mended_over (Err e) h here p part old new before after prefix within at same position left adds notes least cost = tt
mended_over (Ok x) h here p part old new before after prefix within at same position left adds notes least cost =
    let grown : take p here ≡ take p h = take_prefix p h here within prefix in
    record {
      mends = record {
        same = same;
        at = position ∙ at;
        left = left;
        needs = subst (λ (es : History). AddsEach (needs_under_each old.join old.range (below es old.rank) (meeting old part)) old.kept.needs new.kept.needs) grown (adds p at);
        notes = notes p at;
      };
      least = subst (λ (es : History). before + mend_steps old (below es old.rank) part ≤ after) grown (least p at);
      cost = λ bare.
          let there : AreBareUnder old here p part =
          subst (λ (es : History). AllByRecursion (λ (given : Slots). AreBare (joins_of es) (tree old.join given old.range (below es old.rank))) (meeting old part)) (sym grown) bare in
          subst (λ (es : History). after ≤ before + mend_steps old (below es old.rank) part) grown (cost p at there);
    }

-- so of what did not change, and took no step, before it was mended
pub mended_still : {X E : Type 0} (r : Result X E) (h : History) (p : ℕ) (part : Range) (old mid new : KeptRange) (before between after : ℕ) → mid ≡ old → between ≡ before → OnOk r (WasMended h p part mid new between after)
    → OnOk r (WasMended h p part old new before after)
mended_still r h p part old mid new before between after still free was = subst (λ (w : KeptRange × ℕ). OnOk r (WasMended h p part w.0 new w.1 after)) (λ i. (still i, free i)) was

-- so with steps that are counted from another number on
pub mended_counted : (h : History) (p : ℕ) (part : Range) (old new : KeptRange) (before after from upto : ℕ) → ((steps : ℕ) → before + steps ≤ after → from + steps ≤ upto) → ((steps : ℕ) → after ≤ before + steps → upto ≤ from + steps)
    → WasMended h p part old new before after → WasMended h p part old new from upto
mended_counted h p part old new before after from upto low shift was = record {
  mends = was.mends;
  least = low (mend_steps old (below (take p h) old.rank) part) was.least;
  cost = λ bare. shift (mend_steps old (below (take p h) old.rank) part) (was.cost bare);
}

-- a read after it takes one step more and one for each pair
pub mended_and_read : (h : History) (p : ℕ) (part : Range) (old new : KeptRange) (before made after pairs : ℕ) → WasMended h p part old new before made → after ≡ made + 1 + pairs → WasMended h p part old new (before + 1 + pairs) after
mended_and_read h p part old new before made after pairs was is = mended_counted h p part old new before made (before + 1 + pairs) after (λ steps low. omega (arith, low, is)) (λ steps up. omega (arith, up, is)) was

-- ---- advanced

-- an advance after which nothing pending meets the part
pub advanced_alone : (h : History) (q p : ℕ) (part : Range) (old mid : KeptRange) (before after : ℕ) → HasSameSubject old mid → StandsAt p mid → pending_meets mid part ≡ false → TouchesLittle h q p old mid
    → CountsForward h p old before after → after ≤ before + advance_steps h q p old.kept.needs → WasAdvanced h q p part old mid before after
advanced_alone h q p part old mid before after same at clear little least few = record {
  mid = mid;
  same = same;
  at = at;
  little = little;
  between = after;
  least = least;
  cost = few;
  alone = λ none. (refl, refl);
  mended = λ meets. absurd (true≢false (sym meets ∙ clear));
}

-- an advance, and a mend
pub advanced_and_mended : {X E : Type 0} (r : Result X E) (h : History) (q p : ℕ) (part : Range) (old mid new : KeptRange) (before between after : ℕ) → HasSameSubject old mid → StandsAt p mid → pending_meets mid part ≡ true
    → TouchesLittle h q p old mid → CountsForward h p old before between → between ≤ before + advance_steps h q p old.kept.needs → OnOk r (WasMended h p part mid new between after)
    → OnOk r (WasAdvanced h q p part old new before after)
advanced_and_mended (Err e) h q p part old mid new before between after same at meets little least few was = tt
advanced_and_mended (Ok x) h q p part old mid new before between after same at meets little least few was = record {
  mid = mid;
  same = same;
  at = at;
  little = little;
  between = between;
  least = least;
  cost = few;
  alone = λ clear. absurd (true≢false (sym meets ∙ clear));
  mended = λ some. was;
}

-- a read after it takes one step more and one for each pair
pub advanced_and_read : (h : History) (q p : ℕ) (part : Range) (old new : KeptRange) (before made after pairs : ℕ) → WasAdvanced h q p part old new before made → after ≡ made + 1 + pairs
    → WasAdvanced h q p part old new (before + 1 + pairs) after
advanced_and_read h q p part old new before made after pairs was is = record {
  mid = was.mid;
  same = was.same;
  at = was.at;
  little = was.little;
  between = was.between + 1 + pairs;
  least = forward_counted h p old before was.between (before + 1 + pairs) (was.between + 1 + pairs) (λ steps low. omega (arith, low)) was.least;
  cost = let few = was.cost in omega (arith, few);
  alone = λ clear. let so = was.alone clear in let counted = so.1 in (so.0, omega (arith, counted, is));
  mended = λ meets. mended_and_read h p part was.mid new was.between made after pairs (was.mended meets) is;
}

-- ---- how many needs are kept

-- no more than are allowed, where a range was filled afresh and no more are needed for it
pub filled_within : {X E : Type 0} (r : Result X E) (most : Option ℕ) (p : ℕ) (table : Table) (old new : KeptRange) → OnOk r (IsFilledAfresh p table old new) → OnOk r (Allows most (length (fill_needs old.join old.range table)))
    → OnOk r (Allows most (length new.kept.needs))
filled_within (Ok x) most p table old new afresh few = afresh_few most p table old new afresh few
filled_within (Err e) most p table old new afresh few = tt

-- ---- where a call fails

-- what is so whether a call succeeds or not
pub on_err_always : {X E P : Type 0} (r : Result X E) → P → OnErr r P
on_err_always (Ok x) holds = tt
on_err_always (Err e) holds = holds

-- so where it succeeds
pub on_ok_always : {X E P : Type 0} (r : Result X E) → P → OnOk r P
on_ok_always (Ok x) holds = holds
on_ok_always (Err e) holds = tt

-- what was to be filled at a position stands there, or is forgotten
pub filled_there : (p : ℕ) (old new : KeptRange) → StandsAt p new ⊎ (new.position ≡ None) → IsLeftOrStandsAt p old new
filled_there p old new (inl at) = inr at
filled_there p old new (inr gone) = inl (inr gone)

-- what stood at a position and is left or forgotten there
pub left_there : (p : ℕ) (old mid new : KeptRange) → StandsAt p mid → StandsOrIsForgotten mid new → IsLeftOrStandsAt p old new
left_there p old mid new at (inl same) = inr (ap (λ (s : KeptRange). s.position) same ∙ at)
left_there p old mid new at (inr gone) = inl (inr gone)

-- what was advanced where it stood below a position
pub caught_there : (p : ℕ) (old new : KeptRange) → IsCaughtUp p old new → IsLeftOrStandsAt p old new
caught_there p old new caught = by_place old.position refl
  where
    by_order : (q : ℕ) (b : Bool) → nat_lt q p ≡ b → old.position ≡ Some q → IsLeftOrStandsAt p old new
    by_order q true less is = inr (caught.at (subst (λ (o : Option ℕ). IsSomeAnd o (λ at. at < p)) (sym is) (ltb-true q p less)))
    by_order q false less is = inl (inl (caught.still (subst (λ (o : Option ℕ). IfSome o (λ at. p ≤ at)) (sym is) (ltb-false q p less))))

    by_place : (o : Option ℕ) → old.position ≡ o → IsLeftOrStandsAt p old new
    by_place None is = inl (inl (caught.still (subst (λ (o : Option ℕ). IfSome o (λ at. p ≤ at)) (sym is) tt)))
    by_place (Some q) is = by_order q (nat_lt q p) refl is
