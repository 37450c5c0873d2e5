-- Kept ranges that keep so many needs at most.
use Rattle.std.proofs.Common.{◌≡◌, ℕ, ◌<◌, ◌≤◌, length, take, Option, Some, None, sym, ap, ◌∙◌, subst, inl, inr, ⊎_elim, arith}
use Rattle.std.specs.List.{list_any}
use Rattle.std.proofs.lemmas.Option.{none-some}
use Rattle.semantics.specs.Texts.{Table, Range, pairs_within}
use Rattle.semantics.specs.Joins.{Join}
use Rattle.semantics.specs.Histories.{History, IsPrefix, joins_of}
use Rattle.semantics.specs.States.{below}
use Rattle.growing_history.specs.Entered.{HasRank}
use Rattle.growing_history.proofs.PrefixLemmas.{take_prefix}
use Rattle.lazy_log.specs.Pending.{meets_output}
use Rattle.join_rows.specs.Kept.{KeptRows}
use Rattle.join_eval.specs.Bounds.{Exceeds, OnTooWide}
use Rattle.join_eval.specs.declared.bounds.KeepFault.{KeepFault}
use Rattle.join_eval.specs.declared.bounds.KeepFault.TheVariants.{TooWide, OutOfMemory}
use Rattle.kept_ranges.specs.Sound.{KeptRange}
use Rattle.range_state.specs.Asking.{AreBareThroughout}
use Rattle.range_state.specs.Ready.{HasSameSubject, IsReady, StandsAt}
use Rattle.range_state.specs.Work.{fill_needs, FillsUpTo, IsKeptAfresh, IsLeftOut, MendsTooMany, TakesTooMany}
use Rattle.cell_slots.specs.Serving.{HasTooMany, IsTooWide, ServesUpTo, output_within}
use Rattle.cell_slots.proofs.LongerLemmas.{bare_all, little_before}
use Rattle.cell_slots.proofs.ServingLemmas.{same_output}

-- ---- what is given

-- where nothing is given, the range is kept
pub fills_none : (most p : ℕ) (table : Table) (before after : KeptRange) (o : Option KeptRows) → o ≡ None → FillsUpTo most p table before after o → IsKeptAfresh most p table before after
fills_none most p table before after o is fills = subst (λ (v : Option KeptRows). FillsUpTo most p table before after v) is fills

-- where rows are given, it is not
pub fills_some : (most p : ℕ) (table : Table) (before after : KeptRange) (o : Option KeptRows) (found : KeptRows) → o ≡ Some found → FillsUpTo most p table before after o → IsLeftOut most table before after found
fills_some most p table before after o found is fills = subst (λ (v : Option KeptRows). FillsUpTo most p table before after v) is fills

-- ---- what is ready, and what is too wide

-- a kept range that was filled afresh is ready for each piece
pub afresh_ready : (most p : ℕ) (table : Table) (piece : Range) (old new : KeptRange) → IsKeptAfresh most p table old new → IsReady p piece new
afresh_ready most p table piece old new kept = record { stands = kept.at; clear = ap (list_any (meets_output new.join.output piece)) kept.clear }

-- one of which nothing is kept is too wide, where filling takes too many needs
pub gone_is_wide : (most p : ℕ) (h : History) (old new : KeptRange) → HasSameSubject old new → new.position ≡ None → most < length (fill_needs old.join old.range (below (take p h) old.rank)) → IsTooWide most h p new
gone_is_wide most p h old new same nothing many =
    let alike : length (fill_needs new.join new.range (below (take p h) new.rank)) ≡ length (fill_needs old.join old.range (below (take p h) old.rank)) =
    λ i. length (fill_needs (same.join i) (same.range i) (below (take p h) (same.rank i))) in
    record { nothing = nothing; many = subst (λ (n : ℕ). most < n) (sym alike) many }

-- what is too wide over a longer list is so over the list
pub wide_over : (most p : ℕ) (h more : History) (s : KeptRange) → p ≤ length h → IsPrefix h more → IsTooWide most more p s → IsTooWide most h p s
wide_over most p h more s within prefix wide = record {
  nothing = wide.nothing;
  many = subst (λ (es : History). most < length (fill_needs s.join s.range (below es s.rank))) (take_prefix p h more within prefix) wide.many;
}

-- where a range cannot be brought to a position it is filled there, and that takes too many needs
pub fills_wide : {E : Type 0} (fault : KeepFault E) (most : Option ℕ) (h : History) (p : ℕ) (part : Range) (old new : KeptRange) → OnTooWide (TakesTooMany most h p old) fault → OnTooWide (new.position ≡ None) fault → (StandsAt p old → new ≡ old)
    → ((q : ℕ) → StandsAt q old → q < p → AreBareThroughout h q p old.kept.needs → OnTooWide ⊥ fault) → OnTooWide (HasTooMany most h p part old) fault
fills_wide (TooWide fault) most h p part old new many gone still known = inl (record {
  away = λ stands. none-some p (sym gone ∙ ap (λ (s : KeptRange). s.position) (still stands) ∙ stands);
  unknown = known;
  many = many;
})
fills_wide (OutOfMemory memory) most h p part old new many gone still known = tt

-- what takes too many needs over a longer list does so over the list
pub many_over : (most : Option ℕ) (h more : History) (p : ℕ) (part : Range) (s : KeptRange) → IsPrefix h more → p ≤ length h → HasTooMany most more p part s → HasTooMany most h p part s
many_over most h more p part s prefix within (inl wide) = inl (record {
  away = wide.away;
  unknown = λ q stands less bare. wide.unknown q stands less (bare_all h more q p s.kept.needs prefix within bare);
  many = subst (λ (es : History). Exceeds most (length (fill_needs s.join s.range (below es s.rank)))) (take_prefix p h more within prefix) wide.many;
})
many_over most h more p part s prefix within (inr wide) = inr (record {
  mid = wide.mid;
  same = wide.same;
  stands = wide.stands;
  still = wide.still;
  little = λ q stands less bare. little_before h more q p s wide.mid prefix within (omega (arith, less)) (wide.little q stands less (bare_all h more q p s.kept.needs prefix within bare));
  meets = wide.meets;
  many = subst (λ (es : History). MendsTooMany most (below es wide.mid.rank) part wide.mid) (take_prefix p h more within prefix) wide.many;
})

-- ---- what is served

-- what a kept range that was filled afresh gives
pub afresh_serves : (most p : ℕ) (h more : History) (table : Table) (piece : Range) (old new : KeptRange) (pairs : Table) → IsKeptAfresh most p table old new → HasSameSubject old new → p ≤ length h → IsPrefix h more
    → pairs ≡ output_within new more p piece → ServesUpTo most h p piece old new pairs
afresh_serves most p h more table piece old new pairs kept same within prefix is = record {
  output = is ∙ same_output old new h more p piece same within prefix;
  kept = inl (afresh_ready most p table piece old new kept);
}

-- what the rows give that were found of one that is too wide
pub left_serves : (most p : ℕ) (h : History) (piece : Range) (old new : KeptRange) (found : KeptRows) (pairs : Table) → IsLeftOut most (below (take p h) old.rank) old new found → HasSameSubject old new
    → pairs ≡ pairs_within piece found.pairs → ServesUpTo most h p piece old new pairs
left_serves most p h piece old new found pairs left same is = record {
  output = is ∙ ap (pairs_within piece) left.rows;
  kept = inr (gone_is_wide most p h old new same left.nothing left.many);
}

-- what is served from a later state over a longer list is served from the first
pub served_over : (most p : ℕ) (h more : History) (piece : Range) (old mid new : KeptRange) (pairs : Table) → HasSameSubject old mid → p ≤ length h → IsPrefix h more → ServesUpTo most more p piece mid new pairs
    → ServesUpTo most h p piece old new pairs
served_over most p h more piece old mid new pairs same within prefix given = record {
  output = given.output ∙ same_output old mid h more p piece same within prefix;
  kept = ⊎_elim (λ (ready : IsReady p piece new). inl ready) (λ (wide : IsTooWide most more p new). inr (wide_over most p h more new within prefix wide)) given.kept;
}

-- a kept range of the same subject is of a join that stands, over a longer list too
pub stands_on : (h more : History) (p : ℕ) (old new : KeptRange) → p ≤ length h → IsPrefix h more → HasSameSubject old new → HasRank (joins_of (take p h)) old.join old.rank → HasRank (joins_of (take p more)) new.join new.rank
stands_on h more p old new within prefix same stands =
    subst (λ (es : History). HasRank (joins_of es) new.join new.rank) (sym (take_prefix p h more within prefix))
    (subst (λ (j : Join). HasRank (joins_of (take p h)) j new.rank) (sym same.join) (subst (λ (r : ℕ). HasRank (joins_of (take p h)) old.join r) (sym same.rank) stands))
