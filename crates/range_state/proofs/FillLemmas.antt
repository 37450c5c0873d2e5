-- Keys that are asked for under the slots of a range.
use Rattle.std.proofs.Common.{◌≡◌, ◌&&◌, ℕ, length, take, not, Bool, true, false, cond, Option, Some, None, is_some, IfSome, IsSomeAnd, refl, sym, ap, ◌∙◌, subst, inl, eqb-true}
use Rattle.std.proofs.lemmas.Bool.{false≢true, and_parts}
use Rattle.semantics.specs.Texts.{Text, Table, is_range, Range, within, value_at, pairs_where, pairs_within}
use Rattle.semantics.specs.Patterns.{Slots, no_slots, bind, fits, IsPartOf}
use Rattle.semantics.specs.PatternLaws.{AreSegmentTexts}
use Rattle.semantics.specs.Joins.{Operator, check, copy, count, sum, min, max, is_check, is_aggregate, Join, is_join, value_sources_of, value_operator}
use Rattle.semantics.specs.Histories.{History, DeclaredJoin, joins_of}
use Rattle.semantics.specs.Outputs.{out}
use Rattle.semantics.specs.States.{KeepsRules}
use Rattle.semantics.proofs.GatherLemmas.{ascending-out}
use Rattle.semantics.proofs.MemberLemmas.{Has, has_filter}
use Rattle.semantics.proofs.MergedLemmas.{ascending-pairs_within, value_at-pairs_within}
use Rattle.semantics.proofs.OfRankLemmas.{all_at}
use Rattle.semantics.proofs.OutputLemmas.{output_of_join, out_keys_fit_short}
use Rattle.semantics.proofs.PatternLemmas.{bind_some, length-no_slots, segments_of_pattern}
use Rattle.semantics.proofs.TableLemmas.{same_tables, ascending-pairs_where, value_at-pairs_where}
use Rattle.key_ranges.specs.Containing.{range_slots}
use Rattle.key_ranges.proofs.RangeSlotLemmas.{range_slots_are_shared, range_slots_are_slots}
use Rattle.growing_history.specs.Entered.{HasEntered, HasRank}
use Rattle.growing_history.proofs.EnteredLemmas.{has_entered_taken, declares_joins}
use Rattle.range_evaluation.specs.Trees.{is_asked}
use Rattle.range_evaluation.specs.TreeLaws.{AreOutputSlots}
use Rattle.range_evaluation.proofs.AskedLemmas.{binds_with_part, shared_are_output_slots}
use Rattle.range_evaluation.proofs.ContributionLemmas.{one_of}

-- a key of the range that fits the output binds under the range's slots
binds_under : (j : Join) (range : Range) (slots : Slots) (key : Text) → is_join j ≡ true → is_range range.low range.high ≡ true → range_slots j.output range ≡ Some slots → within range key ≡ true → fits j.output key ≡ true
    → is_some (bind j.output key slots) ≡ true
binds_under j range slots key ok bounds shared inside fit =
    let pattern = output_of_join j ok in
    let segments = segments_of_pattern j.output pattern in
    let found = some_by (bind j.output key no_slots) fit in
    let least = bind_some j.output key no_slots found.0 segments length-no_slots found.1 in
    let part : IsPartOf slots found.0 = subst (λ o. IsSomeAnd o (λ given. IsPartOf given found.0)) shared (range_slots_are_shared j.output range key found.0 segments bounds inside least.takes) in
    let places : length slots ≡ 16 = (subst (λ o. IfSome o (λ given. (length given ≡ 16) × AreSegmentTexts given)) shared (range_slots_are_slots j.output range)).0 in
    binds_with_part j.output key slots found.0 pattern places least.takes part
  where
    some_by : (o : Option Slots) → is_some o ≡ true → (x : Slots) × (o ≡ Some x)
    some_by None h = absurd (false≢true h)
    some_by (Some x) h = (x, refl)

-- so what is asked for of the output is what lies in the range
pub asked_is_within : (j : Join) (range : Range) (slots : Slots) (table : Table) → is_join j ≡ true → is_range range.low range.high ≡ true → range_slots j.output range ≡ Some slots
    → pairs_where (is_asked j.output slots range) (out j table) ≡ pairs_within range (out j table)
asked_is_within j range slots table ok bounds shared =
    same_tables (pairs_where (is_asked j.output slots range) (out j table)) (pairs_within range (out j table))
    (ascending-pairs_where (is_asked j.output slots range) (out j table) (ascending-out j table))
    (ascending-pairs_within range (out j table) (ascending-out j table))
    (λ q. value_at-pairs_where (is_asked j.output slots range) q (out j table) ∙ at q (value_at q (out j table)) refl (within range q) refl ∙ sym (value_at-pairs_within range q (out j table)))
  where
    either : (b : Bool) {o : Option Text} → o ≡ None → cond b o None ≡ None
    either true e = e
    either false e = refl

    at : (q : Text) (o : Option Text) → value_at q (out j table) ≡ o → (b : Bool) → within range q ≡ b → cond (is_asked j.output slots range q) (value_at q (out j table)) None ≡ cond (within range q) (value_at q (out j table)) None
    at q None none b e = either (is_asked j.output slots range q) none ∙ sym (either (within range q) none)
    at q (Some v) there true e =
        let fit = (out_keys_fit_short j table q ok (ap is_some there)).0 in
        ap (λ c. cond (c && is_some (bind j.output q slots)) (value_at q (out j table)) None) e
        ∙ ap (λ c. cond c (value_at q (out j table)) None) (binds_under j range slots q ok bounds shared e fit)
        ∙ sym (ap (λ c. cond c (value_at q (out j table)) None) e)
    at q (Some v) there false e =
        ap (λ c. cond (c && is_some (bind j.output q slots)) (value_at q (out j table)) None) e
        ∙ sym (ap (λ c. cond c (value_at q (out j table)) None) e)

-- the slots of a range are slots of the output
pub slots_of_output : (j : Join) (range : Range) (slots : Slots) → is_join j ≡ true → range_slots j.output range ≡ Some slots → AreOutputSlots j slots
slots_of_output j range slots ok shared = subst (λ o. IfSome o (AreOutputSlots j)) shared (shared_are_output_slots j range ok)

-- a join that stands after entries that entered is one
pub standing_join : (h : History) (p rank : ℕ) (j : Join) → HasEntered h → HasRank (joins_of (take p h)) j rank → is_join j ≡ true
standing_join h p rank j entered stands =
    subst (λ (k : Join). is_join k ≡ true) stands.is
    (all_at (λ (d : DeclaredJoin). is_join d.join ≡ true) (joins_of (take p h)) stands.place stands.standing (declares_joins (take p h) (has_entered_taken p h entered)) stands.stands)

-- ---- joins that are no aggregates

copy_by : (o : Operator) → is_check o ≡ false → is_aggregate o ≡ false → o ≡ copy
copy_by check c a = cc
copy_by copy c a = refl
copy_by count c a = cc
copy_by sum c a = cc
copy_by min c a = cc
copy_by max c a = cc

-- a join that keeps the rules and is no aggregate is a copy join
pub copies_by : (j : Join) → KeepsRules j → is_aggregate (value_operator j) ≡ false → value_operator j ≡ copy
copies_by j rules plain =
    let one = one_of (value_sources_of j.sources) (eqb-true _ _ (and_parts _ _ (and_parts _ _ rules.sources).0).0) in
    let is = one.1 in
    let own : is_aggregate one.0.operator ≡ false = rw is at plain in
    let passes = (has_filter (λ s. not (is_check s.operator)) j.sources one.0 (subst (λ ss. Has ss one.0) (sym is) (inl refl))).0 in
    let unchecked : is_check one.0.operator ≡ false = not_true (is_check one.0.operator) passes in
    rw is (copy_by one.0.operator unchecked own)
  where
    not_true : (b : Bool) → not b ≡ true → b ≡ false
    not_true true e = sym e
    not_true false e = refl
