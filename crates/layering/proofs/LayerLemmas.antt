-- What stands below a rank, in a range.
use Rattle.std.proofs.Common.{◌≡◌, ◌+◌, ◌⊎◌, ℕ, zero, suc, Bool, true, false, cond, not, List, [], ◌∷◌, length, filter, slice_get, slice_index, Option, Some, None, is_some, refl, sym, ap, ◌∙◌, inl, inr, ⊎_elim, arith}
use Rattle.std.specs.List.{AllByRecursion}
use Rattle.std.specs.Option.{option_or}
use Rattle.std.proofs.lemmas.Bool.{cases_Bool, cases_eq, false≢true, cond-false, false_from_ne_true}
use Rattle.std.proofs.lemmas.List.Sums.{length-filter, count_by-le-length}
use Rattle.std.proofs.lemmas.Option.{none-some, same_Some, slice_get-get_or}
use Rattle.semantics.specs.Texts.{Text, Table, value_at, is_range, Range, within, pairs_within, pairs_where}
use Rattle.semantics.specs.Patterns.{fits}
use Rattle.semantics.specs.Joins.{is_join}
use Rattle.semantics.specs.Histories.{History, DeclaredJoin, joins_of, base_of, is_computed, visible}
use Rattle.semantics.specs.Outputs.{out}
use Rattle.semantics.specs.States.{ranks_of, of_rank, merged, below, state}
use Rattle.semantics.specs.StateLaws.{DeclaresJoins}
use Rattle.semantics.proofs.AdmissibleSets.{entered_is_admissible_lem}
use Rattle.semantics.proofs.Members.{IsIn, IsIn-from_list_any, Contains-from_IsIn}
use Rattle.semantics.proofs.TableLemmas.{IsAscending, ascending-pairs_where, value_at-pairs_where, same_tables}
use Rattle.semantics.proofs.MergedLemmas.{ascending-pairs_within, value_at-pairs_within, ascending-merged, value_at-merged}
use Rattle.semantics.proofs.GatherLemmas.{ascending-out}
use Rattle.semantics.proofs.OutputLemmas.{out_keys_fit}
use Rattle.semantics.proofs.OfRankLemmas.{all_at, all_picked, one_output, list_any_true_at}
use Rattle.semantics.proofs.BaseLemmas.{ascending-base_of, ascending-visible, value_at-visible}
use Rattle.semantics.proofs.StateLemmas.{added, below-zero, below-suc, ascending-below, ascending-state, value_at-out_none, value_at-below_before, value_at-state_output, value_at-state_elsewhere}
use Rattle.key_ranges.specs.Containing.{bind_range}
use Rattle.growing_history.specs.Entered.{HasEntered}
use Rattle.growing_history.proofs.EnteredLemmas.{declares_joins}
use Rattle.growing_history.proofs.PartLemmas.{same_within}
use Rattle.layering.specs.Merging.{ShareNoKey, Agree}
use Rattle.layering.specs.Reached.{reaches, reached, ReachesOne, part_of, with_parts}
use Rattle.layering.specs.LayerLaws.{BelowNextWithin, BelowNextInAnyOrder, OutputsShareNoKey, OutputIsNewBelow, UnreachedIsVisible, VisibleWithin, VisibleAreFewer, OneReachedIsState, OneReachedLength}
use Rattle.layering.proofs.ListLemmas.{something, nothing_from, none_from_test}
use Rattle.layering.proofs.MergeLemmas.{or_nothing, merged_within, merged_length, each_in_any_order}
use Rattle.layering.proofs.ReachLemmas.{unreached_fits_not, unreached_gives_nothing, reached_stand}

-- ---- the joins of a rank

-- outputs that are added to a table are added in a range
within_added : (range : Range) (joins : List DeclaredJoin) (source table : Table) → IsAscending table → pairs_within range (added joins source table) ≡ with_parts range joins source (pairs_within range table)
within_added range [] source table h = refl
within_added range (s ∷ joins) source table h =
    within_added range joins source (merged table (out s.join source)) (ascending-merged table (out s.join source) h)
    ∙ ap (with_parts range joins source) (merged_within range table (out s.join source) h (ascending-out s.join source))

-- those that the range does not reach add nothing
with_reached : (range : Range) (joins : List DeclaredJoin) (source pairs : Table) → AllByRecursion (λ s. is_join s.join ≡ true) joins → is_range range.low range.high ≡ true →
    with_parts range joins source pairs ≡ with_parts range (filter (reaches range) joins) source pairs
with_reached range [] source pairs ok is = refl
with_reached range (s ∷ joins) source pairs ok is =
    elim (reaches range s) as (λ b. reaches range s ≡ b →
    with_parts range joins source (merged pairs (part_of range source s)) ≡ with_parts range (cond b (s ∷ filter (reaches range) joins) (filter (reaches range) joins)) source pairs) [
      | true ↦ λ e. with_reached range joins source (merged pairs (part_of range source s)) ok.1 is
      | false ↦ λ e.
          ap (λ more. with_parts range joins source (merged pairs more)) (unreached_gives_nothing s.join range source ok.0 is (none_from_test (bind_range s.join.output range) e))
          ∙ with_reached range joins source pairs ok.1 is
    ] refl

-- the joins of a rank are joins
pub rank_joins : (h : History) (r : ℕ) → DeclaresJoins h → AllByRecursion (λ s. is_join s.join ≡ true) (of_rank r (joins_of h))
rank_joins h r declares =
    all_picked (λ s. is_join s.join ≡ true) r (ranks_of (joins_of h)) (joins_of h) (λ i s ranked stands. all_at (λ (t : DeclaredJoin). is_join t.join ≡ true) (joins_of h) i s declares stands)

-- below the next rank, in a range
pub below_next_within : BelowNextWithin
below_next_within h r range entered is =
    let next : r + 1 ≡ suc r = omega arith in
    let joins = of_rank r (joins_of h) in
    let source = below h r in
    ap (λ n. pairs_within range (below h n)) next ∙ ap (pairs_within range) (below-suc h r)
    ∙ within_added range joins source source (ascending-below h r)
    ∙ with_reached range joins source (pairs_within range source) (rank_joins h r (declares_joins h entered)) is

-- ---- which output has a key

-- a join with a pair at a key has an output that the key fits
fits_from_out : (h : History) (place : ℕ) (s : DeclaredJoin) (table : Table) (key : Text) → HasEntered h → slice_get (joins_of h) place ≡ Some s → is_some (value_at key (out s.join table)) ≡ true → fits s.join.output key ≡ true
fits_from_out h place s table key entered at there =
    out_keys_fit s.join table key (all_at (λ (t : DeclaredJoin). is_join t.join ≡ true) (joins_of h) place s (declares_joins h entered) at) there

-- two outputs have no key in common
pub outputs_share_no_key : OutputsShareNoKey
outputs_share_no_key h place other s t table more entered at there apart key has =
    nothing_from (value_at key (out t.join more)) (λ also.
    apart (one_output (joins_of h) place other s t key (entered_is_admissible_lem h entered.entered).apart at there
    (fits_from_out h place s table key entered at has) (fits_from_out h other t more key entered there also)))

-- nothing stands at a key of an output below its rank
pub output_is_new_below : OutputIsNewBelow
output_is_new_below h place r s table entered at up key has =
    value_at-below_before h r place s key
    (record { admissible = entered_is_admissible_lem h entered.entered; declares = declares_joins h entered; stands = at; fit = fits_from_out h place s table key entered at has }) up

-- ---- in any order

-- a value in a range is a value
there_within : (range : Range) (key value : Text) (table : Table) → value_at key (pairs_within range table) ≡ Some value → value_at key table ≡ Some value
there_within range key value table h = by (within range key) (sym (value_at-pairs_within range key table) ∙ h)
  where
    by : (b : Bool) → cond b (value_at key table) None ≡ Some value → value_at key table ≡ Some value
    by true e = e
    by false e = absurd (none-some value e)

-- of the joins of a rank that a range reaches each two agree
reached_agree : (h : History) (r : ℕ) (range : Range) (source : Table) (s t : DeclaredJoin) → HasEntered h → IsIn s (reached range r (joins_of h)) → IsIn t (reached range r (joins_of h)) → Agree (part_of range source s) (part_of range source t)
reached_agree h r range source s t entered m n key value different has also =
    let joins = joins_of h in
    let a = ((reached_stand joins range r s).0 (Contains-from_IsIn s (reached range r joins) m)).0 in
    let b = ((reached_stand joins range r t).0 (Contains-from_IsIn t (reached range r joins) n)).0 in
    let first = there_within range key value (out s.join source) has in
    let next = there_within range key different (out t.join source) also in
    let one = one_output joins a.place b.place s t key (entered_is_admissible_lem h entered.entered).apart a.stands b.stands
    (fits_from_out h a.place s source key entered a.stands (ap is_some first)) (fits_from_out h b.place t source key entered b.stands (ap is_some next)) in
    let is : s ≡ t = same_Some s t (sym a.stands ∙ ap (slice_get joins) one ∙ b.stands) in
    same_Some value different (sym first ∙ ap (λ (x : DeclaredJoin). value_at key (out x.join source)) is ∙ next)

-- below the next rank, whatever the order
pub below_next_in_any_order : BelowNextInAnyOrder
below_next_in_any_order h r range joins entered is p =
    below_next_within h r range entered is
    ∙ each_in_any_order (part_of range (below h r)) (pairs_within range (below h r)) (reached range r (joins_of h)) joins
    (ascending-pairs_within range (below h r) (ascending-below h r))
    (λ s m. ascending-pairs_within range (out s.join (below h r)) (ascending-out s.join (below h r)))
    (λ s t m n. reached_agree h r range (below h r) s t entered m n) p

-- ---- what is visible

-- where no output below a rank is reached
pub unreached_is_visible : UnreachedIsVisible
unreached_is_visible h zero range entered is none = ap (pairs_within range) (below-zero h)
unreached_is_visible h (suc rank) range entered is none =
    let next : suc rank ≡ rank + 1 = omega arith in
    ap (λ n. pairs_within range (below h n)) next
    ∙ below_next_within h rank range entered is
    ∙ ap (λ joins. with_parts range joins (below h rank) (pairs_within range (below h rank))) (none rank (omega arith))
    ∙ unreached_is_visible h rank range entered is (λ r less. none r (omega arith))

exchange : (a b : Bool) (o : Option Text) → cond a (cond b o None) None ≡ cond b (cond a o None) None
exchange true true o = refl
exchange true false o = refl
exchange false true o = refl
exchange false false o = refl

-- the visible pairs of a range
pub visible_within : VisibleWithin
visible_within h range =
    let test : Text → Bool = λ key. not (is_computed (joins_of h) key) in
    same_tables (pairs_within range (visible h)) (pairs_where test (pairs_within range (base_of h)))
    (ascending-pairs_within range (visible h) (ascending-visible h))
    (ascending-pairs_where test (pairs_within range (base_of h)) (ascending-pairs_within range (base_of h) (ascending-base_of h)))
    (λ q. value_at-pairs_within range q (visible h) ∙ ap (λ o. cond (within range q) o None) (value_at-visible q h)
    ∙ exchange (within range q) (test q) (value_at q (base_of h))
    ∙ sym (value_at-pairs_where test q (pairs_within range (base_of h)) ∙ ap (λ o. cond (test q) o None) (value_at-pairs_within range q (base_of h))))

-- they are at most as many as the base pairs
pub visible_are_fewer : VisibleAreFewer
visible_are_fewer h range =
    let test : Text × Text → Bool = λ pair. not (is_computed (joins_of h) pair.0) in
    let base = pairs_within range (base_of h) in
    let long = ap length (visible_within h range) ∙ length-filter test base in
    let few = count_by-le-length test base in
    omega (arith, long, few)

-- ---- one output alone

-- a key of the range that does not fit the one output that it reaches fits none
uncomputed : (h : History) (range : Range) (place : ℕ) (s : DeclaredJoin) (q : Text) → DeclaresJoins h → is_range range.low range.high ≡ true → ReachesOne range (joins_of h) place s → within range q ≡ true → fits s.join.output q ≡ false →
    is_computed (joins_of h) q ≡ false
uncomputed h range place s q declares is one inside unfit =
    false_from_ne_true (is_computed (joins_of h) q) (λ e.
    let w = IsIn-from_list_any (λ t. fits t.join.output q) (joins_of h) e in
    let k = Contains-from_IsIn w.0 (joins_of h) w.1 in
    let at : slice_get (joins_of h) k.0 ≡ Some w.0 = slice_get-get_or (joins_of h) k.0 w.0 k.1 ∙ ap (λ t. Some t) k.2 in
    ⊎_elim
    (λ (here : k.0 ≡ place).
    let is : s ≡ w.0 = same_Some s w.0 (sym one.stands ∙ ap (slice_get (joins_of h)) (sym here) ∙ at) in
    false≢true (sym unfit ∙ ap (λ (t : DeclaredJoin). fits t.join.output q) is ∙ w.2))
    (λ other.
    let ok = all_at (λ (t : DeclaredJoin). is_join t.join ≡ true) (joins_of h) k.0 w.0 declares at in
    false≢true (sym (unreached_fits_not w.0.join range q ok is (one.alone k.0 w.0 at other) inside) ∙ w.2))
    (cases_eq k.0 place))

-- a join's output has a pair at a key of the range, or what is visible has
one_at : (h : History) (range : Range) (place : ℕ) (s : DeclaredJoin) (q : Text) → HasEntered h → is_range range.low range.high ≡ true → ReachesOne range (joins_of h) place s → within range q ≡ true →
    value_at q (state h) ≡ option_or (value_at q (out s.join (below h (slice_index (ranks_of (joins_of h)) place)))) (value_at q (visible h))
one_at h range place s q entered is one inside = by (cases_Bool (fits s.join.output q))
  where
    by : (fits s.join.output q ≡ true) ⊎ (fits s.join.output q ≡ false) →
        value_at q (state h) ≡ option_or (value_at q (out s.join (below h (slice_index (ranks_of (joins_of h)) place)))) (value_at q (visible h))
    by (inl fit) =
        let made = value_at q (out s.join (below h (slice_index (ranks_of (joins_of h)) place))) in
        let hidden : value_at q (visible h) ≡ None =
        value_at-visible q h ∙ cond-false _ _ _ (ap not (list_any_true_at (λ (t : DeclaredJoin). fits t.join.output q) (joins_of h) place s one.stands fit)) in
        value_at-state_output h place s q (record { admissible = entered_is_admissible_lem h entered.entered; declares = declares_joins h entered; stands = one.stands; fit = fit })
        ∙ sym (or_nothing made) ∙ ap (option_or made) (sym hidden)
    by (inr unfit) =
        let declares = declares_joins h entered in
        let none : is_computed (joins_of h) q ≡ false = uncomputed h range place s q declares is one inside unfit in
        let nothing = value_at-out_none s.join (below h (slice_index (ranks_of (joins_of h)) place)) q (all_at (λ (t : DeclaredJoin). is_join t.join ≡ true) (joins_of h) place s declares one.stands) unfit in
        value_at-state_elsewhere h q declares none ∙ ap (λ o. option_or o (value_at q (visible h))) (sym nothing)

-- the state in a range that reaches one output alone
pub one_reached_is_state : OneReachedIsState
one_reached_is_state h range place s entered is one =
    let made = out s.join (below h (slice_index (ranks_of (joins_of h)) place)) in
    same_within range (state h) (merged (visible h) made) (ascending-state h) (ascending-merged (visible h) made (ascending-visible h))
    (λ q inside. one_at h range place s q entered is one inside ∙ sym (value_at-merged q (visible h) made (ascending-out s.join (below h (slice_index (ranks_of (joins_of h)) place)))))
    ∙ merged_within range (visible h) made (ascending-visible h) (ascending-out s.join (below h (slice_index (ranks_of (joins_of h)) place)))

-- what is visible shares no key with an output, in a range neither
visible_apart : (h : History) (range : Range) (place : ℕ) (s : DeclaredJoin) (table : Table) → HasEntered h → slice_get (joins_of h) place ≡ Some s → ShareNoKey (pairs_within range (visible h)) (pairs_within range (out s.join table))
visible_apart h range place s table entered at key has =
    nothing_from (value_at key (pairs_within range (out s.join table))) (λ also.
    let v = something (value_at key (pairs_within range (visible h))) has in
    let u = something (value_at key (pairs_within range (out s.join table))) also in
    let seen = there_within range key v.0 (visible h) v.1 in
    let none : value_at key (visible h) ≡ None = ap (value_at key) (sym (below-zero h)) ∙ output_is_new_below h place 0 s table entered at (omega arith) key (ap is_some (there_within range key u.0 (out s.join table) u.1)) in
    none-some v.0 (sym none ∙ seen))

-- and how many pairs it has
pub one_reached_length : OneReachedLength
one_reached_length h range place s entered is one =
    let rank = slice_index (ranks_of (joins_of h)) place in
    ap length (one_reached_is_state h range place s entered is one)
    ∙ merged_length (pairs_within range (visible h)) (pairs_within range (out s.join (below h rank)))
    (ascending-pairs_within range (visible h) (ascending-visible h)) (ascending-pairs_within range (out s.join (below h rank)) (ascending-out s.join (below h rank)))
    (visible_apart h range place s (below h rank) entered one.stands)
