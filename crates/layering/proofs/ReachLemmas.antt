-- What a range reaches, and what it does not.
use Rattle.std.proofs.Common.{◌≡◌, ◌<◌, ℕ, Bool, true, false, cond, not, ◌&&◌, ◌==◌, List, [], ◌∷◌, ◌++◌, get_or, map, filter, zip, slice_index, Contains, Option, Some, None, is_some, MatchOption, IsSomeAnd, refl, sym, ap, ◌∙◌, subst, arith}
use Rattle.std.specs.List.{list_all}
use Rattle.std.proofs.lemmas.Bool.{false≢true, and_parts, false_from_ne_true, not-true}
use Rattle.semantics.specs.Texts.{Text, bar, table_of, value_at, is_range, Range, within, pairs_within}
use Rattle.semantics.specs.Patterns.{literal, slot, Pattern, Slots, no_slots, segments, is_pattern, Fits, IsPartOf, bind, fits}
use Rattle.semantics.specs.PatternLaws.{HasNoFit, IsLeastFit}
use Rattle.semantics.specs.Histories.{DeclaredJoin}
use Rattle.semantics.specs.Outputs.{out}
use Rattle.semantics.specs.States.{ranks_of, of_rank}
use Rattle.semantics.proofs.PatternLemmas.{length-no_slots, bind_least, segments_of_pattern}
use Rattle.semantics.proofs.PieceLemmas.{parts_of, pieces-append}
use Rattle.semantics.proofs.TableLemmas.{same_tables}
use Rattle.semantics.proofs.MergedLemmas.{ascending-pairs_within, value_at-pairs_within}
use Rattle.semantics.proofs.GatherLemmas.{ascending-out}
use Rattle.semantics.proofs.OutputLemmas.{output_of_join}
use Rattle.semantics.proofs.StateLemmas.{value_at-out_none}
use Rattle.semantics.proofs.MemberLemmas.{has_from_contains, contains_from_has, has_filter, has_filtered}
use Rattle.semantics.proofs.OfRankLemmas.{of_rank-members, of_rank_has}
use Rattle.key_ranges.specs.Containing.{shared_beginning, bind_range, take_first}
use Rattle.key_ranges.specs.Ranges.{without_last}
use Rattle.key_ranges.proofs.PrefixLemmas.{named, without_last_push}
use Rattle.key_ranges.proofs.RangeLemmas.{bounds_of, bar_of_names}
use Rattle.key_ranges.proofs.BeginningLemmas.{shared_is_beginning}
use Rattle.key_ranges.proofs.BindRangeLemmas.{bind_range_is_shared, pieces_cut}
use Rattle.growing_history.specs.Changes.{has_table}
use Rattle.layering.specs.Reached.{reaches, reached}
use Rattle.layering.specs.ReachLaws.{UnreachedFitsNot, UnreachedGivesNothing, BareReachesNone, OfRankStand, StandsHasRank, ReachedStand, ReachesNoneBelowEach, ReachedArePicked}
use Rattle.layering.proofs.ListLemmas.{none_from_test}

-- ---- a range that does not reach an output

-- a key that fits does so under some slots
fitting_slots : (p : Pattern) (key : Text) → is_pattern p ≡ true → fits p key ≡ true → (given : Slots) × Fits p key given
fitting_slots p key ok fit = by (bind p key no_slots) (bind_least p key no_slots (segments_of_pattern p ok) length-no_slots) fit
  where
    by : (o : Option Slots) → MatchOption o (HasNoFit p key no_slots) (IsLeastFit p key no_slots) → is_some o ≡ true → (given : Slots) × Fits p key given
    by None least there = absurd (false≢true there)
    by (Some given) least there = (given, least.fits)

-- no key of the range fits
pub unreached_fits_not : UnreachedFitsNot
unreached_fits_not j range key ok is none inside =
    false_from_ne_true (fits j.output key) (λ fit.
    let output = output_of_join j ok in
    let w = fitting_slots j.output key output fit in
    subst (λ o. IsSomeAnd o (λ shared. IsPartOf shared w.0)) none (bind_range_is_shared j.output range key w.0 (segments_of_pattern j.output output) is inside w.1))

-- nor has the output a pair in it
pub unreached_gives_nothing : UnreachedGivesNothing
unreached_gives_nothing j range table ok is none =
    same_tables (pairs_within range (out j table)) [] (ascending-pairs_within range (out j table) (ascending-out j table)) refl
    (λ q. value_at-pairs_within range q (out j table)
    ∙ elim (within range q) as (λ b. within range q ≡ b → cond b (value_at q (out j table)) None ≡ None) [
      | true ↦ λ e. value_at-out_none j table q ok (unreached_fits_not j range q ok is none e)
      | false ↦ λ e. refl
    ] refl)

-- ---- a bare range

-- the first of some texts
abbrev first_text : List Text → Text
first_text ts = get_or ts 0 []

-- the segments of a range's shared beginning begin with the name of its table
shared_begins : (r : Range) → is_range r.low r.high ≡ true → (ts : List Text) × (segments (without_last (shared_beginning r)) ≡ table_of r.low ∷ ts)
shared_begins r is =
    let w = (shared_is_beginning r is).0 in
    let front = w.0 in
    let parts = parts_of bar front in
    let name = named r.low (bar_of_names r.low (bounds_of r.low r.high is).names) in
    let both : (parts.0 ∷ parts.1) ++ segments w.1 ≡ table_of r.low ∷ segments name.0 =
    ap (λ ts. ts ++ segments w.1) (sym parts.2) ∙ sym (pieces_cut bar front w.1) ∙ ap segments (sym w.3 ∙ name.1) ∙ pieces-append bar (table_of r.low) name.0 name.2 in
    (parts.1, ap segments (ap without_last w.2 ∙ without_last_push front bar) ∙ parts.2 ∙ ap (λ t. t ∷ parts.1) (ap first_text both))

-- a pattern of another table takes no segments of this one
take_first_unnamed : (p : Pattern) (table : Text) (ts : List Text) → is_pattern p ≡ true → has_table p table ≡ false → take_first p (table ∷ ts) no_slots ≡ None
take_first_unnamed [] table ts ok other = refl
take_first_unnamed (literal l ∷ ss) table ts ok other = rw other refl
take_first_unnamed (slot place width ∷ ss) table ts ok other = absurd (false≢true (and_parts _ _ (and_parts _ _ ok).0).1)

-- a range of another table reaches no output
unnamed_unreached : (p : Pattern) (r : Range) → is_pattern p ≡ true → is_range r.low r.high ≡ true → has_table p (table_of r.low) ≡ false → bind_range p r ≡ None
unfolding bind_range
unnamed_unreached p r ok is other =
    let w = shared_begins r is in
    ap (λ ts. take_first p ts no_slots) w.1 ∙ take_first_unnamed p (table_of r.low) w.0 ok other

-- a range that is bare reaches no output
pub bare_reaches_none : BareReachesNone
bare_reaches_none [] range ok is bare = tt
bare_reaches_none (s ∷ joins) range ok is bare =
    let parts = and_parts (not (has_table s.join.output (table_of range.low))) (list_all (λ t. not (has_table t.join.output (table_of range.low))) joins) bare in
    (unnamed_unreached s.join.output range (output_of_join s.join ok.0) is (not-true (has_table s.join.output (table_of range.low)) parts.0), bare_reaches_none joins range ok.1 is parts.1)

-- ---- the joins of a rank

-- the joins of a rank are those that stand with it
pub of_rank_stand : OfRankStand
of_rank_stand joins r s = (
  λ has. let m = of_rank-members r joins s has in record { place = m.place; stands = m.stands; ranked = m.ranked },
  λ w. subst (λ n. Contains (of_rank n joins) s) w.ranked (of_rank_has joins w.place s w.stands),
)

-- so they have it
pub stands_has_rank : StandsHasRank
stands_has_rank joins r s w = record { place = w.place; standing = s; stands = w.stands; is = refl; ranked = w.ranked }

-- so are those of them that a range reaches
pub reached_stand : ReachedStand
reached_stand joins range r s = (
  λ has. let kept = has_filter (reaches range) (of_rank r joins) s (has_from_contains (reached range r joins) s has) in
      ((of_rank_stand joins r s).0 (contains_from_has (of_rank r joins) s kept.1), kept.0),
  λ w. contains_from_has (reached range r joins) s (has_filtered (reaches range) (of_rank r joins) s w.1 (has_from_contains (of_rank r joins) s ((of_rank_stand joins r s).1 w.0))),
)

-- no element at all
no_element : {A : Type 0} (xs : List A) → ((x : A) → Contains xs x → ⊥) → xs ≡ []
no_element [] h = refl
no_element (x ∷ xs) h = absurd (h x (0, omega arith, refl))

-- nothing is contained in nothing
nothing_contained : {A : Type 0} (xs : List A) (x : A) → xs ≡ [] → Contains xs x → ⊥
nothing_contained xs x e c = has_from_contains [] x (subst (λ ys. Contains ys x) e c)

-- no output is reached exactly where none is of a join with such a rank
pub reaches_none_below_each : ReachesNoneBelowEach
reaches_none_below_each joins range rank = (
  λ none place s stands less.
      let r = slice_index (ranks_of joins) place in
      none_from_test (bind_range s.join.output range) (false_from_ne_true (reaches range s) (λ e.
      nothing_contained (reached range r joins) s (none r less) ((reached_stand joins range r s).1 (record { place = place; stands = stands; ranked = refl }, e)))),
  λ none r less. no_element (reached range r joins) (λ s has.
      let w = (reached_stand joins range r s).0 has in
      none-some-test (bind_range s.join.output range) (none w.0.place s w.0.stands (subst (λ n. n < rank) (sym w.0.ranked) less)) w.1),
)
  where
    none-some-test : {A : Type 0} (o : Option A) → o ≡ None → is_some o ≡ true → ⊥
    none-some-test o e h = false≢true (sym (ap is_some e) ∙ h)

-- a filter of what was picked picks by both tests
picked_filter : (test : DeclaredJoin → Bool) (r : ℕ) (ranks : List ℕ) (joins : List DeclaredJoin) →
    filter test (map (λ p. p.1) (filter (λ p. p.0 == r) (zip ranks joins))) ≡ map (λ p. p.1) (filter (λ p. p.0 == r && test p.1) (zip ranks joins))
picked_filter test r [] joins = refl
picked_filter test r (n ∷ ranks) [] = refl
picked_filter test r (n ∷ ranks) (s ∷ joins) = by (n == r) (test s) (picked_filter test r ranks joins) refl refl
  where
    by : (a b : Bool) →
        filter test (map (λ p. p.1) (filter (λ p. p.0 == r) (zip ranks joins))) ≡ map (λ p. p.1) (filter (λ p. p.0 == r && test p.1) (zip ranks joins)) →
        (n == r) ≡ a → test s ≡ b →
        filter test (map (λ (p : ℕ × DeclaredJoin). p.1) (cond (n == r) ((n, s) ∷ filter (λ p. p.0 == r) (zip ranks joins)) (filter (λ p. p.0 == r) (zip ranks joins))))
        ≡ map (λ (p : ℕ × DeclaredJoin). p.1) (cond (n == r && test s) ((n, s) ∷ filter (λ p. p.0 == r && test p.1) (zip ranks joins)) (filter (λ p. p.0 == r && test p.1) (zip ranks joins)))
    by true true ih e f = rw (e, f) (ap (λ ys. s ∷ ys) ih)
    by true false ih e f = rw (e, f) ih
    by false b ih e f = rw e ih

-- they are picked from the joins beside their ranks
pub reached_are_picked : ReachedArePicked
reached_are_picked joins range r = picked_filter (reaches range) r (ranks_of joins) joins
