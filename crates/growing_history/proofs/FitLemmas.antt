-- Matches as a relation: pairs of the table whose keys fit under common slots.
use Rattle.std.proofs.Common.{◌≡◌, true, List, [], ◌∷◌, ◌++◌, length, Contains, Option, Some, None, MatchOption, refl, sym, ◌∙◌, subst, inl, inr, append_assoc, append-nil}
use Rattle.std.specs.List.{list_all, AllByRecursion}
use Rattle.semantics.specs.Texts.{Text, Table}
use Rattle.semantics.specs.Patterns.{Slots, is_segment, is_pattern, Fits, IsPartOf, bind}
use Rattle.semantics.specs.Joins.{Source, Join, is_join, evaluation_order}
use Rattle.semantics.specs.Outputs.{Match, no_match, extended, after_fit, matches_from, matches}
use Rattle.semantics.specs.PatternLaws.{IsLeastFit, HasNoFit}
use Rattle.semantics.proofs.PatternLemmas.{length-no_slots, no_slots_part, part_itself, part_trans, fits_more, bind_least, bind_some, segments_of_pattern}
use Rattle.semantics.proofs.BindLemmas.{length-bind}
use Rattle.semantics.proofs.MemberLemmas.{Has, has_from_contains, contains_from_has, has_flat_mapped, passes_from_all}
use Rattle.semantics.proofs.ChoiceLemmas.{source_from_order}
use Rattle.semantics.proofs.MatchLemmas.{match_step, match_from}
use Rattle.semantics.proofs.OutputLemmas.{sources_of_join}
use Rattle.growing_history.specs.OutputLaws.{FitEach, IsCommonFit, IsMatched, MatchIsCommonFit, AreLeastFor, MatchHasLeastSlots}

-- each source has segments that may stand in a pattern
abbrev AreSources : List Source → Type 0
AreSources ss = (s : Source) → Has ss s → list_all is_segment s.pattern ≡ true

-- the sources of a join have
are_sources : (j : Join) → is_join j ≡ true → AreSources (evaluation_order j)
are_sources j ok s h = segments_of_pattern s.pattern (passes_from_all (λ r. is_pattern r.pattern) j.sources s (sources_of_join j ok) (source_from_order j s h))

-- ---- from a match

-- the pairs that a match has for the sources that are left, under the least slots that have the earlier ones
record IsOnward (ss : List Source) (table : Table) (before after : Match) : Type 0 where
  pub pairs : Table
  pub has : after.pairs ≡ before.pairs ++ pairs
  pub stored : AllByRecursion (Has table) pairs
  pub fit : FitEach ss pairs after.slots
  pub keeps : IsPartOf before.slots after.slots
  pub least : (other : Slots) → FitEach ss pairs other → IsPartOf before.slots other → IsPartOf after.slots other

-- nothing is left
onward_end : (table : Table) (before after : Match) → before ≡ after → IsOnward [] table before after
onward_end table before after e = subst (IsOnward [] table before) e record {
  pairs = [];
  has = sym (append-nil before.pairs);
  stored = tt;
  fit = tt;
  keeps = part_itself before.slots;
  least = λ other h p. p;
}

-- one source and those behind it
onward_step : (s : Source) (ss : List Source) (table : Table) (before after : Match) (pair : Text × Text) (slots : Slots) → Has table pair → IsLeastFit s.pattern pair.0 before.slots slots
    → IsOnward ss table (extended before pair slots) after → IsOnward (s ∷ ss) table before after
onward_step s ss table before after pair slots stored one rest = record {
  pairs = pair ∷ rest.pairs;
  has = rest.has ∙ append_assoc before.pairs (pair ∷ []) rest.pairs;
  stored = (stored, rest.stored);
  fit = (fits_more s.pattern pair.0 slots after.slots rest.keeps one.fits, rest.fit);
  keeps = part_trans before.slots slots after.slots one.keeps rest.keeps;
  least = λ other h p. rest.least other h.1 (one.least other h.0 p);
}

-- a match that goes on from another
onward : (ss : List Source) (table : Table) (before after : Match) → AreSources ss → length before.slots ≡ 16 → Has (matches_from ss table before) after → IsOnward ss table before after
onward [] table before after ok long (inl e) = onward_end table before after e
onward [] table before after ok long (inr h) = absurd h
onward (s ∷ ss) table before after ok long h =
    let w = match_step s ss table before after h in
    let one = bind_some s.pattern w.pair.0 before.slots w.slots (ok s (inl refl)) long w.binds in
    onward_step s ss table before after w.pair w.slots w.stored (record { fits = one.takes; keeps = one.keeps; least = one.least })
    (onward ss table (extended before w.pair w.slots) after (λ r g. ok r (inr g)) (one.long ∙ long) w.rest)

-- ---- to a match

-- a match that goes on from another has the pairs
abbrev IsReached : List Source → Table → Match → Table → Type 0
IsReached ss table before pairs = (after : Match) × Has (matches_from ss table before) after × (after.pairs ≡ before.pairs ++ pairs)

-- the first source binds under least slots, or under none
reached_by : (s : Source) (ss : List Source) (table : Table) (before : Match) (pair : Text × Text) (pairs : Table) (given : Slots) (o : Option Slots) → Has table pair
    → bind s.pattern pair.0 before.slots ≡ o → MatchOption o (HasNoFit s.pattern pair.0 before.slots) (IsLeastFit s.pattern pair.0 before.slots)
    → Fits s.pattern pair.0 given → IsPartOf before.slots given
    → ((slots : Slots) → bind s.pattern pair.0 before.slots ≡ Some slots → IsPartOf slots given → IsReached ss table (extended before pair slots) pairs)
    → IsReached (s ∷ ss) table before (pair ∷ pairs)
reached_by s ss table before pair pairs given None stored e none fit part more = absurd (none given fit part)
reached_by s ss table before pair pairs given (Some slots) stored e one fit part more =
    let r = more slots e (one.least given fit part) in
    let goes : Text × Text → List Match = λ p. after_fit (λ found. matches_from ss table (extended before p found)) (bind s.pattern p.0 before.slots) in
    let here : Has (goes pair) r.0 = subst (λ o. Has (after_fit (λ found. matches_from ss table (extended before pair found)) o) r.0) (sym e) r.1 in
    (r.0, has_flat_mapped goes table pair r.0 stored here, r.2 ∙ append_assoc before.pairs (pair ∷ []) pairs)

-- pairs whose keys fit under common slots are reached
reached : (ss : List Source) (table : Table) (before : Match) (pairs : Table) (given : Slots) → AreSources ss → length before.slots ≡ 16 → AllByRecursion (Has table) pairs
    → FitEach ss pairs given → IsPartOf before.slots given → IsReached ss table before pairs
reached [] table before [] given ok long stored fit part = (before, inl refl, sym (append-nil before.pairs))
reached [] table before (pair ∷ pairs) given ok long stored fit part = absurd fit
reached (s ∷ ss) table before [] given ok long stored fit part = absurd fit
reached (s ∷ ss) table before (pair ∷ pairs) given ok long stored fit part =
    reached_by s ss table before pair pairs given (bind s.pattern pair.0 before.slots) stored.0 refl (bind_least s.pattern pair.0 before.slots (ok s (inl refl)) long) fit.0 part
    (λ slots e p. reached ss table (extended before pair slots) pairs given (λ r g. ok r (inr g)) (length-bind s.pattern pair.0 before.slots slots e ∙ long) stored.1 fit.1 p)

-- ---- the laws

-- elements by place and by recursion
each_by_place : {X : Type 0} (xs ys : List X) → AllByRecursion (Has xs) ys → AllByRecursion (Contains xs) ys
each_by_place xs [] h = tt
each_by_place xs (y ∷ ys) h = (contains_from_has xs y h.0, each_by_place xs ys h.1)

-- the same the other way
each_by_recursion : {X : Type 0} (xs ys : List X) → AllByRecursion (Contains xs) ys → AllByRecursion (Has xs) ys
each_by_recursion xs [] h = tt
each_by_recursion xs (y ∷ ys) h = (has_from_contains xs y h.0, each_by_recursion xs ys h.1)

-- a match goes on from no match
onward_from : (j : Join) (table : Table) (m : Match) → is_join j ≡ true → Contains (matches j table) m → IsOnward (evaluation_order j) table no_match m
onward_from j table m ok h = onward (evaluation_order j) table no_match m (are_sources j ok) length-no_slots (match_from j table m h)

-- what is reached from no match is a match
match_to : (j : Join) (table : Table) (m : Match) → Has (matches_from (evaluation_order j) table no_match) m → Contains (matches j table) m
unfolding matches
match_to j table m h = contains_from_has (matches_from (evaluation_order j) table no_match) m h

-- the pairs of a match fit under common slots
common_from_match : (j : Join) (table pairs : Table) → is_join j ≡ true → IsMatched j table pairs → IsCommonFit j table pairs
common_from_match j table pairs ok m =
    let w = onward_from j table m.found ok m.matched in
    subst (IsCommonFit j table) (sym w.has ∙ m.has) record { stored = each_by_place table w.pairs w.stored; given = m.found.slots; fit = w.fit }

-- pairs that fit under common slots are a match
match_from_common : (j : Join) (table pairs : Table) → is_join j ≡ true → IsCommonFit j table pairs → IsMatched j table pairs
match_from_common j table pairs ok f =
    let r = reached (evaluation_order j) table no_match pairs f.given (are_sources j ok) length-no_slots (each_by_recursion table pairs f.stored) f.fit (no_slots_part f.given) in
    record { found = r.0; matched = match_to j table r.0 r.1; has = r.2 }

-- pairs are a match exactly where they stand in the table and their keys fit under common slots
pub match_is_common_fit_lem : MatchIsCommonFit
match_is_common_fit_lem j table pairs ok = (common_from_match j table pairs ok, match_from_common j table pairs ok)

-- the slots of a match are the least under which its keys fit
pub match_has_least_slots_lem : MatchHasLeastSlots
match_has_least_slots_lem j table m ok h =
    let w = onward_from j table m ok h in
    subst (λ pairs. AreLeastFor j pairs m.slots) (sym w.has) record { fit = w.fit; least = λ other fit. w.least other fit (no_slots_part other) }
