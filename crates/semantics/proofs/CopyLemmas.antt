-- Copy joins: the output key fixes the copy source's pair, and the order of the matches does not matter.
use Rattle.std.proofs.Common.{◌≡◌, ℕ, true, not, ◌==◌, List, [], ◌∷◌, ◌++◌, length, filter, Contains, IsPermutation, Some, refl, sym, ap, ◌∙◌, subst, inl, inr, ⊎_elim, eqb-true, eq-eqb, arith}
use Rattle.std.specs.List.{list_all, join_with_byte}
use Rattle.std.proofs.lemmas.Bool.{false≢true, and_parts, or_cases, or_left, or_right}
use Rattle.std.proofs.lemmas.Option.{same_Some}
use Rattle.std.proofs.lemmas.List.Sorted.{Contains-permutation, IsPermutation-sym}
use Rattle.semantics.specs.Texts.{Text, bar, same, Table, value_at}
use Rattle.semantics.specs.Patterns.{literal, slot, Pattern, Slots, text_at, is_segment, is_pattern, segments, TakeAll, Fits}
use Rattle.semantics.specs.Joins.{copy, Source, Join, is_check, checks_of, value_sources_of, slots_of, occurs, occur_in, copies_into}
use Rattle.semantics.specs.Outputs.{Match, no_match, extended, matches_from, matches, value_of_last, contributions, result_of, listed, gathered, out}
use Rattle.semantics.specs.OutputLaws.{IsCopyJoin, last_key, OutputFixesSource, OutIgnoresOrder}
use Rattle.semantics.proofs.PieceLemmas.{same_itself, join-pieces}
use Rattle.semantics.proofs.PatternLemmas.{length-no_slots, bind_some, segments_of_pattern, fill_fits}
use Rattle.semantics.proofs.BindLemmas.{length-bind}
use Rattle.semantics.proofs.MemberLemmas.{Has, has_from_contains, contains_from_has, has_filter, has_filtered, has_mapped, has_from_any, passes_from_all}
use Rattle.semantics.proofs.TableLemmas.{IsAscending, same_tables, value_from_has}
use Rattle.semantics.proofs.GatherLemmas.{value_at-gathered, ascending-gathered, value_at-out, ascending-out}
use Rattle.semantics.proofs.MatchLemmas.{match_step, match_from, match_texts}
use Rattle.semantics.proofs.OutputLemmas.{contribution_match, given_from_listed, output_of_join, sources_of_join}

-- ---- slots that agree

-- slots under which one key fits agree at the pattern's places
pub take_agree : (p : Pattern) (ts : List Text) (given other : Slots) → TakeAll p ts given → TakeAll p ts other → (place : ℕ) → occurs place (slots_of p) ≡ true → text_at place given ≡ text_at place other
take_agree [] ts given other h g place o = absurd (false≢true o)
take_agree (s ∷ ss) [] given other h g place o = absurd h
take_agree (literal l ∷ ss) (t ∷ ts) given other h g place o = take_agree ss ts given other h.1 g.1 place o
take_agree (slot at width ∷ ss) (t ∷ ts) given other h g place o = ⊎_elim
    (λ (e : (at == place) ≡ true). let here = eqb-true at place e in ap (λ k. text_at k given) (sym here) ∙ h.0.1 ∙ sym g.0.1 ∙ ap (λ k. text_at k other) here)
    (λ (rest : occurs place (slots_of ss) ≡ true). take_agree ss ts given other h.1 g.1 place rest)
    (or_cases (at == place) (occurs place (slots_of ss)) o)

-- slots that agree at a pattern's places give its segments the same texts
pub take_same : (p : Pattern) (ts us : List Text) (given other : Slots) → TakeAll p ts given → TakeAll p us other → ((place : ℕ) → occurs place (slots_of p) ≡ true → text_at place given ≡ text_at place other) → ts ≡ us
take_same [] [] [] given other h g agree = refl
take_same [] [] (u ∷ us) given other h g agree = absurd g
take_same [] (t ∷ ts) us given other h g agree = absurd h
take_same (s ∷ ss) [] us given other h g agree = absurd h
take_same (s ∷ ss) (t ∷ ts) [] given other h g agree = absurd g
take_same (literal l ∷ ss) (t ∷ ts) (u ∷ us) given other h g agree =
    let first : t ≡ u = sym h.0 ∙ g.0 in
    let rest = take_same ss ts us given other h.1 g.1 agree in
    λ i. first i ∷ rest i
take_same (slot at width ∷ ss) (t ∷ ts) (u ∷ us) given other h g agree =
    let first : t ≡ u = same_Some t u (sym h.0.1 ∙ agree at (or_left _ _ (eq-eqb at at refl)) ∙ g.0.1) in
    let rest = take_same ss ts us given other h.1 g.1 (λ place o. agree place (or_right (at == place) _ o)) in
    λ i. first i ∷ rest i

-- ---- the value source's pair

-- the key of a pair that was added at the end
last_key-push : (pairs : Table) (pair : Text × Text) → last_key (pairs ++ pair ∷ []) ≡ pair.0
last_key-push [] pair = refl
last_key-push (p ∷ []) pair = refl
last_key-push (p ∷ q ∷ pairs) pair = last_key-push (q ∷ pairs) pair

-- the value of a pair that was added at the end
value_of_last-push : (pairs : Table) (pair : Text × Text) → value_of_last (pairs ++ pair ∷ []) ≡ pair.1
value_of_last-push [] pair = refl
value_of_last-push (p ∷ []) pair = refl
value_of_last-push (p ∷ q ∷ pairs) pair = value_of_last-push (q ∷ pairs) pair

-- a match's last pair stands in the table, and its key fits a source's pattern under the match's slots
pub record HasLast (s : Source) (table : Table) (m : Match) : Type 0 where
  pub fits : Fits s.pattern (last_key m.pairs) m.slots
  pub stored : Has table (last_key m.pairs, value_of_last m.pairs)

-- the last source gives the last pair
last_here : (s : Source) (table : Table) (before m : Match) (pair : Text × Text) (slots : Slots) → Has table pair → Fits s.pattern pair.0 slots → Has (extended before pair slots ∷ []) m → HasLast s table m
last_here s table before m pair slots stored fit (inr h) = absurd h
last_here s table before m pair slots stored fit (inl e) =
    let key = sym (last_key-push before.pairs pair) in
    let value = sym (value_of_last-push before.pairs pair) in
    subst (HasLast s table) e record {
      fits = subst (λ k. Fits s.pattern k slots) key fit;
      stored = subst (Has table) (λ i. (key i, value i)) stored;
    }

-- a match has its last pair for the last source
match_last : (ss : List Source) (s : Source) (table : Table) (before m : Match) → list_all is_segment s.pattern ≡ true → length before.slots ≡ 16 → Has (matches_from (ss ++ s ∷ []) table before) m → HasLast s table m
match_last [] s table before m ok long h =
    let w = match_step s [] table before m h in
    last_here s table before m w.pair w.slots w.stored (bind_some s.pattern w.pair.0 before.slots w.slots ok long w.binds).takes w.rest
match_last (r ∷ rs) s table before m ok long h =
    let w = match_step r (rs ++ s ∷ []) table before m h in
    match_last rs s table (extended before w.pair w.slots) m ok (length-bind r.pattern w.pair.0 before.slots w.slots w.binds ∙ long) w.rest

-- the copy source of a join: its only value source, all of whose places occur in the output
pub record IsCopySource (j : Join) (s : Source) : Type 0 where
  pub alone : value_sources_of j.sources ≡ s ∷ []
  pub listed : Has j.sources s
  pub pattern : is_pattern s.pattern ≡ true
  pub places : (place : ℕ) → occurs place (slots_of s.pattern) ≡ true → occurs place (slots_of j.output) ≡ true

-- a list of one source
one_of : (ss : List Source) → (length ss == 1) ≡ true → (s : Source) × (ss ≡ s ∷ [])
one_of [] h = absurd (false≢true h)
one_of (s ∷ []) h = (s, refl)
one_of (s ∷ r ∷ rs) h = absurd (omega (arith, eqb-true (length (s ∷ r ∷ rs)) 1 h))

-- a copy source's places occur in the output
copies_all : (output : List (ℕ × ℕ)) (s : Source) → s.operator ≡ copy → copies_into output s ≡ true → occur_in (slots_of s.pattern) output ≡ true
copies_all output s e h = rw e at h

-- a place that occurs among slots occurs among those in which they all occur
places_in : (slots others : List (ℕ × ℕ)) (place : ℕ) → occur_in slots others ≡ true → occurs place slots ≡ true → occurs place others ≡ true
places_in slots others place h o =
    let w = has_from_any (λ s. s.0 == place) slots o in
    let found = passes_from_all (λ s. occurs s.0 others) slots w.0 h w.1 in
    ap (λ k. occurs k others) (sym (eqb-true w.0.0 place w.2)) ∙ found

-- a copy join has a copy source
pub copy_source : (j : Join) → IsCopyJoin j → (s : Source) × IsCopySource j s
copy_source j ok =
    let w = one_of (value_sources_of j.sources) (and_parts _ _ (and_parts _ _ ok.sources).0).0 in
    let listed : Has j.sources w.0 = (has_filter (λ s. not (is_check s.operator)) j.sources w.0 (subst (λ l. Has l w.0) (sym w.1) (inl refl))).1 in
    let is_copy : w.0.operator ≡ copy = rw w.1 at ok.copies in
    let into = passes_from_all (copies_into (slots_of j.output)) j.sources w.0 (and_parts _ _ ok.slots).1 listed in (
      w.0,
      record {
        alone = w.1;
        listed = listed;
        pattern = passes_from_all (λ s. is_pattern s.pattern) j.sources w.0 (sources_of_join j ok.is_join) listed;
        places = λ place o. places_in (slots_of w.0.pattern) (slots_of j.output) place (copies_all (slots_of j.output) w.0 is_copy into) o;
      },
    )

-- a match of a copy join has its last pair for the copy source
pub copy_last : (j : Join) (table : Table) (s : Source) (m : Match) → IsCopySource j s → Contains (matches j table) m → HasLast s table m
copy_last j table s m source h =
    let from : Has (matches_from (checks_of j.sources ++ s ∷ []) table no_match) m = subst (λ l. Has (matches_from (checks_of j.sources ++ l) table no_match) m) source.alone (match_from j table m h) in
    match_last (checks_of j.sources) s table no_match m (segments_of_pattern s.pattern source.pattern) length-no_slots from

-- in a copy join the output key fixes the key of the copy source
pub output_fixes_source : OutputFixesSource
output_fixes_source j table m other key ok here there e f =
    let w = copy_source j ok in
    let output = output_of_join j ok.is_join in
    let a = copy_last j table w.0 m w.1 here in
    let b = copy_last j table w.0 other w.1 there in
    let left = (fill_fits j.output m.slots key output (match_texts j table m here) e).0 in
    let right = (fill_fits j.output other.slots key output (match_texts j table other there) f).0 in
    let texts : segments (last_key m.pairs) ≡ segments (last_key other.pairs) = take_same w.0.pattern (segments (last_key m.pairs)) (segments (last_key other.pairs)) m.slots other.slots a.fits b.fits
    (λ place o. take_agree j.output (segments key) m.slots other.slots left right place (w.1.places place o)) in
    sym (join-pieces bar (last_key m.pairs)) ∙ ap (join_with_byte bar) texts ∙ join-pieces bar (last_key other.pairs)

-- ---- the order of the matches

-- the last value is one of the list
last_has : (v : Text) (vs : List Text) → (w : Text) × Has (v ∷ vs) w × (result_of copy (v ∷ vs) ≡ Some w)
last_has v [] = (v, inl refl, refl)
last_has v (u ∷ us) = let r = last_has u us in (r.0, inr r.1, r.2)

-- lists of one value with the same elements have the same last value
last_agree : (xs ys : List Text) → ((v : Text) → Has xs v → Has ys v) → ((v : Text) → Has ys v → Has xs v) → ((v w : Text) → Has xs v → Has xs w → v ≡ w) → result_of copy xs ≡ result_of copy ys
last_agree [] [] to back one = refl
last_agree [] (y ∷ ys) to back one = absurd (back y (inl refl))
last_agree (x ∷ xs) [] to back one = absurd (to x (inl refl))
last_agree (x ∷ xs) (y ∷ ys) to back one =
    let a = last_has x xs in
    let b = last_has y ys in
    a.2 ∙ ap Some (one a.0 b.0 a.1 (back b.0 b.1)) ∙ sym b.2

-- a value that was given with a key is listed at it
listed_from_given : (key value : Text) (given : List (Text × Text)) → Has given (key, value) → Has (listed key given) value
listed_from_given key value given h = has_mapped (λ c. c.1) (filter (λ c. same c.0 key) given) (key, value) (has_filtered (λ c. same c.0 key) given (key, value) (same_itself key) h)

-- in another order the same values are listed
listed_as : (key value : Text) (given other : List (Text × Text)) → IsPermutation given other → Has (listed key given) value → Has (listed key other) value
listed_as key value given other p h =
    listed_from_given key value other (has_from_contains other (key, value) (Contains-permutation given other (key, value) p (contains_from_has given (key, value) (given_from_listed key value given h))))

-- a copy join gives one value to each output key
pub copies_one : (j : Join) (table : Table) (key value other : Text) → IsCopyJoin j → IsAscending table → Has (contributions j table) (key, value) → Has (contributions j table) (key, other) → value ≡ other
copies_one j table key value other ok sorted h g =
    let w = copy_source j ok in
    let a = contribution_match j table key value h in
    let b = contribution_match j table key other g in
    let keys = output_fixes_source j table a.0 b.0 key ok a.1 b.1 a.2 b.2 in
    let at_a = value_from_has (last_key a.0.pairs) (value_of_last a.0.pairs) table sorted (copy_last j table w.0 a.0 w.1 a.1).stored in
    let at_b = value_from_has (last_key b.0.pairs) (value_of_last b.0.pairs) table sorted (copy_last j table w.0 b.0 w.1 b.1).stored in
    sym a.3 ∙ same_Some _ _ (sym at_a ∙ ap (λ k. value_at k table) keys ∙ at_b) ∙ b.3

-- what a copy join makes does not depend on the order of the matches
pub out_ignores_order : OutIgnoresOrder
out_ignores_order j table given ok sorted p =
    let back = IsPermutation-sym (contributions j table) given p in
    same_tables (gathered copy given) (out j table) (ascending-gathered copy given) (ascending-out j table) (λ q.
    value_at-gathered copy given q
    ∙ sym (last_agree (listed q (contributions j table)) (listed q given)
    (λ v h. listed_as q v (contributions j table) given p h)
    (λ v h. listed_as q v given (contributions j table) back h)
    (λ v w h g. copies_one j table q v w ok sorted (given_from_listed q v (contributions j table) h) (given_from_listed q w (contributions j table) g)))
    ∙ ap (λ operator. result_of operator (listed q (contributions j table))) (sym ok.copies)
    ∙ sym (value_at-out j table q))
