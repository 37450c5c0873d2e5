-- Which edges a reading has, that a least cycle repeats no vertex, and what the cause `cycle` carries.
use Rattle.std.proofs.Common.{◌≡◌, ℕ, zero, suc, ◌+◌, ◌-◌, ◌<◌, ◌⊎◌, inl, inr, List, [], ◌∷◌, length, map, filter, cond, Bool, true, false, eqb, ne_eqb, eq-eqb, Contains, slice_get, Option, Some, None, MatchOption, option_map, unwrap_or, not, nat_lt, nat_le, ◌^◌, if◌then◌else◌, refl, sym, ap, ap₂, subst, ◌∙◌, arith}
use Rattle.std.specs.List.{IsDistinct, AllByRecursion, enumerate_from, list_any}
use Rattle.std.proofs.lemmas.Bool.{true≢false}
use Rattle.std.proofs.lemmas.Option.{none-some, same_Some}
use Rattle.semantics.specs.Patterns.{overlaps}
use Rattle.semantics.specs.Joins.{Join, keeps_slot_rule, keeps_source_rule}
use Rattle.semantics.specs.Histories.{Write, put, remove, declare, drop_join, History, DeclaredJoin, without, joins_after, joins_from, joins_of}
use Rattle.semantics.specs.Graphs.{Edges, reads, BeginsWith, IsWalkTo, HasNoCycle, IsLeastCycle, IsNotAfter}
use Rattle.semantics.specs.States.{reading, ranks_of}
use Rattle.semantics.specs.Verdicts.{Cause, computed, full, nojoin, slots, sources, clash, cycle, deep, many, first_cause, clash_cause, cycle_cause, position_at, joined, join_cause, write_cause, verdict}
use Rattle.semantics.proofs.Members.{IsIn, IsIn-cases, IsIn-from_list_any, list_any-from_IsIn, IsIn-from_Contains, Contains-from_IsIn, IsIn-from_enumerate, IsDistinct-cons, IsDistinct-single, AllByRecursion-append}
use Rattle.semantics.proofs.GraphCycles.{IsWalkTo-below, IsShort-from_member}
use Rattle.semantics.proofs.GraphLeast.{cycle_is_least_lem}
use Rattle.semantics.proofs.OfRankLemmas.{all_at}
use Rattle.semantics.proofs.JoinSets.{test-from_Some}
use Rattle.semantics.proofs.JoinReadings.{IsReading, IsReading-from_edge, edge-from_IsReading, AreVertices-reading}
use Rattle.semantics.proofs.AdmissibleSets.{length-joined}
use Rattle.semantics.proofs.PartSets.{all_filter}
use Rattle.growing_history.specs.ReadingLaws.{ReadsAt, ReadingIsOverlaps, LeastCycleIsDistinct, ArePositionsOf, ShowsLeastCycle, CarriesLeastCycle, CycleCauseIsLeastCycle, RefusedCycleIsDistinct}

-- ---- edges

-- a numbered element stands at its number
slice_get-from_enumerate : {X : Type 0} (a : ℕ) (p : ℕ × X) (xs : List X) → IsIn p (enumerate_from a xs) → slice_get xs (p.0 - a) ≡ Some p.1
slice_get-from_enumerate a p [] m = absurd m
slice_get-from_enumerate {X} a p (x ∷ xs) (inl e) =
    let f : p.0 ≡ a = ap (λ (q : ℕ × X). q.0) e in
    let first : p.0 - a ≡ 0 = omega arith in
    ap (slice_get (x ∷ xs)) first ∙ ap Some (sym (ap (λ (q : ℕ × X). q.1) e))
slice_get-from_enumerate a p (x ∷ xs) (inr m) =
    let within = IsIn-from_enumerate (a + 1) p xs m in
    let next : p.0 - a ≡ suc (p.0 - (a + 1)) = omega (arith, within.0) in
    ap (slice_get (x ∷ xs)) next ∙ slice_get-from_enumerate (a + 1) p xs m

-- an element is numbered by the place where it stands
enumerate-from_slice_get : {X : Type 0} (a i : ℕ) (x : X) (xs : List X) → slice_get xs i ≡ Some x → IsIn (a + i, x) (enumerate_from a xs)
enumerate-from_slice_get a i x [] at = absurd (none-some x at)
enumerate-from_slice_get {X} a zero x (y ∷ xs) at =
    let first : a + 0 ≡ a = omega arith in inl (ap₂ (λ (n : ℕ) (z : X). (n, z)) first (sym (same_Some y x at)))
enumerate-from_slice_get {X} a (suc i) x (y ∷ xs) at =
    let next : a + 1 + i ≡ a + suc i = omega arith in
    inr (subst (λ (n : ℕ). IsIn (n, x) (enumerate_from (a + 1) xs)) next (enumerate-from_slice_get (a + 1) i x xs at))

-- the reading has an edge exactly where a source overlaps an output
pub reading_is_overlaps_lem : ReadingIsOverlaps
reading_is_overlaps_lem joins a b = (to_joins joins a b, to_edge joins a b)
  where
    at_number : (joins : List DeclaredJoin) (n : ℕ) (s : DeclaredJoin) → IsIn (n, s) (enumerate_from 0 joins) → slice_get joins n ≡ Some s
    at_number joins n s m = let same : n ≡ n - 0 = omega arith in ap (slice_get joins) same ∙ slice_get-from_enumerate 0 (n, s) joins m

    numbered : (joins : List DeclaredJoin) (n : ℕ) (s : DeclaredJoin) → slice_get joins n ≡ Some s → IsIn (n, s) (enumerate_from 0 joins)
    numbered joins n s at = let same : 0 + n ≡ n = omega arith in subst (λ (m : ℕ). IsIn (m, s) (enumerate_from 0 joins)) same (enumerate-from_slice_get 0 n s joins at)

    to_joins : (joins : List DeclaredJoin) (a b : ℕ) → Contains (reading joins) (a, b) → ReadsAt joins a b
    to_joins joins a b h =
        let r = IsReading-from_edge joins (a, b) (IsIn-from_Contains (a, b) (reading joins) h) in
        let found = IsIn-from_list_any (λ s. overlaps s.pattern r.read.join.output) r.reader.join.sources r.reads_it in
        record {
          reader = r.reader;
          read = r.read;
          reader_at = at_number joins a r.reader r.reader_in;
          read_at = at_number joins b r.read r.read_in;
          source = found.0;
          listed = Contains-from_IsIn found.0 r.reader.join.sources found.1;
          meets = found.2;
        }

    to_edge : (joins : List DeclaredJoin) (a b : ℕ) → ReadsAt joins a b → Contains (reading joins) (a, b)
    to_edge joins a b r =
        let edge : IsReading joins (a, b) = record {
          reader = r.reader;
          read = r.read;
          reader_in = numbered joins a r.reader r.reader_at;
          read_in = numbered joins b r.read r.read_at;
          reads_it = list_any-from_IsIn (λ s. overlaps s.pattern r.read.join.output) r.source r.reader.join.sources r.meets (IsIn-from_Contains r.source r.reader.join.sources r.listed);
        } in
        Contains-from_IsIn (a, b) (reading joins) (edge-from_IsReading joins (a, b) edge)

-- ---- a least cycle

-- a vertex before a walk from a vertex that it reads
walk_cons : (edges : Edges) (goal a b : ℕ) (walk : List ℕ) → reads edges a b ≡ true → BeginsWith b walk → IsWalkTo edges goal walk → IsWalkTo edges goal (a ∷ walk)
walk_cons edges goal a b [] r begins leads = absurd begins
walk_cons edges goal a b (c ∷ walk) r begins leads = (subst (λ v. reads edges a v ≡ true) begins r, leads)

-- a walk from a vertex to a goal that is shorter than a length
record IsShorter (edges : Edges) (goal a k : ℕ) : Type 0 where
  walk : List ℕ
  begins : BeginsWith a walk
  leads : IsWalkTo edges goal walk
  count : length walk < k

-- a walk repeats no vertex, or there is a shorter one
distinct_or_shorter : (edges : Edges) (goal a : ℕ) (rest : List ℕ) → IsWalkTo edges goal (a ∷ rest) → IsDistinct eqb (a ∷ rest) ⊎ IsShorter edges goal a (length (a ∷ rest))
distinct_or_shorter edges goal a [] leads = inl (IsDistinct-single a)
distinct_or_shorter edges goal a (b ∷ rest) leads =
    elim (distinct_or_shorter edges goal b rest leads.1) [
      | inl distinct ↦ elim (IsIn-cases a (b ∷ rest)) [
        | inl m ↦ (let found = IsShort-from_member edges goal a (b ∷ rest) leads.1 distinct m in
            inr (record { walk = found.0; begins = found.1.begins; leads = found.1.leads; count = omega (arith, found.1.count) }))
        | inr absent ↦ inl (IsDistinct-cons a (b ∷ rest) absent distinct)
      ]
      | inr s ↦ inr (record { walk = a ∷ s.walk; begins = refl; leads = walk_cons edges goal a b s.walk leads.0 s.begins s.leads; count = omega (arith, s.count) })
    ]

-- no vertex stands twice in a least cycle
pub least_cycle_is_distinct_lem : LeastCycleIsDistinct
least_cycle_is_distinct_lem edges start [] c = absurd c.is_cycle.begins
least_cycle_is_distinct_lem edges start (x ∷ rest) c =
    elim (distinct_or_shorter edges start x rest c.is_cycle.closes) [
      | inl distinct ↦ distinct
      | inr s ↦ absurd (not_after (x ∷ rest) s.walk s.count
          (c.least s.walk (record { begins = subst (λ v. BeginsWith v s.walk) (sym c.is_cycle.begins) s.begins; closes = s.leads })))
    ]
  where
    not_after : (walk other : List ℕ) → length other < length walk → IsNotAfter walk other → ⊥
    not_after walk other short (inl h) = omega arith
    not_after walk other short (inr h) = omega (arith, h.0)

-- ---- what the cause carries

-- there is an element at each place of a list
element_at : {X : Type 0} (xs : List X) (n : ℕ) → n < length xs → (x : X) × (slice_get xs n ≡ Some x)
element_at [] n h = absurd (omega arith)
element_at (x ∷ xs) zero h = (x, refl)
element_at (x ∷ xs) (suc n) h = element_at xs n (omega arith)

-- the positions that are carried are those of the joins with the numbers
positions_of_numbers : (joins : List DeclaredJoin) (numbers : List ℕ) → ((n : ℕ) → IsIn n numbers → n < length joins) → ArePositionsOf joins numbers (map (position_at joins) numbers)
positions_of_numbers joins [] below = tt
positions_of_numbers joins (n ∷ numbers) below =
    let found = element_at joins n (below n (inl refl)) in (
      (found.0, found.1, sym (ap (λ (o : Option DeclaredJoin). unwrap_or (option_map (λ s. s.position) o) 0) found.1)),
      positions_of_numbers joins numbers (λ m i. below m (inr i)),
    )

-- there is the cause exactly where a cycle goes through the join, and it carries the least one
pub cycle_cause_is_least_cycle_lem : CycleCauseIsLeastCycle
cycle_cause_is_least_cycle_lem joins last h =
    of_cycle joins last _ (cycle_is_least_lem (length joins) (reading joins) last (AreVertices-reading joins) h)
  where
    of_cycle : (joins : List DeclaredJoin) (last : ℕ) (o : Option (List ℕ)) → MatchOption o (HasNoCycle (reading joins) last) (IsLeastCycle (reading joins) last) →
        MatchOption (option_map (λ c. cycle (map (position_at joins) c)) o) (HasNoCycle (reading joins) last) (CarriesLeastCycle joins last)
    of_cycle joins last None none = none
    of_cycle joins last (Some numbers) c = record {
      positions = map (position_at joins) numbers;
      is_cycle = refl;
      shows = record {
        numbers = numbers;
        is_least = c;
        distinct = least_cycle_is_distinct_lem (reading joins) last numbers c;
        in_order = positions_of_numbers joins numbers (IsWalkTo-below (length joins) (reading joins) last numbers (AreVertices-reading joins) c.is_cycle.closes);
      };
    }

-- ---- positions

-- positions rise
abbrev AreRising : List DeclaredJoin → Type 0
AreRising [] = Unit {0}
AreRising (s ∷ joins) = AllByRecursion (λ t. s.position < t.position) joins × AreRising joins

-- each position is below a number
abbrev AreBelow : ℕ → List DeclaredJoin → Type 0
AreBelow p = AllByRecursion (λ s. s.position < p)

-- what is below a number is below the next
below_next : (p : ℕ) (joins : List DeclaredJoin) → AreBelow p joins → AreBelow (p + 1) joins
below_next p [] h = tt
below_next p (s ∷ joins) h = (omega (arith, h.0), below_next p joins h.1)

-- positions rise with a join at a greater one
rising-joined : (joins : List DeclaredJoin) (p : ℕ) (j : Join) → AreRising joins → AreBelow p joins → AreRising (joined joins p j)
rising-joined [] p j h below = (tt, tt)
rising-joined (s ∷ joins) p j h below = (
  AllByRecursion-append (λ t. s.position < t.position) joins (record { position = p; join = j } ∷ []) h.0 (below.0, tt),
  rising-joined joins p j h.1 below.1,
)

-- positions rise among those that pass a test
rising_filter : (test : DeclaredJoin → Bool) (joins : List DeclaredJoin) → AreRising joins → AreRising (filter test joins)
rising_filter test [] h = tt
rising_filter test (s ∷ joins) h = by (test s) (rising_filter test joins h.1)
  where
    by : (b : Bool) → AreRising (filter test joins) → AreRising (cond b (s ∷ filter test joins) (filter test joins))
    by true rest = (all_filter (λ t. s.position < t.position) test joins h.0, rest)
    by false rest = rest

-- after a write that enters at a position the joins' positions rise, up to it
rising-after : (p : ℕ) (w : Write) (joins : List DeclaredJoin) → AreRising joins → AreBelow p joins → AreRising (joins_after p w joins) × AreBelow (p + 1) (joins_after p w joins)
rising-after p (put k v) joins h below = (h, below_next p joins below)
rising-after p (remove k) joins h below = (h, below_next p joins below)
rising-after p (declare j) joins h below = (
  rising-joined joins p j h below,
  AllByRecursion-append (λ s. s.position < p + 1) joins (record { position = p; join = j } ∷ []) (below_next p joins below) (omega arith, tt),
)
rising-after p (drop_join at) joins h below = (rising_filter _ joins h, all_filter (λ s. s.position < p + 1) _ joins (below_next p joins below))

-- the positions of the joins that stand rise, up to the length of the history
rising-from : (p : ℕ) (joins : List DeclaredJoin) (h : History) → AreRising joins → AreBelow p joins → AreRising (joins_from p joins h) × AreBelow (p + length h) (joins_from p joins h)
rising-from p joins [] rising below = (rising, let same : p ≡ p + 0 = omega arith in subst (λ n. AreBelow n joins) same below)
rising-from p joins (e ∷ h) rising below =
    let next = rising-after p e.write joins rising below in
    let rest = rising-from (p + 1) (joins_after p e.write joins) h next.0 next.1 in
    let same : p + 1 + length h ≡ p + suc (length h) = omega arith in
    (rest.0, subst (λ n. AreBelow n (joins_from (p + 1) (joins_after p e.write joins) h)) same rest.1)

-- where positions rise, joins at one position stand at one place
one_place : (joins : List DeclaredJoin) (i k : ℕ) (s t : DeclaredJoin) → AreRising joins → slice_get joins i ≡ Some s → slice_get joins k ≡ Some t → s.position ≡ t.position → i ≡ k
one_place [] i k s t h at there same = absurd (none-some s at)
one_place (x ∷ joins) zero zero s t h at there same = refl
one_place (x ∷ joins) zero (suc k) s t h at there same =
    let less = all_at (λ u. x.position < u.position) joins k t h.0 there in
    let first = ap (λ (u : DeclaredJoin). u.position) (same_Some x s at) in
    absurd (omega arith)
one_place (x ∷ joins) (suc i) zero s t h at there same =
    let less = all_at (λ u. x.position < u.position) joins i s h.0 at in
    let first = ap (λ (u : DeclaredJoin). u.position) (same_Some x t there) in
    absurd (omega arith)
one_place (x ∷ joins) (suc i) (suc k) s t h at there same = ap suc (one_place joins i k s t h.1 at there same)

-- a position that stands at another number is another
others_apart : (joins : List DeclaredJoin) (n p : ℕ) (s : DeclaredJoin) (numbers positions : List ℕ) → AreRising joins → slice_get joins n ≡ Some s → s.position ≡ p →
    AllByRecursion (λ m. eqb n m ≡ false) numbers → ArePositionsOf joins numbers positions → AllByRecursion (λ q. eqb p q ≡ false) positions
others_apart joins n p s [] [] rising at is apart of = tt
others_apart joins n p s [] (q ∷ positions) rising at is apart of = absurd of
others_apart joins n p s (m ∷ numbers) [] rising at is apart of = absurd of
others_apart joins n p s (m ∷ numbers) (q ∷ positions) rising at is apart of = (
  ne_eqb p q (λ e. true≢false (sym (eq-eqb n m (one_place joins n m s of.0.0 rising at of.0.1 (is ∙ e ∙ sym of.0.2))) ∙ apart.0)),
  others_apart joins n p s numbers positions rising at is apart.1 of.1,
)

-- where no number stands twice no position does
distinct_positions : (joins : List DeclaredJoin) (numbers positions : List ℕ) → AreRising joins → IsDistinct eqb numbers → ArePositionsOf joins numbers positions → IsDistinct eqb positions
unfolding IsDistinct
distinct_positions joins [] [] rising distinct of = tt
distinct_positions joins [] (q ∷ positions) rising distinct of = absurd of
distinct_positions joins (n ∷ numbers) [] rising distinct of = absurd of
distinct_positions joins (n ∷ numbers) (p ∷ positions) rising distinct of =
    (others_apart joins n p of.0.0 numbers positions rising of.0.1 of.0.2 distinct.0 of.1, distinct_positions joins numbers positions rising distinct.1 of.1)

-- ---- a declaration that is refused for a cycle

-- the positions that a cause carries, where it is `cycle`
abbrev carried : Cause → Option (List ℕ)
carried (computed p) = None
carried full = None
carried nojoin = None
carried slots = None
carried sources = None
carried (clash p) = None
carried (cycle positions) = Some positions
carried deep = None
carried many = None

-- a first cause is one of the others where it is not the first that may be
later_cause : (c : Option Cause) (cs : List (Option Cause)) (cause : Cause) → (c ≡ Some cause → ⊥) → first_cause (c ∷ cs) ≡ Some cause → first_cause cs ≡ Some cause
later_cause None cs cause other h = h
later_cause (Some x) cs cause other h = absurd (other h)

-- a first cause is the first that may be where it is none of the others
own_cause : (c : Option Cause) (cs : List (Option Cause)) (cause : Cause) → (first_cause cs ≡ Some cause → ⊥) → first_cause (c ∷ cs) ≡ Some cause → c ≡ Some cause
own_cause None cs cause other h = absurd (other h)
own_cause (Some x) cs cause other h = h

-- a cause that carries no positions is not `cycle`
no_cycle_if : (b : Bool) (x : Cause) (positions : List ℕ) → carried x ≡ None → (if b then Some x else None) ≡ Some (cycle positions) → ⊥
no_cycle_if b x positions none e = let both = test-from_Some b x (cycle positions) e in none-some positions (sym none ∙ sym (ap carried both.1))

-- nor is `clash`
no_cycle_of_clash : (o : Option ℕ) (positions : List ℕ) → option_map clash o ≡ Some (cycle positions) → ⊥
no_cycle_of_clash None positions e = none-some (cycle positions) e
no_cycle_of_clash (Some p) positions e = none-some positions (ap carried (same_Some (clash p) (cycle positions) e))

-- a declaration that is refused for a cycle is so by the cycle of the set with the new join
cycle_cause-from_verdict : (j : Join) (h : History) (positions : List ℕ) → verdict (declare j) h ≡ Some (cycle positions) →
    cycle_cause (length (joins_of h)) (joined (joins_of h) (length h + 1) j) ≡ Some (cycle positions)
unfolding verdict join_cause
cycle_cause-from_verdict j h positions e =
    let joins = joins_of h in
    let more = joined joins (length h + 1) j in
    let told = cycle positions in
    let by_test : Bool → Cause → Option Cause = λ test cause. if test then Some cause else None in
    let nothing : first_cause [] ≡ Some told → ⊥ = λ n. none-some told n in
    let crowded = by_test (nat_le 64 (length joins)) many in
    let deepened = by_test (list_any (nat_lt 7) (ranks_of more)) deep in
    let cycled = cycle_cause (length joins) more in
    let clashed = clash_cause j joins in
    let sourced = by_test (not (keeps_source_rule j)) sources in
    let slotted = by_test (not (keeps_slot_rule j)) slots in
    let own = join_cause joins (length h + 1) j in
    let roomless = by_test (nat_le (2 ^ 48 - 1) (length h)) full in
    let written = later_cause roomless (write_cause (declare j) h ∷ []) told (no_cycle_if (nat_le (2 ^ 48 - 1) (length h)) full positions refl) e in
    let declared = own_cause (write_cause (declare j) h) [] told nothing written in
    let asked = declared in
    let unslotted = later_cause slotted (sourced ∷ clashed ∷ cycled ∷ deepened ∷ crowded ∷ []) told (no_cycle_if (not (keeps_slot_rule j)) slots positions refl) asked in
    let unsourced = later_cause sourced (clashed ∷ cycled ∷ deepened ∷ crowded ∷ []) told (no_cycle_if (not (keeps_source_rule j)) sources positions refl) unslotted in
    let unclashed = later_cause clashed (cycled ∷ deepened ∷ crowded ∷ []) told (no_cycle_of_clash _ positions) unsourced in
    own_cause cycled (deepened ∷ crowded ∷ []) told
    (λ n. no_cycle_if (nat_le 64 (length joins)) many positions refl
    (own_cause crowded [] told nothing
    (later_cause deepened (crowded ∷ []) told (no_cycle_if (list_any (nat_lt 7) (ranks_of more)) deep positions refl) n)))
    unclashed

-- a declaration that is refused for a cycle is told the least one, no position twice
pub refused_cycle_is_distinct_lem : RefusedCycleIsDistinct
refused_cycle_is_distinct_lem j h positions e =
    let joins = joins_of h in
    let more = joined joins (length h + 1) j in
    let long = length-joined joins (length h + 1) j in
    let carries : CarriesLeastCycle more (length joins) (cycle positions) =
    subst (λ o. MatchOption o (HasNoCycle (reading more) (length joins)) (CarriesLeastCycle more (length joins))) (cycle_cause-from_verdict j h positions e)
    (cycle_cause_is_least_cycle_lem more (length joins) (omega arith)) in
    let same : positions ≡ carries.positions = same_Some positions carries.positions (ap carried carries.is_cycle) in
    let shows = subst (λ ps. ShowsLeastCycle more (length joins) ps) (sym same) carries.shows in
    let rising = rising-from 1 [] h tt tt in
    let lengthy : 1 + length h ≡ length h + 1 = omega arith in
    let below = subst (λ n. AreBelow n joins) lengthy rising.1 in
    (shows, distinct_positions more shows.numbers positions (rising-joined joins (length h + 1) j rising.0 below) shows.distinct shows.in_order)
