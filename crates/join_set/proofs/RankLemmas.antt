-- The ranks of a set with one join more, or the cycle of its reading.
use Rattle.std.proofs.Common.{◌≡◌, ℕ, ◌+◌, ◌<◌, ◌≤◌, List, [], length, map, get_or, All, Some, None, option_map, refl, sym, ap, subst, ◌∙◌, arith}
use Rattle.std.specs.List.{AllByRecursion}
use Rattle.std.proofs.lemmas.List.FromFn.{length-map-range_with_len}
use Rattle.semantics.specs.Joins.{Join}
use Rattle.semantics.specs.Histories.{DeclaredJoin}
use Rattle.semantics.specs.Graphs.{Edges, AreVertices, IsAcyclic, IsLeastCycle, rank, ranks}
use Rattle.semantics.specs.States.{reading, ranks_of, IsAdmissible}
use Rattle.semantics.specs.Verdicts.{cycle, cycle_cause, join_cause, joined, position_at}
use Rattle.semantics.proofs.Members.{IsIn-from_get_or, AllByRecursion-at, Contains-from_IsIn}
use Rattle.semantics.proofs.GraphCycles.{IsWalkTo-below}
use Rattle.semantics.proofs.GraphLeast.{least_cycle-from_IsLeastCycle, least_cycle-from_HasNoCycle}
use Rattle.semantics.proofs.JoinReadings.{AreVertices-reading}
use Rattle.semantics.proofs.AdmissibleSets.{length-joined, last-from_cycle, IsAdmissible-nil, joined_is_admissible_lem}
use Rattle.rank_order.specs.Answers.{EachCycleMeets}
use Rattle.join_set.specs.Sets.{IsRanked, IsRankedWith}

-- a set has a rank for each join
pub length-ranks : (joins : List DeclaredJoin) (found : List ℕ) → IsRanked joins found → length found ≡ length joins
length-ranks joins found r = ap (λ rs. length rs) r.exact ∙ length-map-range_with_len (rank (length joins) (reading joins)) 0 (length joins)

-- each rank of a set is at most 7
pub rank_low : (joins : List DeclaredJoin) (found : List ℕ) (i d : ℕ) → IsRanked joins found → i < length joins → get_or found i d ≤ 7
rank_low joins found i d r h =
    let long = length-ranks joins found r in
    let within : i < length found = omega arith in
    let all = subst (λ rs. AllByRecursion (λ x. x ≤ 7) rs) (sym r.exact) r.admissible.shallow in
    AllByRecursion-at (λ x. x ≤ 7) (get_or found i d) found all (IsIn-from_get_or found i d within)

-- the set of no joins
pub IsRanked-empty : (joins : List DeclaredJoin) (found : List ℕ) → joins ≡ [] → found ≡ [] → IsRanked joins found
IsRanked-empty joins found e f =
    subst (λ js. IsRanked js found) (sym e) (subst (λ rs. IsRanked [] rs) (sym f) (record { admissible = IsAdmissible-nil; exact = refl }))

-- edges that are the reading are over the numbers of the joins
pub ends_of_reading : (joins : List DeclaredJoin) (at : ℕ) (j : Join) (edges : Edges) → edges ≡ reading (joined joins at j) → AreVertices (length joins + 1) edges
ends_of_reading joins at j edges e =
    subst (λ n. AreVertices n edges) (length-joined joins at j) (subst (λ es. AreVertices (length (joined joins at j)) es) (sym e) (AreVertices-reading (joined joins at j)))

-- each cycle goes through the new join
pub cycles_of_reading : (joins : List DeclaredJoin) (at : ℕ) (j : Join) (edges : Edges) → IsAcyclic (reading joins) → edges ≡ reading (joined joins at j) → EachCycleMeets edges (length joins)
cycles_of_reading joins at j edges acyclic e =
    subst (λ es. EachCycleMeets es (length joins)) (sym e) (λ a c is. Contains-from_IsIn (length joins) c (last-from_cycle joins at j a c acyclic is))

-- without a cycle no cause comes of one, and the ranks found are those of the set
pub IsRankedWith-from : (joins : List DeclaredJoin) (at : ℕ) (j : Join) (edges : Edges) (found : List ℕ) → edges ≡ reading (joined joins at j) → IsAcyclic edges →
    found ≡ ranks (length joins + 1) edges → IsRankedWith joins at j found
IsRankedWith-from joins at j edges found e acyclic f =
    let all = joined joins at j in
    let last : length joins < length all = omega (arith, length-joined joins at j) in
    let free = subst IsAcyclic e acyclic in
    record {
      acyclic = ap (λ o. option_map (λ c. cycle (map (position_at all) c)) o) (least_cycle-from_HasNoCycle (length all) (reading all) (length joins) (AreVertices-reading all) last (free (length joins)));
      exact = f ∙ ap (λ es. ranks (length joins + 1) es) e ∙ ap (λ n. ranks n (reading all)) (sym (length-joined joins at j));
    }

-- the numbers of the least cycle are those of joins
pub cycle_below : (joins : List DeclaredJoin) (at : ℕ) (j : Join) (edges : Edges) (found : List ℕ) → edges ≡ reading (joined joins at j) → IsLeastCycle edges (length joins) found →
    All (λ number. number ≤ length joins) found
cycle_below joins at j edges found e shown k d h =
    let within = IsWalkTo-below (length joins + 1) edges (length joins) found (ends_of_reading joins at j edges e) shown.is_cycle.closes (get_or found k d) (IsIn-from_get_or found k d h) in
    omega arith

-- the least cycle is the cause
pub cause_of_cycle : (joins : List DeclaredJoin) (at : ℕ) (j : Join) (edges : Edges) (found positions : List ℕ) → edges ≡ reading (joined joins at j) → IsLeastCycle edges (length joins) found →
    positions ≡ map (position_at (joined joins at j)) found → cycle_cause (length joins) (joined joins at j) ≡ Some (cycle positions)
cause_of_cycle joins at j edges found positions e shown p =
    let all = joined joins at j in
    let last : length joins < length all = omega (arith, length-joined joins at j) in
    let here = subst (λ es. IsLeastCycle es (length joins) found) e shown in
    ap (λ o. option_map (λ c. cycle (map (position_at all) c)) o) (least_cycle-from_IsLeastCycle (length all) (reading all) (length joins) found (AreVertices-reading all) last here)
    ∙ ap (λ ps. Some (cycle ps)) (sym p)

-- a set with one join more, against which there is no cause
pub IsRanked-joined : (joins : List DeclaredJoin) (at : ℕ) (j : Join) (next : List DeclaredJoin) (found : List ℕ) → IsAdmissible joins → join_cause joins at j ≡ None →
    found ≡ ranks_of (joined joins at j) → next ≡ joined joins at j → IsRanked next found
IsRanked-joined joins at j next found a free e n =
    subst (λ js. IsRanked js found) (sym n) (record { admissible = joined_is_admissible_lem joins at j a free; exact = e })
