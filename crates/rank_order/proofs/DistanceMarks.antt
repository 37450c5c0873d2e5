-- One round of marks takes the distances one step on.
use Rattle.std.proofs.Common.{◌≡◌, ℕ, zero, suc, ◌+◌, ◌<◌, ◌⊎◌, inl, inr, List, [], ◌∷◌, ◌++◌, length, set, get_or, take, Bool, true, false, ◌&&◌, ◌||◌, eqb, eqb-true, eq-eqb, slice_index, refl, sym, subst, ◌∙◌, arith, lt_irrefl, length-set, get_or-set_other, get_or-set_same}
use Rattle.std.specs.List.{list_any}
use Rattle.std.specs.Cmp.{both_ways}
use Rattle.std.proofs.lemmas.Bool.{cases_Bool, cases_eq, cases_lt, and_parts, and_from, or_left, or_right, false≢true}
use Rattle.std.proofs.lemmas.List.{take_more}
use Rattle.std.proofs.lemmas.List.Folds.{list_any-append}
use Rattle.semantics.specs.Graphs.{Edges, reads, AreVertices}
use Rattle.semantics.proofs.Members.{IsIn-from_list_any, list_any-from_IsIn}
use Rattle.semantics.proofs.GraphReadings.{AreVertices-get_or, edge-from_reads, reads-from_edge, reads-below}
use Rattle.rank_order.specs.Walks.{HasWalk, IsDistance, AreDistances, is_at_distance}
use Rattle.rank_order.proofs.WalkSteps.{HasWalk-cons, next-from_HasWalk, distance-from_is_at, is_at-from_distance, HasWalk-from_is_at, is_at-from_HasWalk}

-- whether an edge is a step from the vertex to one at the distance
abbrev pub is_step : List ℕ → ℕ → ℕ → ℕ → ℕ × ℕ → Bool
is_step distances goal steps a e = eqb e.0 a && is_at_distance distances goal steps e.1

-- a vertex is marked where it was not and some of the edges is a step
pub record IsMarkedAt (goal steps : ℕ) (distances : List ℕ) (done : Edges) (marked : List ℕ) (a : ℕ) : Type 0 where
  pub kept : 0 < slice_index distances a → slice_index marked a ≡ slice_index distances a
  pub new : slice_index distances a ≡ 0 → list_any (is_step distances goal steps a) done ≡ true → slice_index marked a ≡ suc steps
  pub none : slice_index distances a ≡ 0 → list_any (is_step distances goal steps a) done ≡ false → slice_index marked a ≡ 0

-- the vertices are marked by the edges that were looked at
pub record IsMarked (goal steps : ℕ) (distances : List ℕ) (done : Edges) (marked : List ℕ) : Type 0 where
  pub same : length marked ≡ length distances
  pub each : (a : ℕ) → a < length distances → IsMarkedAt goal steps distances done marked a

-- an edge that passes more
any_push : {X : Type 0} (p : X → Bool) (done : List X) (e : X) → p e ≡ true → list_any p (done ++ e ∷ []) ≡ true
any_push p done e h = list_any-append p done (e ∷ []) ∙ or_right (list_any p done) (p e || false) (or_left (p e) false h)

-- an edge that does not pass more
any_push_same : {X : Type 0} (p : X → Bool) (done : List X) (e : X) → p e ≡ false → list_any p (done ++ e ∷ []) ≡ list_any p done
any_push_same p done e h = list_any-append p done (e ∷ []) ∙ no_more (list_any p done) (p e) h
  where
    no_more : (x y : Bool) → y ≡ false → (x || (y || false)) ≡ x
    no_more true y h = refl
    no_more false true h = absurd (false≢true (sym h))
    no_more false false h = refl

-- marks change nothing of what is at the distance
pub is_at_distance-marked : (goal steps : ℕ) (distances : List ℕ) (done : Edges) (marked : List ℕ) (b : ℕ) → IsMarkedAt goal steps distances done marked b →
    is_at_distance marked goal steps b ≡ is_at_distance distances goal steps b
is_at_distance-marked goal zero distances done marked b m = refl
is_at_distance-marked goal (suc steps) distances done marked b m =
    both_ways (is_at_distance marked goal (suc steps) b) (is_at_distance distances goal (suc steps) b)
    (λ t. is_at-from_distance distances goal steps b (back (distance-from_is_at marked goal steps b t) (cases_eq (slice_index distances b) 0)))
    (λ t. let e = distance-from_is_at distances goal steps b t in is_at-from_distance marked goal steps b (m.kept (omega arith) ∙ e))
  where
    back : slice_index marked b ≡ suc steps → (slice_index distances b ≡ 0) ⊎ (slice_index distances b ≡ 0 → ⊥) → slice_index distances b ≡ suc steps
    back e (inl z) =
        elim (cases_Bool (list_any (is_step distances goal (suc steps) b) done)) [
          | inl t ↦ (let f = m.new z t in absurd (omega arith))
          | inr t ↦ (let f = m.none z t in absurd (omega arith))
        ]
    back e (inr nz) = let f = m.kept (omega arith) in sym f ∙ e

-- an edge that marks nothing
IsMarkedAt-skip : (goal steps : ℕ) (distances : List ℕ) (done : Edges) (marked : List ℕ) (e : ℕ × ℕ) (a : ℕ) → IsMarkedAt goal steps distances done marked a →
    (eqb e.0 a ≡ true → is_at_distance distances goal steps e.1 ≡ true → slice_index marked a ≡ 0 → ⊥) → IsMarkedAt goal steps distances (done ++ e ∷ []) marked a
IsMarkedAt-skip goal steps distances done marked e a m unmarked =
    elim (cases_Bool (is_step distances goal steps a e)) [
      | inl t ↦ (let both = and_parts (eqb e.0 a) (is_at_distance distances goal steps e.1) t in
          record {
            kept = m.kept;
            new = λ z _. elim (cases_Bool (list_any (is_step distances goal steps a) done)) [ inl u ↦ m.new z u | inr u ↦ absurd (unmarked both.0 both.1 (m.none z u)) ];
            none = λ z u. absurd (false≢true (sym u ∙ any_push (is_step distances goal steps a) done e t));
          })
      | inr t ↦ (let same = any_push_same (is_step distances goal steps a) done e t in
          record { kept = m.kept; new = λ z u. m.new z (sym same ∙ u); none = λ z u. m.none z (sym same ∙ u) })
    ]

-- an edge whose reader is marked already, or that is no step, marks nothing
pub IsMarked-skip : (goal steps : ℕ) (distances : List ℕ) (done : Edges) (marked : List ℕ) (e : ℕ × ℕ) → e.1 < length distances → IsMarked goal steps distances done marked →
    (slice_index marked e.0 ≡ 0 → is_at_distance marked goal steps e.1 ≡ true → ⊥) → IsMarked goal steps distances (done ++ e ∷ []) marked
IsMarked-skip goal steps distances done marked e h m unmarked =
    record {
      same = m.same;
      each = λ a k. IsMarkedAt-skip goal steps distances done marked e a (m.each a k)
          (λ t u z. unmarked (subst (λ w. slice_index marked w ≡ 0) (sym (eqb-true e.0 a t)) z) (is_at_distance-marked goal steps distances done marked e.1 (m.each e.1 h) ∙ u));
    }

-- an edge that marks its reader
pub IsMarked-mark : (goal steps : ℕ) (distances : List ℕ) (done : Edges) (marked : List ℕ) (e : ℕ × ℕ) → e.0 < length distances → e.1 < length distances →
    IsMarked goal steps distances done marked → slice_index marked e.0 ≡ 0 → is_at_distance marked goal steps e.1 ≡ true →
    IsMarked goal steps distances (done ++ e ∷ []) (set marked e.0 (suc steps))
IsMarked-mark goal steps distances done marked e g h m z t =
    record {
      same = length-set {A = ℕ} marked e.0 (suc steps) ∙ m.same;
      each = λ a k. by_vertex a k (cases_eq e.0 a);
    }
  where
    by_vertex : (a : ℕ) → a < length distances → (e.0 ≡ a) ⊎ (e.0 ≡ a → ⊥) → IsMarkedAt goal steps distances (done ++ e ∷ []) (set marked e.0 (suc steps)) a
    by_vertex a k (inl s) =
        let below : e.0 < length marked = omega (arith, m.same) in
        let here : slice_index (set marked e.0 (suc steps)) a ≡ suc steps = subst (λ w. slice_index (set marked e.0 (suc steps)) w ≡ suc steps) s (get_or-set_same marked e.0 (suc steps) 0 below) in
        let near = sym (is_at_distance-marked goal steps distances done marked e.1 (m.each e.1 h)) ∙ t in
        record {
          kept = λ p. let f = (m.each a k).kept p in let y : slice_index marked a ≡ 0 = subst (λ w. slice_index marked w ≡ 0) s z in absurd (omega arith);
          new = λ _ _. here;
          none = λ _ u. absurd (false≢true (sym u ∙ any_push (is_step distances goal steps a) done e (and_from (eqb e.0 a) (is_at_distance distances goal steps e.1) (eq-eqb e.0 a s) near)));
        }
    by_vertex a k (inr ne) =
        let other : slice_index (set marked e.0 (suc steps)) a ≡ slice_index marked a = get_or-set_other marked e.0 a (suc steps) 0 (λ s. ne (sym s)) in
        let old = IsMarkedAt-skip goal steps distances done marked e a (m.each a k) (λ s _ _. ne (eqb-true e.0 a s)) in
        record { kept = λ p. other ∙ old.kept p; new = λ y u. other ∙ old.new y u; none = λ y u. other ∙ old.none y u }

-- a step from a vertex is among the edges, where it has a walk of one step more and no shorter one
step-from_HasWalk : (edges : Edges) (goal steps : ℕ) (distances : List ℕ) (a : ℕ) → AreVertices (length distances) edges → AreDistances edges goal steps distances → a < length distances →
    slice_index distances a ≡ 0 → HasWalk edges goal (suc steps) a → list_any (is_step distances goal steps a) edges ≡ true
step-from_HasWalk edges goal steps distances a v d k z w =
    let next = next-from_HasWalk edges goal steps a w in
    let below = reads-below (length distances) edges a next.0 v next.1 in
    let shorter = λ (j : ℕ) (lt : j < steps) (u : HasWalk edges goal (suc j) a). let f = (d a k).least (suc j) (omega arith) (omega arith) u in let no_distance : ⊥ = omega (arith, f.0) in no_distance in
    let near = is_at-from_HasWalk edges goal steps distances steps a next.0 d below.1 (omega arith) next.1 shorter next.2 in
    let edge = edge-from_reads edges a next.0 next.1 in
    list_any-from_IsIn (is_step distances goal steps a) edge.0 edges
    (and_from (eqb edge.0.0 a) (is_at_distance distances goal steps edge.0.1) (eq-eqb edge.0.0 a edge.2) (subst (λ b. is_at_distance distances goal steps b ≡ true) (sym edge.3) near)) edge.1

-- a step among the edges makes a walk of one step more
HasWalk-from_step : (edges : Edges) (goal steps : ℕ) (distances : List ℕ) (a : ℕ) → AreVertices (length distances) edges → AreDistances edges goal steps distances →
    list_any (is_step distances goal steps a) edges ≡ true → HasWalk edges goal (suc steps) a
HasWalk-from_step edges goal steps distances a v d t =
    let found = IsIn-from_list_any (is_step distances goal steps a) edges t in
    let both = and_parts (eqb found.0.0 a) (is_at_distance distances goal steps found.0.1) found.2 in
    let read = subst (λ w. reads edges w found.0.1 ≡ true) (eqb-true found.0.0 a both.0) (reads-from_edge edges found.0 found.1) in
    let below = reads-below (length distances) edges a found.0.1 v read in
    HasWalk-cons edges goal steps a found.0.1 read (HasWalk-from_is_at edges goal steps distances steps found.0.1 d below.1 both.1)

-- a distance that was known stays
IsDistance-kept : (edges : Edges) (goal steps a distance : ℕ) → 0 < distance → IsDistance edges goal steps a distance → IsDistance edges goal (suc steps) a distance
IsDistance-kept edges goal steps a distance some d =
    let upto = d.within in
    record {
      within = omega arith;
      has_way = d.has_way;
      least = λ j p q w. elim (cases_lt steps j) [ inl lt ↦ (some, omega arith) | inr le ↦ d.least j p le w ];
    }

-- a distance that is found
IsDistance-new : (edges : Edges) (goal steps a : ℕ) → IsDistance edges goal steps a 0 → HasWalk edges goal (suc steps) a → IsDistance edges goal (suc steps) a (suc steps)
IsDistance-new edges goal steps a d w =
    record {
      within = omega arith;
      has_way = λ _. w;
      least = λ j p q u. elim (cases_lt steps j) [ inl lt ↦ (omega arith, omega arith) | inr le ↦ absurd (lt_irrefl 0 (d.least j p le u).0) ];
    }

-- no distance is found
IsDistance-none : (edges : Edges) (goal steps a : ℕ) → IsDistance edges goal steps a 0 → (HasWalk edges goal (suc steps) a → ⊥) → IsDistance edges goal (suc steps) a 0
IsDistance-none edges goal steps a d none =
    record {
      within = omega arith;
      has_way = λ p. absurd (lt_irrefl 0 p);
      least = λ j p q u. elim (cases_lt steps j) [ inl lt ↦ (let e : j ≡ suc steps = omega arith in absurd (none (subst (λ k. HasWalk edges goal k a) e u))) | inr le ↦ d.least j p le u ];
    }

-- after a round over all edges the marks are the distances of one step more
pub AreDistances-round : (edges : Edges) (goal steps : ℕ) (distances marked : List ℕ) → AreVertices (length distances) edges → AreDistances edges goal steps distances →
    IsMarked goal steps distances edges marked → AreDistances edges goal (suc steps) marked
AreDistances-round edges goal steps distances marked v d m a k =
    let low : a < length distances = omega (arith, m.same) in
    let here = m.each a low in
    elim (cases_eq (slice_index distances a) 0) [
      | inl z ↦ (let old = subst (λ w. IsDistance edges goal steps a w) z (d a low) in
          elim (cases_Bool (list_any (is_step distances goal steps a) edges)) [
            | inl t ↦ subst (λ w. IsDistance edges goal (suc steps) a w) (sym (here.new z t)) (IsDistance-new edges goal steps a old (HasWalk-from_step edges goal steps distances a v d t))
            | inr t ↦ subst (λ w. IsDistance edges goal (suc steps) a w) (sym (here.none z t))
                (IsDistance-none edges goal steps a old (λ w. false≢true (sym t ∙ step-from_HasWalk edges goal steps distances a v d low z w)))
          ])
      | inr nz ↦ (let some : 0 < slice_index distances a = omega arith in
          subst (λ w. IsDistance edges goal (suc steps) a w) (sym (here.kept some)) (IsDistance-kept edges goal steps a (slice_index distances a) some (d a low)))
    ]

-- the step of the loop over the edges: the edge marks its reader
pub IsMarked-mark_more : (goal steps : ℕ) (distances : List ℕ) (edges : Edges) (i number : ℕ) (marked : List ℕ) → i < length edges → AreVertices (length distances) edges →
    IsMarked goal steps distances (take i edges) marked → slice_index marked (get_or edges i (0, 0)).0 ≡ 0 → is_at_distance marked goal steps (get_or edges i (0, 0)).1 ≡ true → number ≡ suc steps →
    IsMarked goal steps distances (take (i + 1) edges) (set marked (get_or edges i (0, 0)).0 number)
IsMarked-mark_more goal steps distances edges i number marked h v m z t same =
    let ends = AreVertices-get_or (length distances) edges i (0, 0) v h in
    let next = IsMarked-mark goal steps distances (take i edges) marked (get_or edges i (0, 0)) ends.0 ends.1 m z t in
    subst (λ done. IsMarked goal steps distances done (set marked (get_or edges i (0, 0)).0 number)) (sym (take_more edges i (0, 0) h))
    (subst (λ k. IsMarked goal steps distances (take i edges ++ get_or edges i (0, 0) ∷ []) (set marked (get_or edges i (0, 0)).0 k)) (sym same) next)

-- the step of the loop over the edges: the edge marks nothing
pub IsMarked-skip_more : (goal steps : ℕ) (distances : List ℕ) (edges : Edges) (i : ℕ) (marked : List ℕ) → i < length edges → AreVertices (length distances) edges →
    IsMarked goal steps distances (take i edges) marked → (slice_index marked (get_or edges i (0, 0)).0 ≡ 0 → is_at_distance marked goal steps (get_or edges i (0, 0)).1 ≡ true → ⊥) →
    IsMarked goal steps distances (take (i + 1) edges) marked
IsMarked-skip_more goal steps distances edges i marked h v m unmarked =
    let ends = AreVertices-get_or (length distances) edges i (0, 0) v h in
    subst (λ done. IsMarked goal steps distances done marked) (sym (take_more edges i (0, 0) h))
    (IsMarked-skip goal steps distances (take i edges) marked (get_or edges i (0, 0)) ends.1 m unmarked)
