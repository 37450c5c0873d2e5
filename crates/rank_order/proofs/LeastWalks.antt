-- The least of the shortest walks: its next vertex is the least that is one step nearer.
use Rattle.std.proofs.Common.{◌≡◌, ℕ, zero, suc, ◌+◌, ◌<◌, ◌≤◌, inl, inr, List, [], ◌∷◌, ◌++◌, length, take, get_or, min, true, eqb, eqb-true, eq-eqb, slice_index, Option, Some, None, MatchOption, refl, sym, ap, subst, ◌∙◌, arith, append_assoc, append-nil, ◌-◌}
use Rattle.std.proofs.lemmas.Bool.{cases_lt, and_parts, and_from}
use Rattle.std.proofs.lemmas.List.{take_more, get_or_read}
use Rattle.semantics.specs.Graphs.{Edges, reads, AreVertices, BeginsWith, IsLeastCycle, HasNoCycle, IsAcyclic}
use Rattle.semantics.proofs.Members.{IsIn-from_Contains, IsIn, IsIn-append_cases, IsIn-append_left, IsIn-append_right}
use Rattle.semantics.proofs.GraphReadings.{edge-from_reads, reads-from_edge, reads-below}
use Rattle.semantics.proofs.GraphCycles.{cycle-from_member}
use Rattle.rank_order.specs.Answers.{EachCycleMeets}
use Rattle.semantics.proofs.GraphOrder.{IsLe, IsLe-cons, IsLe-first}
use Rattle.semantics.proofs.GraphLeast.{IsLeastCycle-from_least, short_cycle}
use Rattle.rank_order.specs.Walks.{LeadsBy, HasWalk, AreDistances, is_at_distance, IsLeastNext, HasNoNext}
use Rattle.rank_order.proofs.WalkSteps.{next-from_HasWalk, goal-from_HasWalk, IsWalk-from_LeadsBy, LeadsBy-from_IsWalk, goal-from_is_at, distance-from_is_at, is_at-from_distance, HasWalk-from_is_at, is_at-from_HasWalk}
use Rattle.rank_order.proofs.DistanceMarks.{is_step}

-- ---- the least vertex that is read

-- the least end of the steps among the edges that were looked at
pub record IsLeastStep (distances : List ℕ) (goal steps a : ℕ) (done : Edges) (b : ℕ) : Type 0 where
  pub edge : ℕ × ℕ
  pub looked_at : IsIn edge done
  pub passes : is_step distances goal steps a edge ≡ true
  pub ends : edge.1 ≡ b
  pub least : (e : ℕ × ℕ) → IsIn e done → is_step distances goal steps a e ≡ true → b ≤ e.1

-- no edge that was looked at is a step
abbrev pub HasNoStep : List ℕ → ℕ → ℕ → ℕ → Edges → Type 0
HasNoStep distances goal steps a done = (e : ℕ × ℕ) → IsIn e done → is_step distances goal steps a e ≡ true → ⊥

-- the least end so far, if there is a step
abbrev pub IsLeastSoFar : List ℕ → ℕ → ℕ → ℕ → Edges → Option ℕ → Type 0
IsLeastSoFar distances goal steps a done o = MatchOption o (HasNoStep distances goal steps a done) (IsLeastStep distances goal steps a done)

-- an edge that is a step is weighed
IsLeastSoFar-step : (distances : List ℕ) (goal steps a : ℕ) (done : Edges) (e : ℕ × ℕ) (o : Option ℕ) (b : ℕ) → IsLeastSoFar distances goal steps a done o →
    is_step distances goal steps a e ≡ true → MatchOption o (b ≡ e.1) (λ other. b ≡ min other e.1) → IsLeastStep distances goal steps a (done ++ e ∷ []) b
IsLeastSoFar-step distances goal steps a done e None b h t s =
    record {
      edge = e;
      looked_at = IsIn-append_right e done (e ∷ []) (inl refl);
      passes = t;
      ends = sym s;
      least = λ f m u. elim (IsIn-append_cases f done (e ∷ []) m) [ inl n ↦ absurd (h f n u) | inr n ↦ elim n [ inl w ↦ (let same : f.1 ≡ e.1 = ap (λ (p : ℕ × ℕ). p.1) w in omega arith) | inr n' ↦ absurd n' ] ];
    }
IsLeastSoFar-step distances goal steps a done e (Some other) b h t s =
    elim (cases_lt e.1 other) [
      | inl lt ↦ record {
        edge = e;
        looked_at = IsIn-append_right e done (e ∷ []) (inl refl);
        passes = t;
        ends = omega arith;
        least = λ f m u. elim (IsIn-append_cases f done (e ∷ []) m) [ inl n ↦ (let old = h.least f n u in omega arith) | inr n ↦ elim n [ inl w ↦ (let same : f.1 ≡ e.1 = ap (λ (p : ℕ × ℕ). p.1) w in omega arith) | inr n' ↦ absurd n' ] ];
      }
      | inr le ↦ record {
        edge = h.edge;
        looked_at = IsIn-append_left h.edge done (e ∷ []) h.looked_at;
        passes = h.passes;
        ends = (let old = h.ends in omega arith);
        least = λ f m u. elim (IsIn-append_cases f done (e ∷ []) m) [ inl n ↦ (let old = h.least f n u in omega arith) | inr n ↦ elim n [ inl w ↦ (let same : f.1 ≡ e.1 = ap (λ (p : ℕ × ℕ). p.1) w in omega arith) | inr n' ↦ absurd n' ] ];
      }
    ]

-- an edge that is no step changes nothing
IsLeastSoFar-other : (distances : List ℕ) (goal steps a : ℕ) (done : Edges) (e : ℕ × ℕ) (o : Option ℕ) → IsLeastSoFar distances goal steps a done o →
    (is_step distances goal steps a e ≡ true → ⊥) → IsLeastSoFar distances goal steps a (done ++ e ∷ []) o
IsLeastSoFar-other distances goal steps a done e None h ne =
    λ f m u. elim (IsIn-append_cases f done (e ∷ []) m) [ inl n ↦ h f n u | inr n ↦ elim n [ inl w ↦ ne (subst (λ p. is_step distances goal steps a p ≡ true) w u) | inr n' ↦ n' ] ]
IsLeastSoFar-other distances goal steps a done e (Some b) h ne =
    record {
      edge = h.edge;
      looked_at = IsIn-append_left h.edge done (e ∷ []) h.looked_at;
      passes = h.passes;
      ends = h.ends;
      least = λ f m u. elim (IsIn-append_cases f done (e ∷ []) m) [ inl n ↦ h.least f n u | inr n ↦ elim n [ inl w ↦ absurd (ne (subst (λ p. is_step distances goal steps a p ≡ true) w u)) | inr n' ↦ absurd n' ] ];
    }

-- the step of the loop over the edges: the edge is a step
pub IsLeastSoFar-step_more : (distances : List ℕ) (goal steps a : ℕ) (edges : Edges) (i : ℕ) (o : Option ℕ) (b : ℕ) → i < length edges → IsLeastSoFar distances goal steps a (take i edges) o →
    (get_or edges i (0, 0)).0 ≡ a → is_at_distance distances goal steps (get_or edges i (0, 0)).1 ≡ true →
    MatchOption o (b ≡ (get_or edges i (0, 0)).1) (λ other. b ≡ min other (get_or edges i (0, 0)).1) → IsLeastSoFar distances goal steps a (take (i + 1) edges) (Some b)
IsLeastSoFar-step_more distances goal steps a edges i o b h s r t w =
    let e = get_or edges i (0, 0) in
    subst (λ done. IsLeastStep distances goal steps a done b) (sym (take_more edges i (0, 0) h))
    (IsLeastSoFar-step distances goal steps a (take i edges) e o b s (and_from (eqb e.0 a) (is_at_distance distances goal steps e.1) (eq-eqb e.0 a r) t) w)

-- the step of the loop over the edges: the edge is no step
pub IsLeastSoFar-other_more : (distances : List ℕ) (goal steps a : ℕ) (edges : Edges) (i : ℕ) (o : Option ℕ) → i < length edges → IsLeastSoFar distances goal steps a (take i edges) o →
    ((get_or edges i (0, 0)).0 ≡ a → is_at_distance distances goal steps (get_or edges i (0, 0)).1 ≡ true → ⊥) → IsLeastSoFar distances goal steps a (take (i + 1) edges) o
IsLeastSoFar-other_more distances goal steps a edges i o h s ne =
    let e = get_or edges i (0, 0) in
    subst (λ done. IsLeastSoFar distances goal steps a done o) (sym (take_more edges i (0, 0) h))
    (IsLeastSoFar-other distances goal steps a (take i edges) e o s
    (λ t. let both = and_parts (eqb e.0 a) (is_at_distance distances goal steps e.1) t in ne (eqb-true e.0 a both.0) both.1))

-- after all edges the least is the least vertex that is read
pub next-from_IsLeastSoFar : (edges : Edges) (distances : List ℕ) (goal steps a : ℕ) (o : Option ℕ) → IsLeastSoFar distances goal steps a edges o →
    MatchOption o (HasNoNext edges distances goal steps a) (IsLeastNext edges distances goal steps a)
next-from_IsLeastSoFar edges distances goal steps a None h = λ c r t. let step = step_of edges distances goal steps a c r t in h step.0 step.1 step.2.0
  where
    step_of : (edges : Edges) (distances : List ℕ) (goal steps a c : ℕ) → reads edges a c ≡ true → is_at_distance distances goal steps c ≡ true →
        (e : ℕ × ℕ) × (IsIn e edges) × ((is_step distances goal steps a e ≡ true) × (e.1 ≡ c))
    step_of edges distances goal steps a c r t =
        let edge = edge-from_reads edges a c r in
        (edge.0, edge.1, (and_from (eqb edge.0.0 a) (is_at_distance distances goal steps edge.0.1) (eq-eqb edge.0.0 a edge.2) (subst (λ b. is_at_distance distances goal steps b ≡ true) (sym edge.3) t), edge.3))
next-from_IsLeastSoFar edges distances goal steps a (Some b) h =
    let both = and_parts (eqb h.edge.0 a) (is_at_distance distances goal steps h.edge.1) h.passes in
    record {
      read = subst (λ w. reads edges w b ≡ true) (eqb-true h.edge.0 a both.0) (subst (λ w. reads edges h.edge.0 w ≡ true) h.ends (reads-from_edge edges h.edge h.looked_at));
      near = subst (λ w. is_at_distance distances goal steps w ≡ true) h.ends both.1;
      least = λ c r t. let step = step_at edges distances goal steps a c r t in let upto = h.least step.0 step.1 step.2.0 in omega (arith, step.2.1);
    }
  where
    step_at : (edges : Edges) (distances : List ℕ) (goal steps a c : ℕ) → reads edges a c ≡ true → is_at_distance distances goal steps c ≡ true →
        (e : ℕ × ℕ) × (IsIn e edges) × ((is_step distances goal steps a e ≡ true) × (e.1 ≡ c))
    step_at edges distances goal steps a c r t =
        let edge = edge-from_reads edges a c r in
        (edge.0, edge.1, (and_from (eqb edge.0.0 a) (is_at_distance distances goal steps edge.0.1) (eq-eqb edge.0.0 a edge.2) (subst (λ b. is_at_distance distances goal steps b ≡ true) (sym edge.3) t), edge.3))

-- ---- the least walk

-- the least walk of so many steps from a vertex
pub record IsLeastWalk (edges : Edges) (goal steps a : ℕ) (walk : List ℕ) : Type 0 where
  pub leads : LeadsBy edges goal steps a walk
  pub least : (other : List ℕ) → LeadsBy edges goal steps a other → IsLe walk other

-- with no step the goal has the empty walk
pub IsLeastWalk-none : (edges : Edges) (goal a : ℕ) → a ≡ goal → IsLeastWalk edges goal 0 a []
IsLeastWalk-none edges goal a e = record { leads = e; least = λ other l. empty other l }
  where
    empty : (other : List ℕ) → LeadsBy edges goal zero a other → IsLe [] other
    empty [] l = refl
    empty (x ∷ other) l = absurd l

-- a walk of a step or more begins with its vertex
LeadsBy-begins : (edges : Edges) (goal steps a : ℕ) (walk : List ℕ) → LeadsBy edges goal (suc steps) a walk → BeginsWith a walk
LeadsBy-begins edges goal steps a [] l = absurd l
LeadsBy-begins edges goal steps a (x ∷ walk) l = l.0

-- a walk from a lesser vertex is not greater
LeadsBy-first : (edges : Edges) (goal steps b c : ℕ) (walk other : List ℕ) → b < c → LeadsBy edges goal steps b walk → LeadsBy edges goal steps c other → IsLe walk other
LeadsBy-first edges goal zero b c walk other lt l k =
    let s = goal-from_HasWalk edges goal b (walk, l) in let t = goal-from_HasWalk edges goal c (other, k) in absurd (omega arith)
LeadsBy-first edges goal (suc steps) b c walk other lt l k = IsLe-first b c walk other lt (LeadsBy-begins edges goal steps b walk l) (LeadsBy-begins edges goal steps c other k)

-- a vertex before the least walk from the least vertex that has one
pub IsLeastWalk-cons : (edges : Edges) (goal steps a b : ℕ) (walk : List ℕ) → reads edges a b ≡ true → ((c : ℕ) → reads edges a c ≡ true → HasWalk edges goal steps c → b ≤ c) →
    IsLeastWalk edges goal steps b walk → IsLeastWalk edges goal (suc steps) a (a ∷ walk)
IsLeastWalk-cons edges goal steps a b walk r least w = record { leads = (refl, (b, r, w.leads)); least = λ other l. beside edges goal steps a b walk least w other l }
  where
    beside : (edges : Edges) (goal steps a b : ℕ) (walk : List ℕ) → ((c : ℕ) → reads edges a c ≡ true → HasWalk edges goal steps c → b ≤ c) →
        IsLeastWalk edges goal steps b walk → (other : List ℕ) → LeadsBy edges goal (suc steps) a other → IsLe (a ∷ walk) other
    beside edges goal steps a b walk least w [] l = absurd l
    beside edges goal steps a b walk least w (x ∷ other) l =
        let upto = least l.1.0 l.1.1 (other, l.1.2) in
        subst (λ z. IsLe (a ∷ walk) (z ∷ other)) l.0
        (IsLe-cons a walk other
        (elim (cases_lt b l.1.0) [
          | inl lt ↦ LeadsBy-first edges goal steps b l.1.0 walk other lt w.leads l.1.2
          | inr ge ↦ (let same : l.1.0 ≡ b = omega arith in w.least other (subst (λ z. LeadsBy edges goal steps z other) same l.1.2))
        ]))

-- a vertex at its distance has no shorter walk
shorter-from_is_at : (edges : Edges) (goal : ℕ) (distances : List ℕ) (bound steps a : ℕ) → AreDistances edges goal bound distances → a < length distances →
    is_at_distance distances goal (suc steps) a ≡ true → (suc steps ≤ bound) × ((j : ℕ) → j < steps → HasWalk edges goal (suc j) a → ⊥)
shorter-from_is_at edges goal distances bound steps a d h t =
    let here = distance-from_is_at distances goal steps a t in
    let upto = (d a h).within in
    (omega arith, λ j lt w. let f = (d a h).least (suc j) (omega arith) (omega arith) w in let nothing : ⊥ = omega (arith, f.1) in nothing)

-- a vertex at its distance reads one that is a step nearer
pub next-from_is_at : (edges : Edges) (goal : ℕ) (distances : List ℕ) (bound steps a : ℕ) → AreVertices (length distances) edges → AreDistances edges goal bound distances → a < length distances →
    is_at_distance distances goal (suc steps) a ≡ true → HasNoNext edges distances goal steps a → ⊥
next-from_is_at edges goal distances bound steps a v d h t none =
    let shorter = shorter-from_is_at edges goal distances bound steps a d h t in
    let next = next-from_HasWalk edges goal steps a (HasWalk-from_is_at edges goal bound distances (suc steps) a d h t) in
    let below = reads-below (length distances) edges a next.0 v next.1 in
    none next.0 next.1 (is_at-from_HasWalk edges goal bound distances steps a next.0 d below.1 (omega (arith, shorter.0)) next.1 shorter.1 next.2)

-- the least walk from a vertex goes by the least vertex that is a step nearer
pub IsLeastWalk-next : (edges : Edges) (goal : ℕ) (distances : List ℕ) (bound steps a b : ℕ) (walk : List ℕ) → AreVertices (length distances) edges → AreDistances edges goal bound distances →
    a < length distances → is_at_distance distances goal (suc steps) a ≡ true → IsLeastNext edges distances goal steps a b → IsLeastWalk edges goal steps b walk →
    IsLeastWalk edges goal (suc steps) a (a ∷ walk)
IsLeastWalk-next edges goal distances bound steps a b walk v d h t next w =
    let shorter = shorter-from_is_at edges goal distances bound steps a d h t in
    IsLeastWalk-cons edges goal steps a b walk next.read
    (λ c r u.
    let below = reads-below (length distances) edges a c v r in
    next.least c r (is_at-from_HasWalk edges goal bound distances steps a c d below.1 (omega (arith, shorter.0)) r shorter.1 u))
    w

-- ---- the walk

-- what was walked, before any walk that goes on from the vertex, is a least walk from the start
pub record IsWalked (edges : Edges) (distances : List ℕ) (start : ℕ) (walked : List ℕ) (steps vertex : ℕ) : Type 0 where
  pub below : vertex < length distances
  pub near : is_at_distance distances start steps vertex ≡ true
  pub onward : (walk : List ℕ) → IsLeastWalk edges start steps vertex walk → IsLeastWalk edges start (slice_index distances start) start (walked ++ walk)

-- a step of the walk
pub IsWalked-step : (edges : Edges) (distances : List ℕ) (start : ℕ) (walked : List ℕ) (bound steps vertex next : ℕ) → AreVertices (length distances) edges →
    AreDistances edges start bound distances → IsWalked edges distances start walked (suc steps) vertex → IsLeastNext edges distances start steps vertex next →
    IsWalked edges distances start (walked ++ vertex ∷ []) steps next
IsWalked-step edges distances start walked bound steps vertex next v d w n =
    let below = reads-below (length distances) edges vertex next v n.read in
    record {
      below = below.1;
      near = n.near;
      onward = λ walk l.
          subst (λ z. IsLeastWalk edges start (slice_index distances start) start z) (sym (append_assoc walked (vertex ∷ []) walk))
          (w.onward (vertex ∷ walk) (IsLeastWalk-next edges start distances bound steps vertex next walk v d w.below w.near n l));
    }

-- a step of the walk, where steps are left
pub IsWalked-next : (edges : Edges) (distances : List ℕ) (start : ℕ) (walked : List ℕ) (bound steps vertex next : ℕ) → AreVertices (length distances) edges →
    AreDistances edges start bound distances → 0 < steps → IsWalked edges distances start walked steps vertex → IsLeastNext edges distances start (steps - 1) vertex next →
    IsWalked edges distances start (walked ++ vertex ∷ []) (steps - 1) next
IsWalked-next edges distances start walked bound steps vertex next v d some w n =
    let same : steps ≡ suc (steps - 1) = omega arith in
    IsWalked-step edges distances start walked bound (steps - 1) vertex next v d (subst (λ k. IsWalked edges distances start walked k vertex) same w) n

-- while steps are left there is a next vertex
pub next-from_IsWalked : (edges : Edges) (distances : List ℕ) (start : ℕ) (walked : List ℕ) (bound steps vertex : ℕ) → AreVertices (length distances) edges →
    AreDistances edges start bound distances → 0 < steps → IsWalked edges distances start walked steps vertex → HasNoNext edges distances start (steps - 1) vertex → ⊥
next-from_IsWalked edges distances start walked bound steps vertex v d some w none =
    let same : steps ≡ suc (steps - 1) = omega arith in
    next-from_is_at edges start distances bound (steps - 1) vertex v d w.below (subst (λ k. is_at_distance distances start k vertex ≡ true) same w.near) none

-- the least walk back is the least cycle
IsLeastCycle-from_IsLeastWalk : (edges : Edges) (start bound : ℕ) (distances : List ℕ) (distance : ℕ) (cycle : List ℕ) → AreDistances edges start bound distances → start < length distances →
    slice_index distances start ≡ distance → 0 < distance → IsLeastWalk edges start distance start cycle → IsLeastCycle edges start cycle
IsLeastCycle-from_IsLeastWalk edges start bound distances zero cycle d h e some w = absurd (omega arith)
IsLeastCycle-from_IsLeastWalk edges start bound distances (suc steps) cycle d h e some w =
    let shorter = shorter-from_is_at edges start distances bound steps start d h (is_at-from_distance distances start steps start e) in
    IsLeastCycle-from_least edges start steps cycle (IsWalk-from_LeadsBy edges start steps start cycle w.leads)
    (λ j other lt o. shorter.1 j lt (other, LeadsBy-from_IsWalk edges start (suc j) start other o))
    (λ other o. w.least other (LeadsBy-from_IsWalk edges start (suc steps) start other o))

-- after the last step the least cycle was walked
pub IsLeastCycle-from_IsWalked : (edges : Edges) (distances : List ℕ) (start bound : ℕ) (walked : List ℕ) (vertex : ℕ) → AreDistances edges start bound distances → start < length distances →
    0 < slice_index distances start → IsWalked edges distances start walked 0 vertex → IsLeastCycle edges start walked
IsLeastCycle-from_IsWalked edges distances start bound walked vertex d h some w =
    let whole = w.onward [] (IsLeastWalk-none edges start vertex (goal-from_is_at distances start vertex w.near)) in
    IsLeastCycle-from_IsLeastWalk edges start bound distances (slice_index distances start) walked d h refl some
    (subst (λ z. IsLeastWalk edges start (slice_index distances start) start z) (append-nil walked) whole)

-- without a distance from the start no cycle goes through it
pub HasNoCycle-from_distance : (n : ℕ) (edges : Edges) (start : ℕ) (distances : List ℕ) → AreVertices n edges → AreDistances edges start n distances → start < length distances →
    slice_index distances start ≡ 0 → HasNoCycle edges start
HasNoCycle-from_distance n edges start distances v d h z cycle c =
    let short = short_cycle n edges start cycle v c in
    let f = (d start h).least (suc short.0) (omega arith) (omega (arith, short.1)) (short.3.0, LeadsBy-from_IsWalk edges start (suc short.0) start short.3.0 short.3.1) in
    let nothing : ⊥ = omega (arith, f.0) in nothing

-- where every cycle goes through the start and none does, there is none
pub IsAcyclic-from_start : (edges : Edges) (start : ℕ) → EachCycleMeets edges start → HasNoCycle edges start → IsAcyclic edges
IsAcyclic-from_start edges start meets none a cycle c =
    let found = cycle-from_member edges a start cycle c (IsIn-from_Contains start cycle (meets a cycle c)) in none found.0 found.1

-- the same by the distances
pub IsAcyclic-from_distance : (n : ℕ) (edges : Edges) (start distance : ℕ) (distances : List ℕ) → AreVertices n edges → EachCycleMeets edges start → AreDistances edges start n distances →
    start < length distances → distance ≡ get_or distances start distance → distance ≡ 0 → IsAcyclic edges
IsAcyclic-from_distance n edges start distance distances v meets d h r z =
    IsAcyclic-from_start edges start meets (HasNoCycle-from_distance n edges start distances v d h (sym (get_or_read distances start distance h r 0) ∙ z))
