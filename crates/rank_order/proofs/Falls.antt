-- Readings whose edges lead down, but for those at one vertex.
use Rattle.std.proofs.Common.{◌≡◌, ◌≢◌, ℕ, suc, ◌<◌, ◌⊎◌, inl, inr, List, [], ◌∷◌, length, get_or, slice_index, Contains, true, sym, ap, subst, ◌∙◌, arith}
use Rattle.semantics.specs.Graphs.{Edges, reads, AreVertices, IsWalkTo, BeginsWith}
use Rattle.semantics.proofs.Members.{IsIn, IsIn-cases, Contains-from_IsIn}
use Rattle.semantics.proofs.GraphReadings.{edge-from_reads}
use Rattle.rank_order.specs.Answers.{EachCycleMeets}

-- an edge between vertices below n that leads down, unless it touches the start
pub record IsFall (n start : ℕ) (heights : List ℕ) (e : ℕ × ℕ) : Type 0 where
  pub reader : e.0 < n
  pub read : e.1 < n
  pub falls : e.0 ≢ start → e.1 ≢ start → slice_index heights e.1 < slice_index heights e.0

-- each edge does
abbrev pub AreFalls : ℕ → ℕ → List ℕ → Edges → Type 0
AreFalls n start heights edges = (k : ℕ) → k < length edges → IsFall n start heights (get_or edges k (0, 0))

-- what holds at each place holds of each element
each-from_get_or : {X : Type 0} (P : X → Type 0) (xs : List X) (d x : X) → ((k : ℕ) → k < length xs → P (get_or xs k d)) → IsIn x xs → P x
each-from_get_or P [] d x h m = absurd m
each-from_get_or P (y ∷ xs) d x h (inl e) = subst P (sym e) (h 0 (omega arith))
each-from_get_or P (y ∷ xs) d x h (inr m) = each-from_get_or P xs d x (λ k lt. h (suc k) (omega arith)) m

-- both ends of each edge are vertices
pub AreVertices-from_falls : (n start : ℕ) (heights : List ℕ) (edges : Edges) → AreFalls n start heights edges → AreVertices n edges
AreVertices-from_falls n start heights [] h = tt
AreVertices-from_falls n start heights (e ∷ edges) h =
    let here = h 0 (omega arith) in (here.reader, here.read, AreVertices-from_falls n start heights edges (λ k lt. h (suc k) (omega arith)))

-- a step between vertices other than the start leads down
falls-from_reads : (n start : ℕ) (heights : List ℕ) (edges : Edges) (a b : ℕ) → AreFalls n start heights edges → reads edges a b ≡ true → a ≢ start → b ≢ start →
    slice_index heights b < slice_index heights a
falls-from_reads n start heights edges a b h r p q =
    let edge = edge-from_reads edges a b r in
    let fall = each-from_get_or (IsFall n start heights) edges (0, 0) edge.0 h edge.1 in
    down (edge.0).0 (edge.0).1 fall.falls edge.2 edge.3
  where
    down : (x y : ℕ) → (x ≢ start → y ≢ start → slice_index heights y < slice_index heights x) → x ≡ a → y ≡ b → slice_index heights b < slice_index heights a
    down x y f s t = subst (λ w. slice_index heights w < slice_index heights a) t (subst (λ w. slice_index heights y < slice_index heights w) s (f (λ e. p (sym s ∙ e)) (λ e. q (sym t ∙ e))))

-- a walk that does not touch the start leads down
falls-from_walk : (n start : ℕ) (heights : List ℕ) (edges : Edges) (goal x : ℕ) (walk : List ℕ) → AreFalls n start heights edges → IsWalkTo edges goal (x ∷ walk) → goal ≢ start →
    (IsIn start (x ∷ walk) → ⊥) → slice_index heights goal < slice_index heights x
falls-from_walk n start heights edges goal x [] h l g absent = falls-from_reads n start heights edges x goal h l (λ e. absent (inl (sym e))) g
falls-from_walk n start heights edges goal x (y ∷ walk) h l g absent =
    let rest = falls-from_walk n start heights edges goal y walk h l.1 g (λ m. absent (inr m)) in
    let here = falls-from_reads n start heights edges x y h l.0 (λ e. absent (inl (sym e))) (λ e. absent (inr (inl (sym e)))) in
    omega arith

-- so every cycle goes through the start
pub EachCycleMeets-from_falls : (n start : ℕ) (heights : List ℕ) (edges : Edges) → AreFalls n start heights edges → EachCycleMeets edges start
EachCycleMeets-from_falls n start heights edges h a cycle c = by_list a cycle c.begins c.closes (IsIn-cases start cycle)
  where
    by_list : (a : ℕ) (cycle : List ℕ) → BeginsWith a cycle → IsWalkTo edges a cycle → (IsIn start cycle) ⊎ (IsIn start cycle → ⊥) → Contains cycle start
    by_list a cycle b l (inl m) = Contains-from_IsIn start cycle m
    by_list a [] b l (inr absent) = absurd b
    by_list a (x ∷ walk) b l (inr absent) =
        let down = falls-from_walk n start heights edges a x walk h l (λ e. absent (inl (sym e ∙ b))) absent in
        let same = ap (slice_index heights) b in
        absurd (omega arith)
