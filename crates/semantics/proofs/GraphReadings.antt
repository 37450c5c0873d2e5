-- Which vertices are read.
use Rattle.std.proofs.Common.{length, get_or, ◌≡◌, ℕ, ◌<◌, inl, inr, [], ◌∷◌, true, ◌&&◌, eqb, refl, sym, subst, arith, eqb-true, eq-eqb}
use Rattle.std.proofs.lemmas.Bool.{and_parts, and_from}
use Rattle.semantics.specs.Graphs.{Edges, reads, read_by, vertices, AreVertices}
use Rattle.semantics.proofs.Members.{IsIn-from_get_or, IsIn, IsIn-filter, IsIn-from_filter, IsIn-range_with_len, IsIn-from_range_with_len, IsIn-from_list_any, list_any-from_IsIn}

-- what is read is joined by an edge
pub edge-from_reads : (edges : Edges) (a b : ℕ) → reads edges a b ≡ true → (e : ℕ × ℕ) × (IsIn e edges) × (e.0 ≡ a) × (e.1 ≡ b)
edge-from_reads edges a b r =
    let found = IsIn-from_list_any (λ e. eqb e.0 a && eqb e.1 b) edges r in
    let both = and_parts (eqb found.0.0 a) (eqb found.0.1 b) found.2 in
    (found.0, found.1, eqb-true found.0.0 a both.0, eqb-true found.0.1 b both.1)

-- an edge joins what is read
pub reads-from_edge : (edges : Edges) (e : ℕ × ℕ) → IsIn e edges → reads edges e.0 e.1 ≡ true
reads-from_edge edges e m =
    list_any-from_IsIn (λ f. eqb f.0 e.0 && eqb f.1 e.1) e edges (and_from (eqb e.0 e.0) (eqb e.1 e.1) (eq-eqb e.0 e.0 refl) (eq-eqb e.1 e.1 refl)) m

-- both ends of an edge are vertices
pub AreVertices-at : (n : ℕ) (edges : Edges) (e : ℕ × ℕ) → AreVertices n edges → IsIn e edges → (e.0 < n) × (e.1 < n)
AreVertices-at n [] e v m = absurd m
AreVertices-at n (f ∷ edges) e v (inl s) = subst (λ (w : ℕ × ℕ). (w.0 < n) × (w.1 < n)) (sym s) (v.0, v.1)
AreVertices-at n (f ∷ edges) e v (inr m) = AreVertices-at n edges e v.2 m

-- what reads and what is read are vertices
pub reads-below : (n : ℕ) (edges : Edges) (a b : ℕ) → AreVertices n edges → reads edges a b ≡ true → (a < n) × (b < n)
reads-below n edges a b v r =
    let found = edge-from_reads edges a b r in
    let below = AreVertices-at n edges found.0 v found.1 in
    (subst (λ w. w < n) found.2 below.0, subst (λ w. w < n) found.3 below.1)

-- a vertex that is read is among those that are read
pub IsIn-read_by : (n : ℕ) (edges : Edges) (a b : ℕ) → AreVertices n edges → reads edges a b ≡ true → IsIn b (read_by n edges a)
IsIn-read_by n edges a b v r =
    let below = reads-below n edges a b v r in
    IsIn-filter (reads edges a) b (vertices n) r (IsIn-range_with_len b 0 n (omega arith) (omega arith))

-- those among the read are read, and vertices
pub IsIn-from_read_by : (n : ℕ) (edges : Edges) (a b : ℕ) → IsIn b (read_by n edges a) → (reads edges a b ≡ true) × (b < n)
IsIn-from_read_by n edges a b m =
    let found = IsIn-from_filter (reads edges a) b (vertices n) m in
    let range = IsIn-from_range_with_len b 0 n found.1 in
    (found.0, omega arith)

-- both ends of the edge at a place are vertices
pub AreVertices-get_or : (n : ℕ) (edges : Edges) (k : ℕ) (d : ℕ × ℕ) → AreVertices n edges → k < length edges → ((get_or edges k d).0 < n) × ((get_or edges k d).1 < n)
AreVertices-get_or n edges k d v h = AreVertices-at n edges (get_or edges k d) v (IsIn-from_get_or edges k d h)
