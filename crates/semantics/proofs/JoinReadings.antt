-- The reading of a set of joins, and of the set with one more.
use Rattle.std.proofs.Common.{◌≡◌, ℕ, ◌+◌, ◌<◌, inl, inr, List, [], ◌∷◌, length, filter_map, true, if◌then◌else◌, Some, None, refl, sym, subst, arith}
use Rattle.std.specs.List.{enumerate_from}
use Rattle.std.proofs.lemmas.Bool.{cond-true}
use Rattle.semantics.specs.Joins.{Join, reads_output}
use Rattle.semantics.specs.Histories.{DeclaredJoin}
use Rattle.semantics.specs.Graphs.{Edges, reads, AreVertices}
use Rattle.semantics.specs.States.{reading}
use Rattle.semantics.specs.Verdicts.{joined}
use Rattle.semantics.proofs.Members.{IsIn, IsIn-flat_map, IsIn-from_flat_map, IsIn-filter_map, IsIn-from_filter_map, IsIn-from_enumerate, IsIn-enumerate_front}
use Rattle.semantics.proofs.GraphReadings.{edge-from_reads, reads-from_edge}
use Rattle.semantics.proofs.JoinSets.{test-from_Some}

-- an edge of a reading: a numbered join that reads another
pub record IsReading (joins : List DeclaredJoin) (e : ℕ × ℕ) : Type 0 where
  pub reader : DeclaredJoin
  pub read : DeclaredJoin
  pub reader_in : IsIn (e.0, reader) (enumerate_from 0 joins)
  pub read_in : IsIn (e.1, read) (enumerate_from 0 joins)
  pub reads_it : reads_output reader.join read.join ≡ true

-- what an edge of the reading says
pub IsReading-from_edge : (joins : List DeclaredJoin) (e : ℕ × ℕ) → IsIn e (reading joins) → IsReading joins e
unfolding reading
IsReading-from_edge joins e m =
    let outer = IsIn-from_flat_map (λ a. filter_map (λ b. if reads_output a.1.join b.1.join then Some (a.0, b.0) else None) (enumerate_from 0 joins)) e (enumerate_from 0 joins) m in
    let inner = IsIn-from_filter_map (λ b. if reads_output outer.0.1.join b.1.join then Some (outer.0.0, b.0) else None) e (enumerate_from 0 joins) outer.2 in
    let told = test-from_Some (reads_output outer.0.1.join inner.0.1.join) (outer.0.0, inner.0.0) e inner.2 in
    subst (λ f. IsReading joins f) (sym told.1) (record { reader = outer.0.1; read = inner.0.1; reader_in = outer.1; read_in = inner.1; reads_it = told.0 })

-- a numbered join that reads another makes an edge
pub edge-from_IsReading : (joins : List DeclaredJoin) (e : ℕ × ℕ) → IsReading joins e → IsIn e (reading joins)
unfolding reading
edge-from_IsReading joins e r =
    let edge = λ (a : ℕ × DeclaredJoin) (b : ℕ × DeclaredJoin). if reads_output a.1.join b.1.join then Some (a.0, b.0) else None in
    IsIn-flat_map (λ a. filter_map (edge a) (enumerate_from 0 joins)) (e.0, r.reader) e (enumerate_from 0 joins) r.reader_in
    (IsIn-filter_map (edge (e.0, r.reader)) (e.1, r.read) e (enumerate_from 0 joins)
    (cond-true (reads_output r.reader.join r.read.join) (Some (e.0, e.1)) None r.reads_it) r.read_in)

-- both ends of each edge are vertices where they are so of an edge, whichever it is
AreVertices-from_IsIn : (n : ℕ) (edges : Edges) → ((e : ℕ × ℕ) → IsIn e edges → (e.0 < n) × (e.1 < n)) → AreVertices n edges
AreVertices-from_IsIn n [] h = tt
AreVertices-from_IsIn n (e ∷ edges) h = let here = h e (inl refl) in (here.0, here.1, AreVertices-from_IsIn n edges (λ f m. h f (inr m)))

-- a reading is over the numbers of its joins
pub AreVertices-reading : (joins : List DeclaredJoin) → AreVertices (length joins) (reading joins)
AreVertices-reading joins =
    AreVertices-from_IsIn (length joins) (reading joins)
    (λ e m.
    let r = IsReading-from_edge joins e m in
    let low = IsIn-from_enumerate 0 (e.0, r.reader) joins r.reader_in in
    let high = IsIn-from_enumerate 0 (e.1, r.read) joins r.read_in in
    (omega (arith, low.1), omega (arith, high.1)))

-- between earlier joins the reading with one more is as it was
pub reads-joined : (joins : List DeclaredJoin) (position : ℕ) (j : Join) (a b : ℕ) → reads (reading (joined joins position j)) a b ≡ true → a < length joins → b < length joins →
    reads (reading joins) a b ≡ true
reads-joined joins position j a b h low high =
    let found = edge-from_reads (reading (joined joins position j)) a b h in
    let e = found.0 in
    let last : List DeclaredJoin = record { position = position; join = j } ∷ [] in
    let r = IsReading-from_edge (joined joins position j) e found.1 in
    let old : IsReading joins e = record {
      reader = r.reader;
      read = r.read;
      reader_in = IsIn-enumerate_front 0 (e.0, r.reader) joins last r.reader_in (subst (λ z. z < 0 + length joins) (sym found.2) (omega arith));
      read_in = IsIn-enumerate_front 0 (e.1, r.read) joins last r.read_in (subst (λ z. z < 0 + length joins) (sym found.3) (omega arith));
      reads_it = r.reads_it;
    } in
    subst (λ z. reads (reading joins) z b ≡ true) found.2
    (subst (λ z. reads (reading joins) e.0 z ≡ true) found.3 (reads-from_edge (reading joins) e (edge-from_IsReading joins e old)))
