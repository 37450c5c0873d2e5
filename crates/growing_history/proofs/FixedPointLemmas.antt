-- The state is what the joins make of the state itself: what a source reads stands below the join's rank.
use Rattle.std.proofs.Common.{◌≡◌, ℕ, zero, suc, ◌<◌, ◌⊎◌, inl, inr, ⊎_elim, List, [], ◌∷◌, length, map, true, false, cond, slice_get, slice_index, Option, Some, None, refl, sym, ap, ◌∙◌, arith}
use Rattle.std.proofs.lemmas.Bool.{cases_Bool}
use Rattle.std.proofs.lemmas.List.FromFn.{get_or-map-range_with_len}
use Rattle.std.proofs.lemmas.Option.{slice_get_within}
use Rattle.semantics.specs.Texts.{Text, Table, value_at, pairs_where}
use Rattle.semantics.specs.Patterns.{fits}
use Rattle.semantics.specs.Histories.{History, DeclaredJoin, joins_of, is_computed}
use Rattle.semantics.specs.Outputs.{out}
use Rattle.semantics.specs.Graphs.{Edges, reads, read_by, rank, IsAcyclic, AreVertices}
use Rattle.semantics.specs.States.{reading, ranks_of, below, state, IsAdmissible}
use Rattle.semantics.specs.OutputLaws.{fits_source}
use Rattle.semantics.specs.StateLaws.{DeclaresJoins}
use Rattle.semantics.proofs.Members.{IsIn, IsIn-map, IsIn-from_list_any, IsIn-from_Contains, Contains-from_IsIn}
use Rattle.semantics.proofs.GraphReadings.{reads-from_edge, IsIn-read_by}
use Rattle.semantics.proofs.GraphRanks.{greatest-ge, rank_is_one_more_lem}
use Rattle.semantics.proofs.PatternLemmas.{fits_overlap}
use Rattle.semantics.proofs.TableLemmas.{IsAscending, ascending-pairs_where, value_at-pairs_where, same_tables}
use Rattle.semantics.proofs.ChoiceLemmas.{out_reads_sources}
use Rattle.semantics.proofs.JoinReadings.{AreVertices-reading}
use Rattle.semantics.proofs.StateLemmas.{IsOutputKey, rank_of, ascending-below, ascending-state, value_at-below_elsewhere, value_at-below_is_state, value_at-state_output, value_at-state_elsewhere}
use Rattle.growing_history.specs.ReadingLaws.{ReadsAt}
use Rattle.growing_history.specs.FixedPointLaws.{IsFixedPoint, StateIsFixedPoint, FixedPointIsState}
use Rattle.growing_history.proofs.ReadingLemmas.{reading_is_overlaps_lem}

-- ---- ranks

-- without a cycle, what is read has a lesser rank
rank-read : (n : ℕ) (edges : Edges) (a b : ℕ) → AreVertices n edges → IsAcyclic edges → a < n → reads edges a b ≡ true → rank n edges b < rank n edges a
rank-read n edges a b v acyclic h r =
    let more = greatest-ge (suc (rank n edges b)) (map (λ c. suc (rank n edges c)) (read_by n edges a)) (IsIn-map (λ c. suc (rank n edges c)) b (read_by n edges a) (IsIn-read_by n edges a b v r)) in
    omega (arith, more, rank_is_one_more_lem n edges a v acyclic h)

-- the rank of a join that stands is that of its number
rank_of-number : (joins : List DeclaredJoin) (i : ℕ) → i < length joins → slice_index (ranks_of joins) i ≡ rank (length joins) (reading joins) i
rank_of-number joins i h = get_or-map-range_with_len (rank (length joins) (reading joins)) 0 (length joins) i i 0 h (omega arith)

-- a join has a greater rank than one that it reads
rank_of-read : (joins : List DeclaredJoin) (a b : ℕ) → IsAcyclic (reading joins) → ReadsAt joins a b → slice_index (ranks_of joins) b < slice_index (ranks_of joins) a
rank_of-read joins a b acyclic r =
    let edge = IsIn-from_Contains (a, b) (reading joins) ((reading_is_overlaps_lem joins a b).1 r) in
    let low = slice_get_within joins a r.reader r.reader_at in
    let high = slice_get_within joins b r.read r.read_at in
    let less = rank-read (length joins) (reading joins) a b (AreVertices-reading joins) acyclic low (reads-from_edge (reading joins) (a, b) edge) in
    omega (arith, rank_of-number joins a low, rank_of-number joins b high)

-- ---- the keys that a join reads

-- the place of a member
place_of : {X : Type 0} (x : X) (xs : List X) → IsIn x xs → (i : ℕ) × (slice_get xs i ≡ Some x)
place_of x [] m = absurd m
place_of x (y ∷ xs) (inl e) = (0, ap Some (sym e))
place_of x (y ∷ xs) (inr m) = let r = place_of x xs m in (suc r.0, r.1)

-- a key of the output of a join with a lesser rank
record IsReadKey (h : History) (i : ℕ) (key : Text) : Type 0 where
  place : ℕ
  read : DeclaredJoin
  output_key : IsOutputKey h place read key
  before : rank_of h place < rank_of h i

-- a key that a join reads is of an output of a lesser rank, or of none
read_key : (h : History) (i : ℕ) (s : DeclaredJoin) (key : Text) → IsAdmissible (joins_of h) → DeclaresJoins h → slice_get (joins_of h) i ≡ Some s →
    fits_source s.join key ≡ true → (is_computed (joins_of h) key ≡ false) ⊎ IsReadKey h i key
read_key h i s key admissible declares stands fit =
    elim (cases_Bool (is_computed (joins_of h) key)) [
      | inl e ↦ (let found = IsIn-from_list_any (λ t. fits t.join.output key) (joins_of h) e in
          let at = place_of found.0 (joins_of h) found.1 in
          let source = IsIn-from_list_any (λ p. fits p.pattern key) s.join.sources fit in
          let reading_it : ReadsAt (joins_of h) i at.0 = record {
            reader = s;
            read = found.0;
            reader_at = stands;
            read_at = at.1;
            source = source.0;
            listed = Contains-from_IsIn source.0 s.join.sources source.1;
            meets = fits_overlap source.0.pattern found.0.join.output key source.2 found.2;
          } in
          inr (record {
            place = at.0;
            read = found.0;
            output_key = record { admissible = admissible; declares = declares; stands = at.1; fit = found.2 };
            before = rank_of-read (joins_of h) i at.0 admissible.acyclic reading_it;
          }))
      | inr e ↦ inl e
    ]

-- tables that agree at the keys that a join reads give the same output
out-same : (s : DeclaredJoin) (table other : Table) → IsAscending table → IsAscending other →
    ((key : Text) → fits_source s.join key ≡ true → value_at key table ≡ value_at key other) → out s.join table ≡ out s.join other
out-same s table other ascends ascends' agree =
    out_reads_sources s.join table other
    (same_tables (pairs_where (fits_source s.join) table) (pairs_where (fits_source s.join) other)
    (ascending-pairs_where (fits_source s.join) table ascends) (ascending-pairs_where (fits_source s.join) other ascends')
    (λ key. value_at-pairs_where (fits_source s.join) key table ∙ picked s table other key agree ∙ sym (value_at-pairs_where (fits_source s.join) key other)))
  where
    by_test : (b : _) (x y : Option Text) → (b ≡ true → x ≡ y) → cond b x None ≡ cond b y None
    by_test true x y same = same refl
    by_test false x y same = refl

    picked : (s : DeclaredJoin) (table other : Table) (key : Text) → ((q : Text) → fits_source s.join q ≡ true → value_at q table ≡ value_at q other) →
        cond (fits_source s.join key) (value_at key table) None ≡ cond (fits_source s.join key) (value_at key other) None
    picked s table other key agree = by_test (fits_source s.join key) (value_at key table) (value_at key other) (agree key)

-- ---- the laws

-- over the state a join makes what it makes below its rank
out-state : (h : History) (i : ℕ) (s : DeclaredJoin) → IsAdmissible (joins_of h) → DeclaresJoins h → slice_get (joins_of h) i ≡ Some s →
    out s.join (below h (rank_of h i)) ≡ out s.join (state h)
out-state h i s admissible declares stands =
    out-same s (below h (rank_of h i)) (state h) (ascending-below h (rank_of h i)) (ascending-state h)
    (λ key fit. ⊎_elim
    (λ e. value_at-below_elsewhere h (rank_of h i) key declares e ∙ sym (value_at-state_elsewhere h key declares e))
    (λ r. value_at-below_is_state h (rank_of h i) r.place r.read key r.output_key r.before)
    (read_key h i s key admissible declares stands fit))

-- the state is a fixed point
pub state_is_fixed_point_lem : StateIsFixedPoint
state_is_fixed_point_lem h admissible declares = record {
  of_output = λ place s key stands fit.
      value_at-state_output h place s key (record { admissible = admissible; declares = declares; stands = stands; fit = fit })
      ∙ ap (value_at key) (out-state h place s admissible declares stands);
  elsewhere = λ key e. value_at-state_elsewhere h key declares e;
}

-- a fixed point has the state's values at the keys of outputs of the ranks below any one
same-below : (h : History) (table : Table) → IsAdmissible (joins_of h) → DeclaresJoins h → IsAscending table → IsFixedPoint h table →
    (r i : ℕ) (s : DeclaredJoin) (key : Text) → IsOutputKey h i s key → rank_of h i < r → value_at key table ≡ value_at key (state h)
same-below h table admissible declares ascends fixed zero i s key o less = absurd (omega arith)
same-below h table admissible declares ascends fixed (suc r) i s key o less =
    let own = state_is_fixed_point_lem h admissible declares in
    fixed.of_output i s key o.stands o.fit
    ∙ ap (value_at key) (out-same s table (state h) ascends (ascending-state h)
    (λ q fit. ⊎_elim
    (λ e. fixed.elsewhere q e ∙ sym (own.elsewhere q e))
    (λ k. let before = k.before in same-below h table admissible declares ascends fixed r k.place k.read q k.output_key (omega arith))
    (read_key h i s q admissible declares o.stands fit)))
    ∙ sym (own.of_output i s key o.stands o.fit)

-- no other table with ascending keys is a fixed point
pub fixed_point_is_state_lem : FixedPointIsState
fixed_point_is_state_lem h table admissible declares ascends fixed =
    same_tables table (state h) ascends (ascending-state h) (at_key h table admissible declares ascends fixed)
  where
    at_key : (h : History) (table : Table) → IsAdmissible (joins_of h) → DeclaresJoins h → IsAscending table → IsFixedPoint h table → (q : Text) → value_at q table ≡ value_at q (state h)
    at_key h table admissible declares ascends fixed q =
        elim (cases_Bool (is_computed (joins_of h) q)) [
          | inl e ↦ (let found = IsIn-from_list_any (λ t. fits t.join.output q) (joins_of h) e in
              let at = place_of found.0 (joins_of h) found.1 in
              same-below h table admissible declares ascends fixed (suc (rank_of h at.0)) at.0 found.0 q
              (record { admissible = admissible; declares = declares; stands = at.1; fit = found.2 }) (omega arith))
          | inr e ↦ fixed.elsewhere q e ∙ sym (value_at-state_elsewhere h q declares e)
        ]
