-- A part of a list, and the graph of a part of a set of joins: no cycle comes in, and no rank grows.
use Rattle.std.proofs.Common.{◌≡◌, ℕ, zero, suc, ◌+◌, ◌-◌, ◌<◌, ◌≤◌, inl, inr, List, [], ◌∷◌, length, map, filter, Bool, true, false, cond, slice_get, Some, None, refl, sym, ap, subst, ◌∙◌, arith}
use Rattle.std.specs.List.{AllByRecursion, enumerate_from}
use Rattle.std.proofs.lemmas.Option.{none-some, same_Some, slice_get_within}
use Rattle.semantics.specs.Patterns.{overlaps}
use Rattle.semantics.specs.Histories.{DeclaredJoin}
use Rattle.semantics.specs.Graphs.{Edges, reads, read_by, greatest, vertices, rank_within, rank, IsWalkTo, BeginsWith, IsCycle, IsAcyclic, AreVertices}
use Rattle.semantics.specs.States.{reading, ranks_of, AreApart, KeepsRules, IsAdmissible}
use Rattle.semantics.proofs.Members.{IsIn, IsIn-map, IsIn-from_map, IsIn-range_with_len, IsIn-from_range_with_len, AllByRecursion-at, AllByRecursion-from_IsIn}
use Rattle.semantics.proofs.GraphReadings.{edge-from_reads, reads-from_edge, reads-below, IsIn-read_by, IsIn-from_read_by}
use Rattle.semantics.proofs.GraphRanks.{greatest-le, greatest-ge}
use Rattle.semantics.proofs.JoinReadings.{IsReading, IsReading-from_edge, edge-from_IsReading, AreVertices-reading}

-- ---- places in a part

-- a list is a part of another, in order: where each of its places lies in the other
pub record IsPart {X : Type 0} (part whole : List X) : Type 0 where
  pub place : ℕ → ℕ
  pub same : (i : ℕ) (x : X) → slice_get part i ≡ Some x → slice_get whole (place i) ≡ Some x
  pub order : (i k : ℕ) → i < k → place i < place k

-- the places where one element more stands in front of both
abbrev past_both : (ℕ → ℕ) → ℕ → ℕ
past_both place zero = zero
past_both place (suc i) = suc (place i)

part_both : {X : Type 0} (x : X) (part whole : List X) → IsPart part whole → IsPart (x ∷ part) (x ∷ whole)
part_both x part whole p = record { place = past_both p.place; same = same; order = order }
  where
    same : (i : ℕ) (y : _) → slice_get (x ∷ part) i ≡ Some y → slice_get (x ∷ whole) (past_both p.place i) ≡ Some y
    same zero y at = at
    same (suc i) y at = p.same i y at

    order : (i k : ℕ) → i < k → past_both p.place i < past_both p.place k
    order i zero less = absurd (omega arith)
    order zero (suc k) less = omega arith
    order (suc i) (suc k) less = let l = p.order i k (omega arith) in omega (arith, l)

part_past : {X : Type 0} (x : X) (part whole : List X) → IsPart part whole → IsPart part (x ∷ whole)
part_past x part whole p = record {
  place = λ i. suc (p.place i);
  same = p.same;
  order = λ i k less. let l = p.order i k less in omega (arith, l);
}

part_nil : {X : Type 0} (whole : List X) → IsPart [] whole
part_nil whole = record { place = λ i. i; same = λ i x at. absurd (none-some x at); order = λ i k less. less }

-- those that pass a test are a part
pub part_filter : {X : Type 0} (test : X → Bool) (xs : List X) → IsPart (filter test xs) xs
part_filter test [] = part_nil []
part_filter test (x ∷ xs) = by (test x) (part_filter test xs)
  where
    by : (b : Bool) → IsPart (filter test xs) xs → IsPart (cond b (x ∷ filter test xs) (filter test xs)) (x ∷ xs)
    by true rest = part_both x (filter test xs) xs rest
    by false rest = part_past x (filter test xs) xs rest

-- ---- readings

-- a numbered element stands at its number
at_from_enumerate : {X : Type 0} (a : ℕ) (p : ℕ × X) (xs : List X) → IsIn p (enumerate_from a xs) → (k : ℕ) × (p.0 ≡ a + k) × (slice_get xs k ≡ Some p.1)
at_from_enumerate a p [] m = absurd m
at_from_enumerate {X} a p (x ∷ xs) (inl e) = (0, ap (λ (q : ℕ × X). q.0) e ∙ omega arith, ap (λ (q : ℕ × X). Some q.1) (sym e))
at_from_enumerate a p (x ∷ xs) (inr m) = let r = at_from_enumerate (a + 1) p xs m in (suc r.0, omega (arith, r.1), r.2)

-- an element at a place stands with its number
enumerate_from_at : {X : Type 0} (a k : ℕ) (x : X) (xs : List X) → slice_get xs k ≡ Some x → IsIn (a + k, x) (enumerate_from a xs)
enumerate_from_at a k x [] at = absurd (none-some x at)
enumerate_from_at a zero x (y ∷ xs) at = let e : y ≡ x = same_Some y x at in let z : a + 0 ≡ a = omega arith in inl (λ i. (z i, sym e i))
enumerate_from_at {X} a (suc k) x (y ∷ xs) at =
    let e : a + 1 + k ≡ a + suc k = omega arith in
    inr (subst (λ (n : ℕ). IsIn (n, x) (enumerate_from (a + 1) xs)) e (enumerate_from_at (a + 1) k x xs at))

-- an element at a place stands with its place
numbered_at : {X : Type 0} (k : ℕ) (x : X) (xs : List X) → slice_get xs k ≡ Some x → IsIn (k, x) (enumerate_from 0 xs)
numbered_at k x xs at = let e : 0 + k ≡ k = omega arith in subst (λ (n : ℕ). IsIn (n, x) (enumerate_from 0 xs)) e (enumerate_from_at 0 k x xs at)

-- what reads in a part reads in the whole
pub reads-part : (part whole : List DeclaredJoin) (p : IsPart part whole) (a b : ℕ) → reads (reading part) a b ≡ true → reads (reading whole) (p.place a) (p.place b) ≡ true
reads-part part whole p a b h =
    let found = edge-from_reads (reading part) a b h in
    let e = found.0 in
    let r = IsReading-from_edge part e found.1 in
    let reader = at_from_enumerate 0 (e.0, r.reader) part r.reader_in in
    let read = at_from_enumerate 0 (e.1, r.read) part r.read_in in
    let low : reader.0 ≡ a = omega (arith, reader.1, found.2) in
    let high : read.0 ≡ b = omega (arith, read.1, found.3) in
    let edge : IsReading whole (p.place a, p.place b) = record {
      reader = r.reader;
      read = r.read;
      reader_in = numbered_at (p.place a) r.reader whole (p.same a r.reader (ap (slice_get part) (sym low) ∙ reader.2));
      read_in = numbered_at (p.place b) r.read whole (p.same b r.read (ap (slice_get part) (sym high) ∙ read.2));
      reads_it = r.reads_it;
    } in
    reads-from_edge (reading whole) (p.place a, p.place b) (edge-from_IsReading whole (p.place a, p.place b) edge)

-- ---- graphs within graphs

-- what reads in a graph reads in another, under a map of the vertices
abbrev Goes : (ℕ → ℕ) → Edges → Edges → Type 0
Goes f edges others = (a b : ℕ) → reads edges a b ≡ true → reads others (f a) (f b) ≡ true

walk_goes : (f : ℕ → ℕ) (edges others : Edges) (goal : ℕ) (walk : List ℕ) → Goes f edges others → IsWalkTo edges goal walk → IsWalkTo others (f goal) (map f walk)
walk_goes f edges others goal [] goes l = l
walk_goes f edges others goal (a ∷ []) goes l = goes a goal l
walk_goes f edges others goal (a ∷ b ∷ walk) goes l = (goes a b l.0, walk_goes f edges others goal (b ∷ walk) goes l.1)

begins_goes : (f : ℕ → ℕ) (start : ℕ) (walk : List ℕ) → BeginsWith start walk → BeginsWith (f start) (map f walk)
begins_goes f start [] b = b
begins_goes f start (a ∷ walk) b = ap f b

-- a graph that goes into one without a cycle has none
pub acyclic_goes : (f : ℕ → ℕ) (edges others : Edges) → Goes f edges others → IsAcyclic others → IsAcyclic edges
acyclic_goes f edges others goes none start cycle c =
    none (f start) (map f cycle) (record { begins = begins_goes f start cycle c.begins; closes = walk_goes f edges others start cycle goes c.closes })

-- looking deeper finds no lesser rank
deeper_more : (deeper n : ℕ) (edges : Edges) (a : ℕ) → rank_within deeper n edges a ≤ rank_within (suc deeper) n edges a
deeper_more zero n edges a = omega arith
deeper_more (suc deeper) n edges a =
    greatest-le (rank_within (suc (suc deeper)) n edges a) (map (λ b. suc (rank_within deeper n edges b)) (read_by n edges a))
    (λ x m. let r = IsIn-from_map (λ b. suc (rank_within deeper n edges b)) x (read_by n edges a) m in
    let more = deeper_more deeper n edges r.0 in
    let up = greatest-ge (suc (rank_within (suc deeper) n edges r.0)) (map (λ b. suc (rank_within (suc deeper) n edges b)) (read_by n edges a)) (IsIn-map (λ b. suc (rank_within (suc deeper) n edges b)) r.0 (read_by n edges a) r.1) in
    omega (arith, r.2, more, up))

deepest_more : (less more n : ℕ) (edges : Edges) (a : ℕ) → rank_within less n edges a ≤ rank_within (less + more) n edges a
deepest_more less zero n edges a = let e : less + 0 ≡ less = omega arith in let s = ap (λ d. rank_within d n edges a) e in omega (arith, s)
deepest_more less (suc more) n edges a =
    let e : less + suc more ≡ suc (less + more) = omega arith in
    let s = ap (λ d. rank_within d n edges a) e in
    let one = deepest_more less more n edges a in
    let two = deeper_more (less + more) n edges a in
    omega (arith, s, one, two)

-- a rank that is looked for as deep is no greater than where the graph goes
rank_goes_within : (f : ℕ → ℕ) (deeper n m : ℕ) (edges others : Edges) (a : ℕ) → AreVertices m others → Goes f edges others → rank_within deeper n edges a ≤ rank_within deeper m others (f a)
rank_goes_within f zero n m edges others a are goes = omega arith
rank_goes_within f (suc deeper) n m edges others a are goes =
    greatest-le (rank_within (suc deeper) m others (f a)) (map (λ b. suc (rank_within deeper n edges b)) (read_by n edges a))
    (λ x k. let r = IsIn-from_map (λ b. suc (rank_within deeper n edges b)) x (read_by n edges a) k in
    let read = IsIn-from_read_by n edges a r.0 r.1 in
    let there = IsIn-read_by m others (f a) (f r.0) are (goes a r.0 read.0) in
    let rest = rank_goes_within f deeper n m edges others r.0 are goes in
    let up = greatest-ge (suc (rank_within deeper m others (f r.0))) (map (λ b. suc (rank_within deeper m others b)) (read_by m others (f a))) (IsIn-map (λ b. suc (rank_within deeper m others b)) (f r.0) (read_by m others (f a)) there) in
    omega (arith, r.2, rest, up))

-- no rank is greater than where the graph goes
pub rank_goes : (f : ℕ → ℕ) (n m : ℕ) (edges others : Edges) (a : ℕ) → n ≤ m → AreVertices m others → Goes f edges others → rank n edges a ≤ rank m others (f a)
unfolding rank
rank_goes f n m edges others a up are goes =
    let rest : m ≡ n + (m - n) = omega arith in
    let one = rank_goes_within f n n m edges others a are goes in
    let two = deepest_more n (m - n) m others (f a) in
    let s = ap (λ d. rank_within d m others (f a)) rest in
    omega (arith, one, two, s)

-- ---- sets

-- a part has at most as many elements
length-filter_le : {X : Type 0} (test : X → Bool) (xs : List X) → length (filter test xs) ≤ length xs
length-filter_le test [] = omega arith
length-filter_le test (x ∷ xs) = by (test x) (length-filter_le test xs)
  where
    by : (b : Bool) → length (filter test xs) ≤ length xs → length (cond b (x ∷ filter test xs) (filter test xs)) ≤ suc (length xs)
    by true l = omega (arith, l)
    by false l = omega (arith, l)

-- what holds of each holds of those that pass
pub all_filter : {X : Type 0} (P : X → Type 0) (test : X → Bool) (xs : List X) → AllByRecursion P xs → AllByRecursion P (filter test xs)
all_filter P test [] all = tt
all_filter P test (x ∷ xs) all = by (test x) (all_filter P test xs all.1)
  where
    by : (b : Bool) → AllByRecursion P (filter test xs) → AllByRecursion P (cond b (x ∷ filter test xs) (filter test xs))
    by true rest = (all.0, rest)
    by false rest = rest

apart_filter : (test : DeclaredJoin → Bool) (joins : List DeclaredJoin) → AreApart joins → AreApart (filter test joins)
apart_filter test [] apart = tt
apart_filter test (s ∷ joins) apart = by (test s) (apart_filter test joins apart.1)
  where
    by : (b : Bool) → AreApart (filter test joins) → AreApart (cond b (s ∷ filter test joins) (filter test joins))
    by true rest = (all_filter (λ other. overlaps s.join.output other.join.output ≡ false) test joins apart.0, rest)
    by false rest = rest

-- a part of an admissible set is admissible
pub filtered_is_admissible : (test : DeclaredJoin → Bool) (joins : List DeclaredJoin) → IsAdmissible joins → IsAdmissible (filter test joins)
filtered_is_admissible test joins a =
    let p = part_filter test joins in
    let few = length-filter_le test joins in
    let goes = reads-part (filter test joins) joins p in
    record {
      rules = all_filter (λ s. KeepsRules s.join) test joins a.rules;
      apart = apart_filter test joins a.apart;
      acyclic = acyclic_goes p.place (reading (filter test joins)) (reading joins) goes a.acyclic;
      shallow = AllByRecursion-from_IsIn (λ r. r ≤ 7) (ranks_of (filter test joins))
          (λ r m.
          let n = length (filter test joins) in
          let w = IsIn-from_map (rank n (reading (filter test joins))) r (vertices n) m in
          let less = IsIn-from_range_with_len w.0 0 n w.1 in
          let at = slice_get_some (filter test joins) w.0 (omega (arith, less.1)) in
          let there = slice_get_within joins (p.place w.0) at.0 (p.same w.0 at.0 at.1) in
          let up = rank_goes p.place n (length joins) (reading (filter test joins)) (reading joins) w.0 few (AreVertices-reading joins) goes in
          let high = AllByRecursion-at (λ r. r ≤ 7) (rank (length joins) (reading joins) (p.place w.0)) (ranks_of joins) a.shallow
          (IsIn-map (rank (length joins) (reading joins)) (p.place w.0) (vertices (length joins)) (IsIn-range_with_len (p.place w.0) 0 (length joins) (omega arith) (omega (arith, there)))) in
          omega (arith, w.2, up, high));
      few = let f : length joins ≤ 64 = a.few in omega (arith, few, f);
    }
  where
    slice_get_some : {X : Type 0} (xs : List X) (i : ℕ) → i < length xs → (x : X) × (slice_get xs i ≡ Some x)
    slice_get_some [] i less = absurd (omega arith)
    slice_get_some (x ∷ xs) zero less = (x, refl)
    slice_get_some (x ∷ xs) (suc i) less = slice_get_some xs i (omega arith)
