-- Ranks one edge deeper: what a round over the edges finds, and when the rounds may end.
use Rattle.std.proofs.Common.{◌≡◌, ℕ, zero, suc, ◌+◌, ◌<◌, ◌≤◌, ◌⊎◌, inl, inr, List, [], ◌∷◌, ◌++◌, length, map, filter, fold, max, set, get_or, take, replicate, All, Bool, true, false, cond, eqb, ne_eqb, eqb-true, eq-eqb, slice_index, refl, sym, ap, ap₂, subst, ◌∙◌, arith, le_antisymm, length-set, get_or-set_other, get_or-set_same, append-nil, ◌-◌, Less, Equal, Greater, nat_cmp, is_lt, ltb, ltb-true, ltb-false}
use Rattle.std.specs.Ordering.{ord_max}
use Rattle.std.specs.List.{range_with_len}
use Rattle.std.proofs.lemmas.Bool.{cases_Bool, cases_eq, cond-true, cond-false}
use Rattle.std.proofs.lemmas.List.{take_more, get_or_read}
use Rattle.std.proofs.lemmas.List.Elements.{All-map, filter-append}
use Rattle.std.proofs.lemmas.List.FromFn.{get_or-map-range_with_len, length-map-range_with_len}
use Rattle.semantics.specs.Graphs.{Edges, reads, read_by, vertices, greatest, rank_within, rank, ranks, AreVertices}
use Rattle.semantics.proofs.Members.{IsIn, IsIn-map, IsIn-from_map, IsIn-filter, IsIn-from_filter, map-same}
use Rattle.semantics.proofs.GraphReadings.{edge-from_reads, reads-from_edge, IsIn-read_by, IsIn-from_read_by, AreVertices-get_or}
use Rattle.semantics.proofs.GraphRanks.{greatest-le, greatest-ge, rank_within-le}
use Rattle.rank_order.specs.Raises.{raised_at, raised}

-- lists with the same elements have the same greatest
pub greatest-same : (xs ys : List ℕ) → ((x : ℕ) → IsIn x xs → IsIn x ys) → ((y : ℕ) → IsIn y ys → IsIn y xs) → greatest xs ≡ greatest ys
greatest-same xs ys f g =
    le_antisymm (greatest-le (greatest ys) xs (λ x m. greatest-ge x ys (f x m))) (greatest-le (greatest xs) ys (λ y m. greatest-ge y xs (g y m)))

-- the fold over one more
fold_max-push : (a : ℕ) (xs : List ℕ) (x : ℕ) → fold max a (xs ++ x ∷ []) ≡ max (fold max a xs) x
fold_max-push a [] x = refl
fold_max-push a (y ∷ xs) x = fold_max-push (max a y) xs x

-- one more than what stands at the ends of the edges from a vertex
abbrev pub over : List ℕ → ℕ → Edges → List ℕ
over numbers a es = map (λ e. suc (slice_index numbers e.1)) (filter (λ e. eqb e.0 a) es)

-- each vertex has the greatest over the edges that were looked at
pub record IsRaised (numbers : List ℕ) (done : Edges) (found : List ℕ) : Type 0 where
  pub same : length found ≡ length numbers
  pub each : (a : ℕ) → a < length numbers → slice_index found a ≡ greatest (over numbers a done)

-- a map over one more
map-push : {X Y : Type 0} (f : X → Y) (xs : List X) (x : X) → map f (xs ++ x ∷ []) ≡ map f xs ++ f x ∷ []
map-push f [] x = refl
map-push f (y ∷ xs) x = ap (λ ys. f y ∷ ys) (map-push f xs x)

-- an edge from the vertex counts
over-push : (numbers : List ℕ) (a : ℕ) (done : Edges) (e : ℕ × ℕ) → e.0 ≡ a → over numbers a (done ++ e ∷ []) ≡ over numbers a done ++ suc (slice_index numbers e.1) ∷ []
over-push numbers a done e s =
    let one : filter (λ (f : ℕ × ℕ). eqb f.0 a) (e ∷ []) ≡ e ∷ [] = cond-true (eqb e.0 a) (e ∷ []) [] (eq-eqb e.0 a s) in
    ap (map (λ (f : ℕ × ℕ). suc (slice_index numbers f.1))) (filter-append (λ (f : ℕ × ℕ). eqb f.0 a) done (e ∷ []) ∙ ap (λ es. filter (λ (f : ℕ × ℕ). eqb f.0 a) done ++ es) one)
    ∙ map-push (λ (f : ℕ × ℕ). suc (slice_index numbers f.1)) (filter (λ (f : ℕ × ℕ). eqb f.0 a) done) e

-- an edge from elsewhere does not
over-push_other : (numbers : List ℕ) (a : ℕ) (done : Edges) (e : ℕ × ℕ) → (e.0 ≡ a → ⊥) → over numbers a (done ++ e ∷ []) ≡ over numbers a done
over-push_other numbers a done e ne =
    let one : filter (λ (f : ℕ × ℕ). eqb f.0 a) (e ∷ []) ≡ [] = cond-false (eqb e.0 a) (e ∷ []) [] (ne_eqb e.0 a ne) in
    ap (map (λ (f : ℕ × ℕ). suc (slice_index numbers f.1)))
    (filter-append (λ (f : ℕ × ℕ). eqb f.0 a) done (e ∷ []) ∙ ap (λ es. filter (λ (f : ℕ × ℕ). eqb f.0 a) done ++ es) one ∙ append-nil (filter (λ (f : ℕ × ℕ). eqb f.0 a) done))

-- the step of the loop over the edges
pub IsRaised-more : (numbers : List ℕ) (edges : Edges) (i number : ℕ) (found : List ℕ) → i < length edges → AreVertices (length numbers) edges → IsRaised numbers (take i edges) found →
    number ≡ max (slice_index found (get_or edges i (0, 0)).0) (suc (slice_index numbers (get_or edges i (0, 0)).1)) →
    IsRaised numbers (take (i + 1) edges) (set found (get_or edges i (0, 0)).0 number)
IsRaised-more numbers edges i number found h v r same =
    let e = get_or edges i (0, 0) in
    let ends = AreVertices-get_or (length numbers) edges i (0, 0) v h in
    subst (λ done. IsRaised numbers done (set found e.0 number)) (sym (take_more edges i (0, 0) h))
    (pushed numbers (take i edges) e found number ends.0 r same)
  where
    pushed : (numbers : List ℕ) (done : Edges) (e : ℕ × ℕ) (found : List ℕ) (number : ℕ) → e.0 < length numbers → IsRaised numbers done found →
        number ≡ max (slice_index found e.0) (suc (slice_index numbers e.1)) → IsRaised numbers (done ++ e ∷ []) (set found e.0 number)
    pushed numbers done e found number below r same =
        record { same = length-set {A = ℕ} found e.0 number ∙ r.same; each = λ a k. at numbers done e found number below r same a k (cases_eq e.0 a) }
      where
        at : (numbers : List ℕ) (done : Edges) (e : ℕ × ℕ) (found : List ℕ) (number : ℕ) → e.0 < length numbers → IsRaised numbers done found →
            number ≡ max (slice_index found e.0) (suc (slice_index numbers e.1)) → (a : ℕ) → a < length numbers → (e.0 ≡ a) ⊎ (e.0 ≡ a → ⊥) →
            slice_index (set found e.0 number) a ≡ greatest (over numbers a (done ++ e ∷ []))
        at numbers done e found number below r same a k (inl s) =
            let in' : e.0 < length found = omega (arith, r.same) in
            let here : slice_index (set found e.0 number) a ≡ number = subst (λ w. slice_index (set found e.0 number) w ≡ number) s (get_or-set_same found e.0 number 0 in') in
            let old : slice_index found e.0 ≡ greatest (over numbers a done) = subst (λ w. slice_index found w ≡ greatest (over numbers a done)) (sym s) (r.each a k) in
            here ∙ same ∙ ap (λ w. max w (suc (slice_index numbers e.1))) old ∙ sym (fold_max-push 0 (over numbers a done) (suc (slice_index numbers e.1))) ∙ ap greatest (sym (over-push numbers a done e s))
        at numbers done e found number below r same a k (inr ne) =
            get_or-set_other found e.0 a number 0 (λ s. ne (sym s)) ∙ r.each a k ∙ ap greatest (sym (over-push_other numbers a done e ne))

-- over all edges the greatest is that over the vertices that are read
raised_at-from_over : (edges : Edges) (numbers : List ℕ) (a : ℕ) → AreVertices (length numbers) edges → greatest (over numbers a edges) ≡ raised_at (length numbers) edges numbers a
raised_at-from_over edges numbers a v =
    greatest-same (over numbers a edges) (map (λ b. suc (slice_index numbers b)) (read_by (length numbers) edges a))
    (λ x m.
    let made = IsIn-from_map (λ (e : ℕ × ℕ). suc (slice_index numbers e.1)) x (filter (λ (e : ℕ × ℕ). eqb e.0 a) edges) m in
    let found = IsIn-from_filter (λ (e : ℕ × ℕ). eqb e.0 a) made.0 edges made.1 in
    let read = subst (λ w. reads edges w made.0.1 ≡ true) (eqb-true made.0.0 a found.0) (reads-from_edge edges made.0 found.1) in
    subst (λ w. IsIn w (map (λ b. suc (slice_index numbers b)) (read_by (length numbers) edges a))) (sym made.2)
    (IsIn-map (λ b. suc (slice_index numbers b)) made.0.1 (read_by (length numbers) edges a) (IsIn-read_by (length numbers) edges a made.0.1 v read)))
    (λ y m.
    let made = IsIn-from_map (λ b. suc (slice_index numbers b)) y (read_by (length numbers) edges a) m in
    let read = IsIn-from_read_by (length numbers) edges a made.0 made.1 in
    let edge = edge-from_reads edges a made.0 read.0 in
    subst (λ w. IsIn w (over numbers a edges)) (ap (λ b. suc (slice_index numbers b)) edge.3 ∙ sym made.2)
    (IsIn-map (λ (e : ℕ × ℕ). suc (slice_index numbers e.1)) edge.0 (filter (λ (e : ℕ × ℕ). eqb e.0 a) edges)
    (IsIn-filter (λ (e : ℕ × ℕ). eqb e.0 a) edge.0 edges (eq-eqb edge.0.0 a edge.2) edge.1)))

-- lists of one length that agree at each place are one
same_list : (xs ys : List ℕ) → length xs ≡ length ys → ((a : ℕ) → a < length xs → slice_index xs a ≡ slice_index ys a) → xs ≡ ys
same_list [] [] e h = refl
same_list [] (y ∷ ys) e h = absurd (omega arith)
same_list (x ∷ xs) [] e h = absurd (omega arith)
same_list (x ∷ xs) (y ∷ ys) e h = ap₂ (λ z zs. z ∷ zs) (h 0 (omega arith)) (same_list xs ys (omega arith) (λ a k. h (suc a) (omega arith)))

-- after a round over all edges each vertex has what `raised` says
pub raised-from_IsRaised : (edges : Edges) (numbers found : List ℕ) → AreVertices (length numbers) edges → IsRaised numbers edges found → found ≡ raised (length numbers) edges numbers
raised-from_IsRaised edges numbers found v r =
    let n = length numbers in
    same_list found (raised n edges numbers) (r.same ∙ sym (length-map-range_with_len (raised_at n edges numbers) 0 n))
    (λ a k.
    let below : a < n = omega (arith, r.same) in
    r.each a below ∙ raised_at-from_over edges numbers a v ∙ sym (get_or-map-range_with_len (raised_at n edges numbers) 0 n a a 0 below (omega arith)))

-- ---- the rounds

-- the ranks looked for so many edges deep, of all vertices
abbrev pub ranks_within : ℕ → ℕ → Edges → List ℕ
ranks_within deeper n edges = map (rank_within deeper n edges) (vertices n)

-- no edge deep each rank is 0
pub ranks_within-zero : (n : ℕ) (edges : Edges) → replicate n 0 ≡ ranks_within 0 n edges
ranks_within-zero n edges = from n edges 0 n
  where
    from : (n : ℕ) (edges : Edges) (a k : ℕ) → replicate k 0 ≡ map (rank_within 0 n edges) (range_with_len a k)
    from n edges a zero = refl
    from n edges a (suc k) = ap (λ xs. 0 ∷ xs) (from n edges (a + 1) k)

-- a round goes one edge deeper
pub raised-ranks_within : (deeper n : ℕ) (edges : Edges) → raised n edges (ranks_within deeper n edges) ≡ ranks_within (suc deeper) n edges
raised-ranks_within deeper n edges =
    map-same (raised_at n edges (ranks_within deeper n edges)) (rank_within (suc deeper) n edges) (vertices n)
    (λ a _. ap greatest (map-same (λ b. suc (slice_index (ranks_within deeper n edges) b)) (λ b. suc (rank_within deeper n edges b)) (read_by n edges a)
    (λ b m. let read = IsIn-from_read_by n edges a b m in
    ap suc (get_or-map-range_with_len (rank_within deeper n edges) 0 n b b 0 read.1 (omega arith)))))

-- where a round changes nothing no further one does
pub ranks_within-stays : (deeper more n : ℕ) (edges : Edges) → ranks_within (suc deeper) n edges ≡ ranks_within deeper n edges → ranks_within (deeper + more) n edges ≡ ranks_within deeper n edges
ranks_within-stays deeper zero n edges e = let same : deeper + 0 ≡ deeper = omega arith in ap (λ k. ranks_within k n edges) same
ranks_within-stays deeper (suc more) n edges e =
    let same : deeper + suc more ≡ suc (deeper + more) = omega arith in
    ap (λ k. ranks_within k n edges) same ∙ sym (raised-ranks_within (deeper + more) n edges) ∙ ap (raised n edges) (ranks_within-stays deeper more n edges e) ∙ raised-ranks_within deeper n edges ∙ e

-- n edges deep the ranks are found
pub ranks-from_ranks_within : (n : ℕ) (edges : Edges) → ranks_within n n edges ≡ ranks n edges
unfolding rank
ranks-from_ranks_within n edges = refl

-- ranks are below n while fewer rounds were made
pub All-ranks_within : (deeper n : ℕ) (edges : Edges) → deeper < n → All (λ r. r < n) (ranks_within deeper n edges)
All-ranks_within deeper n edges h =
    All-map (λ r. r < n) (rank_within deeper n edges) (vertices n) (λ k d _. let upto = rank_within-le deeper n edges (get_or (vertices n) k d) in omega arith)

-- the greater of two numbers, by their order
pub ord_max-nat : (a b : ℕ) → ord_max nat_cmp a b ≡ max a b
ord_max-nat a b =
    elim (cases_Bool (ltb b a)) [
      | inl t ↦ (let lt = ltb-true b a t in let same : a ≡ max a b = omega arith in
          cond-true (is_lt (nat_cmp b a)) a b (ap is_lt (cond-true (ltb b a) Less (cond (eqb b a) Equal Greater) t)) ∙ same)
      | inr t ↦ (let le = ltb-false b a t in let same : b ≡ max a b = omega arith in
          cond-false (is_lt (nat_cmp b a)) a b (ap is_lt (cond-false (ltb b a) Less (cond (eqb b a) Equal Greater) t) ∙ tied (eqb b a)) ∙ same)
    ]
  where
    tied : (e : Bool) → is_lt (cond e Equal Greater) ≡ false
    tied true = refl
    tied false = refl

-- the greater of what was found and one more than what is read, as the code makes it
pub greater-read : (found numbers : List ℕ) (i j read number : ℕ) → i < length found → read ≡ get_or found i read → number ≡ ord_max nat_cmp read (get_or numbers j 0 + 1) →
    number ≡ max (slice_index found i) (suc (slice_index numbers j))
greater-read found numbers i j read number h r e =
    let same = get_or_read found i read h r 0 in
    let more = ord_max-nat read (get_or numbers j 0 + 1) in
    omega arith

-- the ranks are as many as the vertices
pub length-ranks_within : (deeper n : ℕ) (edges : Edges) → length (ranks_within deeper n edges) ≡ n
length-ranks_within deeper n edges = length-map-range_with_len (rank_within deeper n edges) 0 n

-- the vertices are below the number of ranks
pub AreVertices-ranks_within : (deeper n : ℕ) (edges : Edges) (numbers : List ℕ) → numbers ≡ ranks_within deeper n edges → AreVertices n edges → AreVertices (length numbers) edges
AreVertices-ranks_within deeper n edges numbers e v = subst (λ k. AreVertices k edges) (sym (ap length e ∙ length-ranks_within deeper n edges)) v

-- ranks are below their number while fewer rounds were made
pub All-numbers : (deeper n : ℕ) (edges : Edges) (numbers : List ℕ) → numbers ≡ ranks_within deeper n edges → deeper < n → All (λ r. r < length numbers) numbers
All-numbers deeper n edges numbers e h =
    subst (λ xs. All (λ r. r < length xs) xs) (sym e)
    (subst (λ k. All (λ r. r < k) (ranks_within deeper n edges)) (sym (length-ranks_within deeper n edges)) (All-ranks_within deeper n edges h))

-- a round on ranks goes one edge deeper
pub raised-numbers : (deeper n : ℕ) (edges : Edges) (numbers : List ℕ) → numbers ≡ ranks_within deeper n edges → raised (length numbers) edges numbers ≡ ranks_within (deeper + 1) n edges
raised-numbers deeper n edges numbers e =
    let more : suc deeper ≡ deeper + 1 = omega arith in
    ap (λ xs. raised (length xs) edges xs) e ∙ ap (λ k. raised k edges (ranks_within deeper n edges)) (length-ranks_within deeper n edges)
    ∙ raised-ranks_within deeper n edges ∙ ap (λ k. ranks_within k n edges) more

-- numbers that a round leaves as they are are the ranks
pub ranks-from_stay : (deeper n : ℕ) (edges : Edges) (numbers : List ℕ) → deeper ≤ n → numbers ≡ ranks_within deeper n edges → ranks_within (deeper + 1) n edges ≡ numbers → numbers ≡ ranks n edges
ranks-from_stay deeper n edges numbers h e s =
    let more : suc deeper ≡ deeper + 1 = omega arith in
    let all : deeper + (n - deeper) ≡ n = omega arith in
    e ∙ sym (ranks_within-stays deeper (n - deeper) n edges (ap (λ k. ranks_within k n edges) more ∙ s ∙ e)) ∙ ap (λ k. ranks_within k n edges) all ∙ ranks-from_ranks_within n edges

-- after n rounds the numbers are the ranks
pub ranks-from_rounds : (deeper n : ℕ) (edges : Edges) (numbers : List ℕ) → deeper ≡ n → numbers ≡ ranks_within deeper n edges → numbers ≡ ranks n edges
ranks-from_rounds deeper n edges numbers h e = e ∙ ap (λ k. ranks_within k n edges) h ∙ ranks-from_ranks_within n edges
