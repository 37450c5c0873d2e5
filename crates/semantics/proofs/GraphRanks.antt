-- Ranks: looking deeper than there are vertices changes nothing, where there is no cycle.
use Rattle.std.proofs.Common.{refl, fold, max, ◌≡◌, ℕ, zero, suc, ◌+◌, ◌<◌, ◌≤◌, inl, inr, List, [], ◌∷◌, length, map, eqb, sym, ap, subst, arith}
use Rattle.std.specs.List.{IsDistinct}
use Rattle.semantics.specs.Graphs.{Edges, read_by, greatest, rank_within, rank, IsAcyclic}
use Rattle.semantics.specs.GraphLaws.{RankIsOneMore}
use Rattle.semantics.proofs.Members.{IsIn-from_map, IsIn, IsDistinct-cons, IsDistinct-single, length-IsDistinct, nil-from_IsIn, map-same}
use Rattle.semantics.proofs.GraphReadings.{IsIn-from_read_by}
use Rattle.semantics.proofs.GraphCycles.{IsTrail, fresh-from_trail}

-- a trail of distinct vertices below n that ends at the vertex
pub record IsTrailTo (n : ℕ) (edges : Edges) (x : ℕ) (path : List ℕ) : Type 0 where
  pub trail : IsTrail edges x path
  pub distinct : IsDistinct eqb (x ∷ path)
  pub below : (q : ℕ) → IsIn q (x ∷ path) → q < n

-- without a cycle a trail goes on to each vertex that is read
pub IsTrailTo-read : (n : ℕ) (edges : Edges) (x b : ℕ) (path : List ℕ) → IsAcyclic edges → IsTrailTo n edges x path → IsIn b (read_by n edges x) →
    IsTrailTo n edges b (x ∷ path)
IsTrailTo-read n edges x b path acyclic t m =
    let read = IsIn-from_read_by n edges x b m in
    record {
      trail = (read.0, t.trail);
      distinct = IsDistinct-cons b (x ∷ path) (fresh-from_trail edges b x path acyclic read.0 t.trail) t.distinct;
      below = λ q k. elim k [ inl e ↦ subst (λ z. z < n) (sym e) read.1 | inr k' ↦ t.below q k' ];
    }

-- a trail has at most n vertices
pub length-IsTrailTo : (n : ℕ) (edges : Edges) (x : ℕ) (path : List ℕ) → IsTrailTo n edges x path → suc (length path) ≤ n
length-IsTrailTo n edges x path t = length-IsDistinct (x ∷ path) n t.distinct t.below

-- one edge deeper changes no rank, once the trail and the depth have all vertices
pub rank_within-stays : (deeper n : ℕ) (edges : Edges) (x : ℕ) (path : List ℕ) → IsAcyclic edges → IsTrailTo n edges x path → n ≤ deeper + suc (length path) →
    rank_within deeper n edges x ≡ rank_within (suc deeper) n edges x
rank_within-stays zero n edges x path acyclic t enough =
    let none : read_by n edges x ≡ [] =
    nil-from_IsIn (read_by n edges x) (λ b m. let long = length-IsTrailTo n edges b (x ∷ path) (IsTrailTo-read n edges x b path acyclic t m) in omega arith) in
    sym (ap (λ bs. greatest (map (λ b. suc zero) bs)) none)
rank_within-stays (suc deeper) n edges x path acyclic t enough =
    ap greatest (map-same (λ b. suc (rank_within deeper n edges b)) (λ b. suc (rank_within (suc deeper) n edges b)) (read_by n edges x)
    (λ b m. ap suc (rank_within-stays deeper n edges b (x ∷ path) acyclic (IsTrailTo-read n edges x b path acyclic t m) (omega arith))))

-- a vertex alone is a trail
pub IsTrailTo-single : (n : ℕ) (edges : Edges) (x : ℕ) → x < n → IsTrailTo n edges x []
IsTrailTo-single n edges x h =
    record { trail = tt; distinct = IsDistinct-single x; below = λ q k. elim k [ inl e ↦ subst (λ z. z < n) (sym e) h | inr absent ↦ absurd absent ] }

-- the rank is one more than the greatest rank that is read
pub rank_is_one_more_lem : RankIsOneMore
unfolding rank
rank_is_one_more_lem zero edges a v acyclic h = absurd (omega arith)
rank_is_one_more_lem (suc n) edges a v acyclic h =
    ap greatest (map-same (λ b. suc (rank_within n (suc n) edges b)) (λ b. suc (rank_within (suc n) (suc n) edges b)) (read_by (suc n) edges a)
    (λ b m. let read = IsIn-from_read_by (suc n) edges a b m in
    ap suc (rank_within-stays n (suc n) edges b [] acyclic (IsTrailTo-single (suc n) edges b read.1) (omega arith))))

-- the greatest is at most what each number is at most
greatest_from : (a m : ℕ) (xs : List ℕ) → a ≤ m → ((x : ℕ) → IsIn x xs → x ≤ m) → fold max a xs ≤ m
greatest_from a m [] h each = h
greatest_from a m (x ∷ xs) h each = let here = each x (inl refl) in greatest_from (max a x) m xs (omega arith) (λ y k. each y (inr k))

-- the greatest is at most what each number is at most
pub greatest-le : (m : ℕ) (xs : List ℕ) → ((x : ℕ) → IsIn x xs → x ≤ m) → greatest xs ≤ m
greatest-le m xs each = greatest_from 0 m xs (omega arith) each

-- the start of a fold is at most its end
fold_max-start : (a : ℕ) (xs : List ℕ) → a ≤ fold max a xs
fold_max-start a [] = omega arith
fold_max-start a (x ∷ xs) = let rest = fold_max-start (max a x) xs in omega arith

-- an element is at most the end of the fold
fold_max-ge : (a x : ℕ) (xs : List ℕ) → IsIn x xs → x ≤ fold max a xs
fold_max-ge a x [] m = absurd m
fold_max-ge a x (y ∷ xs) (inl e) = let rest = fold_max-start (max a y) xs in omega arith
fold_max-ge a x (y ∷ xs) (inr m) = fold_max-ge (max a y) x xs m

-- an element is at most the greatest
pub greatest-ge : (x : ℕ) (xs : List ℕ) → IsIn x xs → x ≤ greatest xs
greatest-ge x xs m = fold_max-ge 0 x xs m

-- a rank is at most as deep as it was looked for
pub rank_within-le : (deeper n : ℕ) (edges : Edges) (a : ℕ) → rank_within deeper n edges a ≤ deeper
rank_within-le zero n edges a = omega arith
rank_within-le (suc deeper) n edges a =
    greatest-le (suc deeper) (map (λ b. suc (rank_within deeper n edges b)) (read_by n edges a))
    (λ x m. let r = IsIn-from_map (λ b. suc (rank_within deeper n edges b)) x (read_by n edges a) m in
    let upto = rank_within-le deeper n edges r.0 in omega (arith, r.2))
