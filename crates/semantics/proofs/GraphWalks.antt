-- Walks: what `walks` lists.
use Rattle.std.proofs.Common.{◌≡◌, ℕ, zero, suc, inl, inr, List, [], ◌∷◌, length, flat_map, true, refl, sym, ap, subst, arith}
use Rattle.std.proofs.lemmas.Bool.{cases_Bool, cond-true, cond-false}
use Rattle.semantics.specs.Graphs.{Edges, reads, read_by, AreVertices, IsWalkTo, BeginsWith, walks}
use Rattle.semantics.proofs.Members.{IsIn, IsIn-map, IsIn-from_map, IsIn-flat_map, IsIn-from_flat_map}
use Rattle.semantics.proofs.GraphReadings.{IsIn-read_by, IsIn-from_read_by}

-- the list is a walk of so many vertices from a vertex to the goal
pub record IsWalk (edges : Edges) (goal k a : ℕ) (walk : List ℕ) : Type 0 where
  pub begins : BeginsWith a walk
  pub leads : IsWalkTo edges goal walk
  pub count : length walk ≡ k

-- a vertex before a walk from a vertex that it reads is a walk
pub IsWalk-cons : (edges : Edges) (goal k a b : ℕ) (walk : List ℕ) → reads edges a b ≡ true → IsWalk edges goal k b walk → IsWalk edges goal (suc k) a (a ∷ walk)
IsWalk-cons edges goal k a b [] r w = absurd w.begins
IsWalk-cons edges goal k a b (c ∷ walk) r w =
    record { begins = refl; leads = (subst (λ v. reads edges a v ≡ true) w.begins r, w.leads); count = ap suc w.count }

-- each list of `walks` is a walk
pub IsWalk-from_walks : (n : ℕ) (edges : Edges) (goal k a : ℕ) (walk : List ℕ) → IsIn walk (walks n edges goal k a) → IsWalk edges goal k a walk
IsWalk-from_walks n edges goal zero a walk m = absurd m
IsWalk-from_walks n edges goal (suc zero) a walk m =
    elim (cases_Bool (reads edges a goal)) [
      | inl e ↦ (let found : IsIn walk ((a ∷ []) ∷ []) = subst (λ ws. IsIn walk ws) (cond-true (reads edges a goal) ((a ∷ []) ∷ []) [] e) m in
          elim found [ inl s ↦ subst (λ w. IsWalk edges goal 1 a w) (sym s) (record { begins = refl; leads = e; count = refl }) | inr h ↦ absurd h ])
      | inr e ↦ (let none : IsIn walk [] = subst (λ ws. IsIn walk ws) (cond-false (reads edges a goal) ((a ∷ []) ∷ []) [] e) m in absurd none)
    ]
IsWalk-from_walks n edges goal (suc (suc more)) a walk m =
    let mapped = IsIn-from_map (λ w. a ∷ w) walk (flat_map (walks n edges goal (suc more)) (read_by n edges a)) m in
    let found = IsIn-from_flat_map (walks n edges goal (suc more)) mapped.0 (read_by n edges a) mapped.1 in
    let read = IsIn-from_read_by n edges a found.0 found.1 in
    subst (λ w. IsWalk edges goal (suc (suc more)) a w) (sym mapped.2)
    (IsWalk-cons edges goal (suc more) a found.0 mapped.0 read.0 (IsWalk-from_walks n edges goal (suc more) found.0 mapped.0 found.2))

-- each walk is a list of `walks`
pub IsIn-walks : (n : ℕ) (edges : Edges) (goal k a : ℕ) (walk : List ℕ) → AreVertices n edges → IsWalk edges goal k a walk → IsIn walk (walks n edges goal k a)
IsIn-walks n edges goal k a walk v w = of_list n edges goal k a walk v w.begins w.leads w.count
  where
    of_list : (n : ℕ) (edges : Edges) (goal k a : ℕ) (walk : List ℕ) → AreVertices n edges → BeginsWith a walk → IsWalkTo edges goal walk → length walk ≡ k → IsIn walk (walks n edges goal k a)
    of_list n edges goal k a [] v b l c = absurd b
    of_list n edges goal zero a (x ∷ []) v b l c = absurd (omega arith)
    of_list n edges goal (suc zero) a (x ∷ []) v b l c =
        subst (λ ws. IsIn (x ∷ []) ws) (sym (cond-true (reads edges a goal) ((a ∷ []) ∷ []) [] (subst (λ y. reads edges y goal ≡ true) (sym b) l))) (inl (ap (λ y. y ∷ []) (sym b)))
    of_list n edges goal (suc (suc more)) a (x ∷ []) v b l c = absurd (omega arith)
    of_list n edges goal zero a (x ∷ y ∷ walk) v b l c = absurd (omega arith)
    of_list n edges goal (suc zero) a (x ∷ y ∷ walk) v b l c = absurd (omega arith)
    of_list n edges goal (suc (suc more)) a (x ∷ y ∷ walk) v b l c =
        let rest = of_list n edges goal (suc more) y (y ∷ walk) v refl l.1 (omega arith) in
        let read = IsIn-read_by n edges a y v (subst (λ z. reads edges z y ≡ true) (sym b) l.0) in
        let found = IsIn-flat_map (walks n edges goal (suc more)) y (y ∷ walk) (read_by n edges a) read rest in
        subst (λ z. IsIn (z ∷ y ∷ walk) (walks n edges goal (suc (suc more)) a)) b
        (IsIn-map (λ w. a ∷ w) (y ∷ walk) (flat_map (walks n edges goal (suc more)) (read_by n edges a)) found)
