-- Pairs that pass one test after another.
use Rattle.std.proofs.Common.{◌≡◌, ℕ, suc, ◌+◌, ◌≤◌, List, [], ◌∷◌, length, Bool, true, false, cond, not, ◌||◌, drop, slice_get, option_map, Option, Some, None, refl, sym, ap, ◌∙◌, arith}
use Rattle.std.proofs.Math.Seq.{drop-cons}
use Rattle.std.proofs.lemmas.List.{drop_all}
use Rattle.std.proofs.lemmas.Option.{none-some, same_Some, slice_get_within, get_or_from_slice_get}
use Rattle.semantics.specs.Texts.{Text, Table, pairs_where}
use Rattle.semantics.specs.Patterns.{Pattern, fits}
use Rattle.semantics.specs.Joins.{Join}
use Rattle.semantics.specs.Histories.{DeclaredJoin, is_computed}

-- what follows the first elements begins with the element at their number
pub drop_at_place : {X : Type 0} (xs : List X) (i : ℕ) (x : X) → slice_get xs i ≡ Some x → drop i xs ≡ x ∷ drop (i + 1) xs
drop_at_place xs i x at =
    let more : suc i ≡ i + 1 = omega arith in
    drop-cons xs i x (slice_get_within xs i x at)
    ∙ (λ k. get_or_from_slice_get xs i x x at k ∷ drop (more k) xs)

-- pairs that fail the first of two tests or the second fail one of them
pub pairs_where-twice : (p q : Text → Bool) (table : Table) → pairs_where (λ k. not (q k)) (pairs_where (λ k. not (p k)) table) ≡ pairs_where (λ k. not (p k || q k)) table
pairs_where-twice p q [] = refl
pairs_where-twice p q (e ∷ table) = by (p e.0) (pairs_where-twice p q table)
  where
    by : (b : Bool) →
        pairs_where (λ k. not (q k)) (pairs_where (λ k. not (p k)) table) ≡ pairs_where (λ k. not (p k || q k)) table →
        pairs_where (λ k. not (q k)) (cond (not b) (e ∷ pairs_where (λ k. not (p k)) table) (pairs_where (λ k. not (p k)) table))
        ≡ cond (not (b || q e.0)) (e ∷ pairs_where (λ k. not (p k || q k)) table) (pairs_where (λ k. not (p k || q k)) table)
    by true rest = rest
    by false rest = ap (λ t. cond (not (q e.0)) (e ∷ t) t) rest

-- all pairs pass a test that none fails
pub pairs_where-all : (table : Table) → pairs_where (λ k. true) table ≡ table
pairs_where-all [] = refl
pairs_where-all (e ∷ table) = ap (λ t. e ∷ t) (pairs_where-all table)

-- what the output of a join at a place hides, and then those of the later ones
hidden_more_at : (joins : List DeclaredJoin) (i : ℕ) (s : DeclaredJoin) (table new : Table) → slice_get joins i ≡ Some s →
    new ≡ pairs_where (λ k. not (fits s.join.output k)) table →
    pairs_where (λ k. not (is_computed (drop (i + 1) joins) k)) new ≡ pairs_where (λ k. not (is_computed (drop i joins) k)) table
hidden_more_at joins i s table new at is =
    ap (pairs_where (λ k. not (is_computed (drop (i + 1) joins) k))) is
    ∙ pairs_where-twice (fits s.join.output) (is_computed (drop (i + 1) joins)) table
    ∙ ap (λ js. pairs_where (λ k. not (is_computed js k)) table) (sym (drop_at_place joins i s at))

-- what the output of the join at a place hides, and then those of the later ones
pub hidden_more : (joins : List DeclaredJoin) (i : ℕ) (j : Join) (p : Pattern) (table new : Table) → option_map (λ (s : DeclaredJoin). s.join) (slice_get joins i) ≡ Some j →
    p ≡ j.output → new ≡ pairs_where (λ k. not (fits p k)) table →
    pairs_where (λ k. not (is_computed (drop (i + 1) joins) k)) new ≡ pairs_where (λ k. not (is_computed (drop i joins) k)) table
hidden_more joins i j p table new at same is = by (slice_get joins i) refl at
  where
    by : (o : Option DeclaredJoin) → slice_get joins i ≡ o → option_map (λ (s : DeclaredJoin). s.join) o ≡ Some j →
        pairs_where (λ k. not (is_computed (drop (i + 1) joins) k)) new ≡ pairs_where (λ k. not (is_computed (drop i joins) k)) table
    by None there e = absurd (none-some j e)
    by (Some s) there e =
        hidden_more_at joins i s table new there
        (is ∙ ap (λ (q : Pattern). pairs_where (λ k. not (fits q k)) table) (same ∙ sym (ap (λ (x : Join). x.output) (same_Some s.join j e))))

-- past the last join nothing is hidden
pub hidden_all : (joins : List DeclaredJoin) (i : ℕ) (table : Table) → length joins ≤ i → pairs_where (λ k. not (is_computed (drop i joins) k)) table ≡ table
hidden_all joins i table past = ap (λ js. pairs_where (λ k. not (is_computed js k)) table) (drop_all i joins past) ∙ pairs_where-all table
