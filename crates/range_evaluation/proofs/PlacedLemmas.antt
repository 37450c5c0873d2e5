-- The sources of a join with their places.
use Rattle.std.proofs.Common.{◌≡◌, ℕ, suc, ◌+◌, not, true, false, Bool, List, [], ◌∷◌, ◌++◌, filter, slice_get, AllPairs, Some, refl, sym, ap, ◌∙◌, subst, inl, inr, ⊎_elim, arith}
use Rattle.std.specs.List.{enumerate_from, AllByRecursion}
use Rattle.std.proofs.lemmas.Bool.{false≢true, not-true}
use Rattle.std.proofs.lemmas.Option.{same_Some}
use Rattle.std.proofs.lemmas.List.Elements.{All-from_recursion}
use Rattle.std.proofs.lemmas.List.Kept.{AllPairs-cons}
use Rattle.semantics.specs.Joins.{is_check, Source, Join}
use Rattle.semantics.proofs.Members.{AllByRecursion-append}
use Rattle.semantics.proofs.MemberLemmas.{Has, has_filter, has_append_cases}
use Rattle.range_evaluation.specs.Trees.{placed_sources}
use Rattle.range_evaluation.specs.PathLaws.{SourcesArePlaced}
use Rattle.range_evaluation.proofs.NeedLemmas.{unplaced-placed_sources}
use Rattle.growing_history.proofs.ElementLemmas.{all_from_has, has_of_all}

-- a source with a place
abbrev Placed : Type 0
Placed = ℕ × Source

-- ---- where the sources stand

-- the source stands at its place of the list, counted from a number on
abbrev StandsFrom : ℕ → List Source → Placed → Type 0
StandsFrom n ss p = (i : ℕ) × (p.0 ≡ n + i) × (slice_get ss i ≡ Some p.1)

-- each source that is numbered stands so
numbered_stand : (n : ℕ) (ss : List Source) (p : Placed) → Has (enumerate_from n ss) p → StandsFrom n ss p
numbered_stand n [] p h = absurd h
numbered_stand n (s ∷ ss) p (inl e) = let at : n ≡ p.0 = ap (λ q. q.0) e in (0, omega (arith, at), ap Some (ap (λ q. q.1) e))
numbered_stand n (s ∷ ss) p (inr h) = let w = numbered_stand (n + 1) ss p h in (suc w.0, omega (arith, w.1), w.2)

-- the sources of a join that pass a test, with their places
abbrev kept : (Source → Bool) → Join → List Placed
kept test j = filter (λ p. test p.1) (enumerate_from 0 j.sources)

-- the source stands at its place of the join
abbrev Stands : Join → Placed → Type 0
Stands j p = slice_get j.sources p.0 ≡ Some p.1

-- a source that is kept stands at its place, and passes the test
kept_stands : (test : Source → Bool) (j : Join) (p : Placed) → Has (kept test j) p → (test p.1 ≡ true) × Stands j p
kept_stands test j p h =
    let k = has_filter (λ q. test q.1) (enumerate_from 0 j.sources) p h in
    let w = numbered_stand 0 j.sources p k.1 in
    let at : w.0 ≡ p.0 = omega (arith, w.1) in
    (k.0, subst (λ i. slice_get j.sources i ≡ Some p.1) at w.2)

-- each source with its place stands there
placed_stands : (j : Join) (p : Placed) → Has (placed_sources j) p → Stands j p
placed_stands j p h = ⊎_elim
    (λ (a : Has (kept (λ s. is_check s.operator) j) p). (kept_stands (λ s. is_check s.operator) j p a).1)
    (λ b. (kept_stands (λ s. not (is_check s.operator)) j p b).1)
    (has_append_cases (kept (λ s. is_check s.operator) j) (kept (λ s. not (is_check s.operator)) j) p h)

-- ---- no place twice

-- the places differ
abbrev Apart : Placed → Placed → Type 0
Apart p q = p.0 ≡ q.0 → ⊥

-- each place differs from all that follow it
abbrev AllApart : List Placed → Type 0
AllApart [] = Unit {0}
AllApart (p ∷ ps) = AllByRecursion (Apart p) ps × AllApart ps

-- by places of the list
pairs_apart : (ps : List Placed) → AllApart ps → AllPairs Apart ps
pairs_apart [] h = λ a b d less short. absurd (omega arith)
pairs_apart (p ∷ ps) h = AllPairs-cons Apart p ps (All-from_recursion (Apart p) ps h.0) (pairs_apart ps h.1)

-- numbers do not come twice
numbered_apart : (n : ℕ) (ss : List Source) → AllApart (enumerate_from n ss)
numbered_apart n [] = tt
numbered_apart n (s ∷ ss) = (
  all_from_has (Apart (n, s)) (enumerate_from (n + 1) ss) (λ q h e. let w = numbered_stand (n + 1) ss q h in absurd (omega (arith, w.1, e))),
  numbered_apart (n + 1) ss,
)

-- one source more, kept or not
kept_apart_by : (test : Placed → Bool) (p : Placed) (ps : List Placed) (x : Bool) → test p ≡ x → AllByRecursion (Apart p) ps → AllApart (filter test ps) → AllApart (filter test (p ∷ ps))
kept_apart_by test p ps true e first rest =
    rw e (all_from_has (Apart p) (filter test ps) (λ q h. apart_of q (has_filter test ps q h).1), rest)
  where
    apart_of : (q : Placed) → Has ps q → Apart p q
    apart_of q h = has_of_all (Apart p) ps q first h
kept_apart_by test p ps false e first rest = rw e rest

-- so it is of those that pass a test
kept_apart : (test : Placed → Bool) (ps : List Placed) → AllApart ps → AllApart (filter test ps)
kept_apart test [] h = tt
kept_apart test (p ∷ ps) h = kept_apart_by test p ps (test p) refl h.0 (kept_apart test ps h.1)

-- places that differ, before others that do and from which they differ
apart-append : (ps qs : List Placed) → AllApart ps → AllApart qs → ((p q : Placed) → Has ps p → Has qs q → Apart p q) → AllApart (ps ++ qs)
apart-append [] qs h g differ = g
apart-append (p ∷ ps) qs h g differ = (
  AllByRecursion-append (Apart p) ps qs h.0 (all_from_has (Apart p) qs (λ q k. differ p q (inl refl) k)),
  apart-append ps qs h.1 g (λ a q k l. differ a q (inr k) l),
)

-- a check and a source that is none stand apart
check_apart : (j : Join) (p q : Placed) → Has (kept (λ s. is_check s.operator) j) p → Has (kept (λ s. not (is_check s.operator)) j) q → Apart p q
check_apart j p q h g e =
    let one = kept_stands (λ s. is_check s.operator) j p h in
    let other = kept_stands (λ s. not (is_check s.operator)) j q g in
    let same : p.1 ≡ q.1 = same_Some p.1 q.1 (sym one.1 ∙ ap (slice_get j.sources) e ∙ other.1) in
    false≢true (sym (not-true (is_check q.1.operator) other.0) ∙ ap (λ s. is_check s.operator) (sym same) ∙ one.0)

-- no place comes twice
placed_apart : (j : Join) → AllApart (placed_sources j)
placed_apart j =
    apart-append (kept (λ s. is_check s.operator) j) (kept (λ s. not (is_check s.operator)) j)
    (kept_apart (λ p. is_check p.1.operator) (enumerate_from 0 j.sources) (numbered_apart 0 j.sources))
    (kept_apart (λ p. not (is_check p.1.operator)) (enumerate_from 0 j.sources) (numbered_apart 0 j.sources))
    (check_apart j)

-- the sources with their places are those of the join in the order of evaluation
pub sources_are_placed : SourcesArePlaced
sources_are_placed j = record {
  order = unplaced-placed_sources j;
  stand = All-from_recursion (Stands j) (placed_sources j) (all_from_has (Stands j) (placed_sources j) (placed_stands j));
  once = pairs_apart (placed_sources j) (placed_apart j);
}
