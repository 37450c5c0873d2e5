-- Ranges that are bare at all positions between two, from the stays.
use Rattle.std.proofs.Common.{◌≡◌, ℕ, ◌≤◌, ◌||◌, List, [], ◌∷◌, map, filter, take, length, max, Bool, true, false, cond, not, nat_le, Option, Some, None, refl, sym, ap, ◌∙◌, subst, ◌⊎◌, inl, inr, arith, le-leb, leb-true, ltb-true}
use Rattle.std.specs.List.{list_all}
use Rattle.std.proofs.lemmas.Bool.{and_parts, and_from, or_cases, not-true, false≢true, lt-ltb}
use Rattle.std.proofs.lemmas.List.{take-take}
use Rattle.semantics.specs.Texts.{Text, table_of, Range}
use Rattle.semantics.specs.Histories.{History, DeclaredJoin, joins_of}
use Rattle.semantics.specs.Stays.{Stay, declared, stays_of, is_after, stands_at, joins_at, stands_between}
use Rattle.semantics.proofs.StayLemmas.{IsWithinStay, IsUpTo, AreUpTo, stays_up_to, joins_at_stays}
use Rattle.growing_history.specs.Changes.{has_table, is_bare, IsBareThroughout, bare_between}
use Rattle.growing_history.specs.ChangeLaws.{BareBetweenIsThroughout}

-- a join of another table
abbrev is_other : Text → DeclaredJoin → Bool
is_other table s = not (has_table s.join.output table)

-- whoever stands at a position stands between two around it
stands_within : (q p x : ℕ) (s : Stay) → q ≤ x → x ≤ p → stands_at x s ≡ true → stands_between q p s ≡ true
stands_within q p x s from to stands =
    let both = and_parts (nat_le s.position x) (is_after x s.until) stands in
    let l = leb-true s.position x both.0 in
    and_from (nat_le s.position p) (is_after q s.until) (le-leb s.position p (omega (arith, l))) (still s.until both.1)
  where
    still : (o : Option ℕ) → is_after x o ≡ true → is_after q o ≡ true
    still None e = refl
    still (Some d) e = let m = ltb-true x d e in lt-ltb q d (omega (arith, m))

bare_at_position : (q p x : ℕ) (table : Text) (stays : List Stay) → q ≤ x → x ≤ p → bare_between q p table stays ≡ true → list_all (is_other table) (joins_at x stays) ≡ true
bare_at_position q p x table [] from to bare = refl
bare_at_position q p x table (s ∷ stays) from to bare =
    let parts = and_parts (not (stands_between q p s) || not (has_table s.join.output table)) (bare_between q p table stays) bare in
    by (stands_at x s) refl (or_cases (not (stands_between q p s)) (not (has_table s.join.output table)) parts.0) (bare_at_position q p x table stays from to parts.1)
  where
    by : (b : Bool) → stands_at x s ≡ b → (not (stands_between q p s) ≡ true) ⊎ (not (has_table s.join.output table) ≡ true) → list_all (is_other table) (joins_at x stays) ≡ true →
        list_all (is_other table) (map declared (cond b (s ∷ filter (stands_at x) stays) (filter (stands_at x) stays))) ≡ true
    by false is case rest = rest
    by true is (inl absent) rest = absurd (false≢true (sym (not-true (stands_between q p s) absent) ∙ stands_within q p x s from to is))
    by true is (inr other) rest = and_from (is_other table (declared s)) (list_all (is_other table) (joins_at x stays)) other rest

-- a stay that stands between stands at some position between
stands_somewhere : (q p m : ℕ) (s : Stay) → q ≤ p → IsUpTo m s → stands_between q p s ≡ true → (x : ℕ) × (q ≤ x) × (x ≤ p) × (stands_at x s ≡ true)
stands_somewhere q p m s order is stands =
    let both = and_parts (nat_le s.position p) (is_after q s.until) stands in
    let l = leb-true s.position p both.0 in
    (max q s.position, omega arith, omega (arith, l), and_from (nat_le s.position (max q s.position)) (is_after (max q s.position) s.until) (le-leb s.position (max q s.position) (omega arith)) (still s.until is both.1))
  where
    still : (o : Option ℕ) → IsWithinStay m s.position o → is_after q o ≡ true → is_after (max q s.position) o ≡ true
    still None w e = refl
    still (Some d) w e = let k = ltb-true q d e in lt-ltb (max q s.position) d (omega (arith, k, w.0))

all_here : (x : ℕ) (table : Text) (s : Stay) (stays : List Stay) → stands_at x s ≡ true → list_all (is_other table) (joins_at x (s ∷ stays)) ≡ true → is_other table (declared s) ≡ true
all_here x table s stays stands all = by (stands_at x s) stands all
  where
    by : (b : Bool) → b ≡ true → list_all (is_other table) (map declared (cond b (s ∷ filter (stands_at x) stays) (filter (stands_at x) stays))) ≡ true → is_other table (declared s) ≡ true
    by true is h = (and_parts (is_other table (declared s)) (list_all (is_other table) (joins_at x stays)) h).0
    by false is h = absurd (false≢true is)

all_rest : (x : ℕ) (table : Text) (s : Stay) (stays : List Stay) → list_all (is_other table) (joins_at x (s ∷ stays)) ≡ true → list_all (is_other table) (joins_at x stays) ≡ true
all_rest x table s stays all = by (stands_at x s) all
  where
    by : (b : Bool) → list_all (is_other table) (map declared (cond b (s ∷ filter (stands_at x) stays) (filter (stands_at x) stays))) ≡ true → list_all (is_other table) (joins_at x stays) ≡ true
    by true h = (and_parts (is_other table (declared s)) (list_all (is_other table) (joins_at x stays)) h).1
    by false h = h

bare_from_positions : (q p m : ℕ) (table : Text) (stays : List Stay) → q ≤ p → AreUpTo m stays → ((x : ℕ) → q ≤ x → x ≤ p → list_all (is_other table) (joins_at x stays) ≡ true) → bare_between q p table stays ≡ true
bare_from_positions q p m table [] order are all = refl
bare_from_positions q p m table (s ∷ stays) order are all =
    and_from (not (stands_between q p s) || not (has_table s.join.output table)) (bare_between q p table stays)
    (by (stands_between q p s) refl)
    (bare_from_positions q p m table stays order are.1 (λ x from to. all_rest x table s stays (all x from to)))
  where
    by : (b : Bool) → stands_between q p s ≡ b → (not b || not (has_table s.join.output table)) ≡ true
    by false is = refl
    by true is = let w = stands_somewhere q p m s order are.0 is in all_here w.0 table s stays w.3 (all w.0 w.1 w.2)

-- a range is bare throughout exactly where no stay between has its output in the table
pub bare_between_is_throughout : BareBetweenIsThroughout
bare_between_is_throughout h q p r order = (
  λ bare x from to. ap (list_all (is_other (table_of r.low))) (joins_at_stays h x) ∙ bare_at_position q p x (table_of r.low) (stays_of h) from to bare,
  λ all. bare_from_positions q p (length h) (table_of r.low) (stays_of h) order (stays_up_to h) (λ x from to. ap (list_all (is_other (table_of r.low))) (sym (joins_at_stays h x)) ∙ all x from to),
)

-- a range that is bare at all positions up to p is so over a list with the same first p entries
pub bare_over : (h more : History) (q p : ℕ) (range : Range) → take p more ≡ take p h → IsBareThroughout more q p range → IsBareThroughout h q p range
bare_over h more q p range same bare x from to =
    let early : take x more ≡ take x h = sym (take-take x p more to) ∙ ap (take x) same ∙ take-take x p h to in
    subst (λ l. is_bare range (joins_of l) ≡ true) early (bare x from to)
