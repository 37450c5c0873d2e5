-- Paths: wider slots, another table, and the sources of a copy join with their places, the checks before the copy source.
use Rattle.std.proofs.Common.{◌≡◌, ◌⊎◌, ℕ, zero, suc, ◌+◌, ◌<◌, Bool, cond, not, List, [], ◌∷◌, ◌++◌, length, map, filter, take, slice_get, true, false, Any, Option, Some, None, is_some, IsSomeAnd, refl, sym, ap, ◌∙◌, subst, inl, inr, ⊎_elim, arith, length-append}
use Rattle.std.specs.List.{enumerate_from}
use Rattle.std.proofs.lemmas.Bool.{false≢true, not-true}
use Rattle.std.proofs.lemmas.Option.{none-some, same_Some, slice_get_within}
use Rattle.std.proofs.lemmas.List.Elements.{recursion_from_All}
use Rattle.semantics.specs.Texts.{Text, Table, value_at}
use Rattle.semantics.specs.Patterns.{Slots, Fits, IsPartOf}
use Rattle.semantics.specs.Joins.{Source, Join, is_check, value_sources_of}
use Rattle.semantics.specs.OutputLaws.{IsCopyJoin}
use Rattle.semantics.proofs.PatternLemmas.{fits_more}
use Rattle.semantics.proofs.MemberLemmas.{Has, has_from_contains, has_filter}
use Rattle.semantics.proofs.CopyLemmas.{IsCopySource, copy_source}
use Rattle.range_evaluation.specs.Trees.{placed_sources}
use Rattle.range_evaluation.specs.PathLaws.{IsPath}
use Rattle.range_evaluation.proofs.PlacedLemmas.{sources_are_placed}
use Rattle.growing_history.proofs.ElementLemmas.{has_of_all}

-- ---- lists

-- the element of which a fact holds
pub has_of_any : {A : Type 0} (P : A → Type 0) (xs : List A) → Any P xs → (x : A) × Has xs x × P x
has_of_any P xs h = (h.1, has_from_contains xs h.1 (h.0, h.2, h.3), h.4)

-- an element stands at some place
pub has_at : {A : Type 0} (xs : List A) (x : A) → Has xs x → (i : ℕ) × (slice_get xs i ≡ Some x)
has_at [] x h = absurd h
has_at (y ∷ ys) x (inl e) = (0, ap Some e)
has_at (y ∷ ys) x (inr h) = let w = has_at ys x h in (suc w.0, w.1)

-- what stands at a place is an element
pub has_from_at : {A : Type 0} (xs : List A) (i : ℕ) (x : A) → slice_get xs i ≡ Some x → Has xs x
has_from_at [] i x h = absurd (none-some x h)
has_from_at (y ∷ ys) zero x h = inl (same_Some y x h)
has_from_at (y ∷ ys) (suc i) x h = inr (has_from_at ys i x h)

-- an element of a beginning is one of the list
pub has_from_take : {A : Type 0} (n : ℕ) (xs : List A) (x : A) → Has (take n xs) x → Has xs x
has_from_take zero xs x h = absurd h
has_from_take (suc n) [] x h = absurd h
has_from_take (suc n) (y ∷ ys) x (inl e) = inl e
has_from_take (suc n) (y ∷ ys) x (inr h) = inr (has_from_take n ys x h)

-- the value that is there, with what holds of it
pub some_with : {A : Type 0} (P : A → Type 0) (o : Option A) → IsSomeAnd o P → (x : A) × (o ≡ Some x) × P x
some_with P None h = absurd h
some_with P (Some x) h = (x, refl, h)

-- ---- paths

-- a path is one under wider slots
pub path_wider : (ps : List (ℕ × Source)) (table : Table) (path : List Text) (slots more : Slots) → IsPartOf slots more → IsPath ps table path slots → IsPath ps table path more
path_wider ps table [] slots more part h = tt
path_wider [] table (k ∷ ks) slots more part h = absurd h
path_wider (p ∷ ps) table (k ∷ ks) slots more part h = (h.0, fits_more p.1.pattern k slots more part h.1, path_wider ps table ks slots more part h.2)

-- a key of a path stands in another table, where the keys before it are a path in it
abbrev pub StandsNext : List (ℕ × Source) → Table → Table → List Text → Slots → Type 0
StandsNext ps table other path slots = (i source : ℕ) (s : Source) (key : Text) → IsPath ps other (take i path) slots → slice_get ps i ≡ Some (source, s) → slice_get path i ≡ Some key
    → is_some (value_at key table) ≡ true → Fits s.pattern key slots → is_some (value_at key other) ≡ true

-- a path of which one key after the other stands in another table is a path there
pub path_over : (ps : List (ℕ × Source)) (table other : Table) (path : List Text) (slots : Slots) → IsPath ps table path slots → StandsNext ps table other path slots → IsPath ps other path slots
path_over ps table other [] slots h step = tt
path_over [] table other (k ∷ ks) slots h step = absurd h
path_over (p ∷ ps) table other (k ∷ ks) slots h step =
    let here : is_some (value_at k other) ≡ true = step 0 p.0 p.1 k tt refl refl h.0 h.1 in
    (here, h.1, path_over ps table other ks slots h.2 (λ i source s key before at is stands fit. step (suc i) source s key (here, h.1, before) at is stands fit))

-- ---- where the sources stand

-- a source with its place stands there in the join
pub stands_at : (j : Join) (i source : ℕ) (s : Source) → slice_get (placed_sources j) i ≡ Some (source, s) → slice_get j.sources source ≡ Some s
stands_at j i source s h =
    has_of_all (λ p. slice_get j.sources p.0 ≡ Some p.1) (placed_sources j) (source, s)
    (recursion_from_All (λ p. slice_get j.sources p.0 ≡ Some p.1) (placed_sources j) (sources_are_placed j).stand) (has_from_at (placed_sources j) i (source, s) h)

-- the element at a place of a list with one more is one of the list, or that one
pub at_pushed : {A : Type 0} (xs : List A) (y x : A) (i : ℕ) → slice_get (xs ++ y ∷ []) i ≡ Some x → ((i < length xs) × Has xs x) ⊎ ((i ≡ length xs) × (y ≡ x))
at_pushed [] y x zero h = inr (refl, same_Some y x h)
at_pushed [] y x (suc i) h = absurd (none-some x h)
at_pushed (z ∷ zs) y x zero h = inl (omega arith, inl (same_Some z x h))
at_pushed (z ∷ zs) y x (suc i) h = ⊎_elim
    (λ (w : (i < length zs) × Has zs x). inl (omega (arith, w.0), inr w.1))
    (λ w. inr (omega (arith, w.0), w.1))
    (at_pushed zs y x i h)

-- the last of a list with one more is that one
pub pushed_at : {A : Type 0} (xs : List A) (y : A) → slice_get (xs ++ y ∷ []) (length xs) ≡ Some y
pushed_at [] y = refl
pushed_at (x ∷ xs) y = pushed_at xs y

-- at each place before a source's there is a source
pub source_before : (ps : List (ℕ × Source)) (n i : ℕ) (p : ℕ × Source) → slice_get ps n ≡ Some p → i < n → (source : ℕ) × (s : Source) × (slice_get ps i ≡ Some (source, s))
source_before [] n i p h less = absurd (none-some p h)
source_before (q ∷ qs) zero i p h less = absurd (omega (arith, less))
source_before (q ∷ qs) (suc n) zero p h less = (q.0, q.1, refl)
source_before (q ∷ qs) (suc n) (suc i) p h less = source_before qs n i p h (omega (arith, less))

-- the sources of a copy join with their places: the checks, and then the copy source
pub record IsLaidOut (j : Join) (s : Source) : Type 0 where
  pub checks : List (ℕ × Source)
  pub place : ℕ
  pub placed : placed_sources j ≡ checks ++ (place, s) ∷ []
  pub checked : (p : ℕ × Source) → Has checks p → is_check p.1.operator ≡ true
  pub value : is_check s.operator ≡ false
  pub source : IsCopySource j s

-- filtering sources with their places filters the sources
kept_sources : (test : Source → Bool) (n : ℕ) (ss : List Source) → map (λ p. p.1) (filter (λ p. test p.1) (enumerate_from n ss)) ≡ filter test ss
kept_sources test n [] = refl
kept_sources test n (s ∷ ss) = by_test (test s) (kept_sources test (n + 1) ss)
  where
    by_test : (b : Bool) → map (λ p. p.1) (filter (λ p. test p.1) (enumerate_from (n + 1) ss)) ≡ filter test ss
        → map (λ p. p.1) (cond b ((n, s) ∷ filter (λ p. test p.1) (enumerate_from (n + 1) ss)) (filter (λ p. test p.1) (enumerate_from (n + 1) ss))) ≡ cond b (s ∷ filter test ss) (filter test ss)
    by_test true e = ap (λ l. s ∷ l) e
    by_test false e = e

-- a list of one source, with its place
one_placed : (ps : List (ℕ × Source)) (s : Source) → map (λ p. p.1) ps ≡ s ∷ [] → (place : ℕ) × (ps ≡ (place, s) ∷ [])
one_placed [] s h = absurd (cc)
one_placed (p ∷ []) s h = let e : p.1 ≡ s = cc in (p.0, ap (λ r. (p.0, r) ∷ []) e)
one_placed (p ∷ q ∷ ps) s h = absurd (cc)

-- the sources of a copy join are laid out so
pub copy_laid_out : (j : Join) → IsCopyJoin j → (s : Source) × IsLaidOut j s
copy_laid_out j ok =
    let w = copy_source j ok in
    let checks = filter (λ p. is_check p.1.operator) (enumerate_from 0 j.sources) in
    let values = filter (λ p. not (is_check p.1.operator)) (enumerate_from 0 j.sources) in
    let one = one_placed values w.0 (kept_sources (λ s. not (is_check s.operator)) 0 j.sources ∙ w.1.alone) in
    let listed : Has (value_sources_of j.sources) w.0 = subst (λ l. Has l w.0) (sym w.1.alone) (inl refl) in (
      w.0,
      record {
        checks = checks;
        place = one.0;
        placed = ap (λ l. checks ++ l) one.1;
        checked = λ p h. (has_filter (λ q. is_check q.1.operator) (enumerate_from 0 j.sources) p h).0;
        value = not-true (is_check w.0.operator) (has_filter (λ r. not (is_check r.operator)) j.sources w.0 listed).0;
        source = w.1;
      },
    )

-- a source before another one is a check
pub checked_before : (j : Join) (s : Source) (n i : ℕ) (p q : ℕ × Source) → IsLaidOut j s → slice_get (placed_sources j) n ≡ Some q → i < n → slice_get (placed_sources j) i ≡ Some p → is_check p.1.operator ≡ true
checked_before j s n i p q laid there less at =
    let last = slice_get_within (placed_sources j) n q there in
    let long : length (placed_sources j) ≡ length laid.checks + 1 = ap length laid.placed ∙ length-append laid.checks ((laid.place, s) ∷ []) in
    ⊎_elim
    (λ (w : (i < length laid.checks) × Has laid.checks p). laid.checked p w.1)
    (λ w. absurd (omega (arith, w.0, last, long, less)))
    (at_pushed laid.checks (laid.place, s) p i (subst (λ l. slice_get l i ≡ Some p) laid.placed at))

-- a source that is no check is the copy source, which comes last
pub value_last : (j : Join) (s : Source) (i : ℕ) (p : ℕ × Source) → (laid : IsLaidOut j s) → slice_get (placed_sources j) i ≡ Some p → is_check p.1.operator ≡ false → (i ≡ length laid.checks) × ((laid.place, s) ≡ p)
value_last j s i p laid at valued = ⊎_elim
    (λ (w : (i < length laid.checks) × Has laid.checks p). absurd (false≢true (sym valued ∙ laid.checked p w.1)))
    (λ w. w)
    (at_pushed laid.checks (laid.place, s) p i (subst (λ l. slice_get l i ≡ Some p) laid.placed at))
