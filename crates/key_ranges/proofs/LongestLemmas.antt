-- The shared beginning of a range is the longest that holds both bounds.
use Rattle.std.proofs.Common.{◌≡◌, ℕ, ◌≤◌, Bool, true, false, ◌&&◌, ◌||◌, ◌==◌, List, [], ◌∷◌, ◌++◌, length, filter, refl, sym, subst, ⊎_elim, arith, length-append}
use Rattle.std.specs.List.{list_any, AllByRecursion}
use Rattle.std.proofs.lemmas.Bool.{false≢true, and_from, or_cases}
use Rattle.semantics.specs.Texts.{Text, bar, same, Range}
use Rattle.semantics.proofs.PieceLemmas.{equal_by_same, same_by_equal}
use Rattle.key_ranges.specs.Containing.{barred_from, barred, holds_bounds, last_or_empty, shared_beginning}
use Rattle.key_ranges.specs.ContainingLaws.{IsBarredBeginning, SharedIsLongest}
use Rattle.key_ranges.proofs.BeginningLemmas.{barred_from-cut, barred_from-onto, listed_beginning, shared_is_beginning}

-- each text is at least as long as the one before it, and the first as a number
abbrev Lengthens : ℕ → List Text → Type 0
Lengthens n [] = Unit {0}
Lengthens n (t ∷ ts) = (n ≤ length t) × Lengthens (length t) ts

-- so it is from a lesser number on
lengthens_from : (n m : ℕ) (ts : List Text) → n ≤ m → Lengthens m ts → Lengthens n ts
lengthens_from n m [] less h = tt
lengthens_from n m (t ∷ ts) less h = (omega (arith, less, h.0), h.1)

-- one byte more
lengthen_by : (before : Text) (b : ℕ) (bs : Text) (x : Bool) → (b == bar) ≡ x → Lengthens (length (before ++ b ∷ [])) (barred_from (before ++ b ∷ []) bs) → Lengthens (length before) (barred_from before (b ∷ bs))
lengthen_by before b bs true e h = subst (Lengthens (length before)) (sym (barred_from-cut before b bs e)) (omega (arith, length-append before (b ∷ [])), h)
lengthen_by before b bs false e h =
    subst (Lengthens (length before)) (sym (barred_from-onto before b bs e))
    (lengthens_from (length before) (length (before ++ b ∷ [])) (barred_from (before ++ b ∷ []) bs) (omega (arith, length-append before (b ∷ []))) h)

-- the listed beginnings lengthen
listed_lengthen : (before t : Text) → Lengthens (length before) (barred_from before t)
listed_lengthen before [] = tt
listed_lengthen before (b ∷ bs) = lengthen_by before b bs (b == bar) refl (listed_lengthen (before ++ b ∷ []) bs)

-- one text more, kept or not
kept_lengthen_by : (test : Text → Bool) (n : ℕ) (t : Text) (ts : List Text) (x : Bool) → test t ≡ x → Lengthens n (t ∷ ts) → Lengthens (length t) (filter test ts) → Lengthens n (filter test (t ∷ ts))
kept_lengthen_by test n t ts true e h ih = rw e (h.0, ih)
kept_lengthen_by test n t ts false e h ih = rw e (lengthens_from n (length t) (filter test ts) h.0 ih)

-- so do those that pass a test
kept_lengthen : (test : Text → Bool) (n : ℕ) (ts : List Text) → Lengthens n ts → Lengthens n (filter test ts)
kept_lengthen test n [] h = tt
kept_lengthen test n (t ∷ ts) h = kept_lengthen_by test n t ts (test t) refl h (kept_lengthen test (length t) ts h.1)

-- no text is longer than another
abbrev AreUpTo : Text → List Text → Type 0
AreUpTo longest ts = AllByRecursion (λ t. length t ≤ length longest) ts

-- the last of texts that lengthen is the longest
last_longest : (t : Text) (ts : List Text) → Lengthens (length t) ts → AreUpTo (last_or_empty (t ∷ ts)) (t ∷ ts)
last_longest t [] h = (omega arith, tt)
last_longest t (u ∷ us) h =
    let rest = last_longest u us h.1 in
    (omega (arith, h.0, rest.0), rest)

-- of all such texts
all_up_to_last : (n : ℕ) (ts : List Text) → Lengthens n ts → AreUpTo (last_or_empty ts) ts
all_up_to_last n [] h = tt
all_up_to_last n (t ∷ ts) h = last_longest t ts h.1

-- one text more, kept or not
has_by : (P : Text → Type 0) (test : Text → Bool) (other t : Text) (ts : List Text) (x : Bool) → test t ≡ x → ((x && same t other) || list_any (λ u. test u && same u other) ts) ≡ true
    → AllByRecursion P (filter test (t ∷ ts)) → (AllByRecursion P (filter test ts) → list_any (λ u. test u && same u other) ts ≡ true → P other) → P other
has_by P test other t ts true e any all rest =
    let kept : AllByRecursion P (t ∷ filter test ts) = rw e at all in
    ⊎_elim (λ (s : same t other ≡ true). subst P (equal_by_same t other s) kept.0) (λ later. rest kept.1 later) (or_cases (same t other) _ any)
has_by P test other t ts false e any all rest = rest (rw e at all) any

-- what all have that pass a test, one that passes it has
kept_has : (P : Text → Type 0) (test : Text → Bool) (other : Text) (ts : List Text) → AllByRecursion P (filter test ts) → list_any (λ u. test u && same u other) ts ≡ true → P other
kept_has P test other [] all any = absurd (false≢true any)
kept_has P test other (t ∷ ts) all any = has_by P test other t ts (test t) refl any all (kept_has P test other ts)

-- no beginning that holds both bounds is longer than the shared one
longest : (r : Range) (other : Text) → IsBarredBeginning r.low other → holds_bounds r other ≡ true → length other ≤ length (shared_beginning r)
longest r other begins holds =
    let front = begins.0 in
    let up = all_up_to_last 0 (filter (holds_bounds r) (barred r.low)) (kept_lengthen (holds_bounds r) 0 (barred r.low) (listed_lengthen [] r.low)) in
    let passes : (holds_bounds r (front ++ bar ∷ []) && same (front ++ bar ∷ []) other) ≡ true =
    and_from _ _ (subst (λ q. holds_bounds r q ≡ true) begins.2 holds) (same_by_equal (front ++ bar ∷ []) other (sym begins.2)) in
    let listed : list_any (λ u. holds_bounds r u && same u other) (barred r.low) ≡ true =
    subst (λ t. list_any (λ u. holds_bounds r u && same u other) (barred t) ≡ true) (sym begins.3) (listed_beginning (λ u. holds_bounds r u && same u other) front begins.1 passes) in
    kept_has (λ t. length t ≤ length (shared_beginning r)) (holds_bounds r) other (barred r.low) up listed

-- the shared beginning of a range is the longest that holds both bounds
pub shared_is_longest : SharedIsLongest
shared_is_longest r h =
    let w = shared_is_beginning r h in
    record { begins = w.0; holds = w.1; longest = longest r }
