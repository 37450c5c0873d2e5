-- The beginnings of a text that end with `|`, and the one that the bounds of a range share.
use Rattle.std.proofs.Common.{◌≡◌, ℕ, Bool, true, false, cond, ◌&&◌, ◌||◌, ◌==◌, nat_eq, List, [], ◌∷◌, ◌++◌, filter, refl, sym, ap, ◌∙◌, subst, append_assoc, append-nil, eqb-true}
use Rattle.std.specs.Ordering.{is_le}
use Rattle.std.specs.List.{list_any, starts_with, AllByRecursion}
use Rattle.std.proofs.lemmas.Bool.{false≢true, and_parts, and_from, or_left, or_right}
use Rattle.semantics.specs.Texts.{Text, bar, brace, same, table_of, is_range, Range, within}
use Rattle.key_ranges.specs.Ranges.{is_below, closed}
use Rattle.key_ranges.specs.Containing.{barred_from, barred, holds_bounds, last_or_empty, shared_beginning}
use Rattle.key_ranges.specs.ContainingLaws.{IsBarredBeginning}
use Rattle.key_ranges.proofs.OrderLemmas.{is_up_to, up_to_is, up_to_trans, below_up_to}
use Rattle.key_ranges.proofs.PrefixLemmas.{nothing_up_to, within_prefix, text_cmp-append, closed_push, within-prefix_range, named}
use Rattle.key_ranges.proofs.RangeLemmas.{bounds_of, bar_of_names, table_up_to, up_to_table}

-- ---- the beginnings that are listed

-- `|` ends one more beginning
pub barred_from-cut : (before : Text) (b : ℕ) (bs : Text) → (b == bar) ≡ true → barred_from before (b ∷ bs) ≡ (before ++ b ∷ []) ∷ barred_from (before ++ b ∷ []) bs
barred_from-cut before b bs e = rw e

-- another byte ends none
pub barred_from-onto : (before : Text) (b : ℕ) (bs : Text) → (b == bar) ≡ false → barred_from before (b ∷ bs) ≡ barred_from (before ++ b ∷ []) bs
barred_from-onto before b bs e = rw e

-- one byte more
beginnings_by : (before : Text) (b : ℕ) (bs : Text) (x : Bool) → (b == bar) ≡ x
    → AllByRecursion (IsBarredBeginning ((before ++ b ∷ []) ++ bs)) (barred_from (before ++ b ∷ []) bs)
    → AllByRecursion (IsBarredBeginning (before ++ b ∷ bs)) (barred_from before (b ∷ bs))
beginnings_by before b bs true e ih =
    let at_b : b ≡ bar = eqb-true b bar e in
    let old = subst (λ t. AllByRecursion (IsBarredBeginning t) (barred_from (before ++ b ∷ []) bs)) (append_assoc before (b ∷ []) bs) ih in
    subst (AllByRecursion (IsBarredBeginning (before ++ b ∷ bs))) (sym (barred_from-cut before b bs e))
    ((before, bs, ap (λ x. before ++ x ∷ []) at_b, ap (λ x. before ++ x ∷ bs) at_b), old)
beginnings_by before b bs false e ih =
    let old = subst (λ t. AllByRecursion (IsBarredBeginning t) (barred_from (before ++ b ∷ []) bs)) (append_assoc before (b ∷ []) bs) ih in
    subst (AllByRecursion (IsBarredBeginning (before ++ b ∷ bs))) (sym (barred_from-onto before b bs e)) old

-- what is listed after a text are beginnings of both together
beginnings_from : (before t : Text) → AllByRecursion (IsBarredBeginning (before ++ t)) (barred_from before t)
beginnings_from before [] = tt
beginnings_from before (b ∷ bs) = beginnings_by before b bs (b == bar) refl (beginnings_from (before ++ b ∷ []) bs)

-- what is listed are beginnings that end with `|`
pub barred_are_beginnings : (t : Text) → AllByRecursion (IsBarredBeginning t) (barred t)
barred_are_beginnings t = beginnings_from [] t

-- one byte more leaves what passes
passes_by : (test : Text → Bool) (before : Text) (b : ℕ) (bs : Text) (x : Bool) → (b == bar) ≡ x → list_any test (barred_from (before ++ b ∷ []) bs) ≡ true → list_any test (barred_from before (b ∷ bs)) ≡ true
passes_by test before b bs true e h = ap (list_any test) (barred_from-cut before b bs e) ∙ or_right _ _ h
passes_by test before b bs false e h = ap (list_any test) (barred_from-onto before b bs e) ∙ h

-- each beginning that ends with `|` is listed, also behind a text
listed_from : (test : Text → Bool) (before front rest : Text) → test ((before ++ front) ++ bar ∷ []) ≡ true → list_any test (barred_from before (front ++ bar ∷ rest)) ≡ true
listed_from test before [] rest h = or_left (test (before ++ bar ∷ [])) _ (subst (λ t. test (t ++ bar ∷ []) ≡ true) (append-nil before) h)
listed_from test before (b ∷ bs) rest h =
    passes_by test before b (bs ++ bar ∷ rest) (b == bar) refl
    (listed_from test (before ++ b ∷ []) bs rest (subst (λ t. test (t ++ bar ∷ []) ≡ true) (sym (append_assoc before (b ∷ []) bs)) h))

-- each beginning that ends with `|` is listed
pub listed_beginning : (test : Text → Bool) (front rest : Text) → test (front ++ bar ∷ []) ≡ true → list_any test (barred (front ++ bar ∷ rest)) ≡ true
listed_beginning test front rest h = listed_from test [] front rest h

-- one byte more on the first text
append_by : (before : Text) (b : ℕ) (bs more : Text) (x : Bool) → (b == bar) ≡ x
    → barred_from (before ++ b ∷ []) (bs ++ more) ≡ barred_from (before ++ b ∷ []) bs ++ barred_from ((before ++ b ∷ []) ++ bs) more
    → barred_from before (b ∷ bs ++ more) ≡ barred_from before (b ∷ bs) ++ barred_from (before ++ b ∷ bs) more
append_by before b bs more true e ih =
    rw (barred_from-cut before b (bs ++ more) e, barred_from-cut before b bs e, ih, append_assoc before (b ∷ []) bs)
append_by before b bs more false e ih =
    rw (barred_from-onto before b (bs ++ more) e, barred_from-onto before b bs e, ih, append_assoc before (b ∷ []) bs)

-- what is listed of two texts in a row
pub barred_from-append : (before t more : Text) → barred_from before (t ++ more) ≡ barred_from before t ++ barred_from (before ++ t) more
barred_from-append before [] more = ap (λ u. barred_from u more) (sym (append-nil before))
barred_from-append before (b ∷ bs) more = append_by before b bs more (b == bar) refl (barred_from-append (before ++ b ∷ []) bs more)

-- what is listed of one byte
one_byte : (before : Text) (b : ℕ) (x : Bool) → (b == bar) ≡ x → barred_from before (b ∷ []) ≡ cond x ((before ++ b ∷ []) ∷ []) []
one_byte before b true e = barred_from-cut before b [] e
one_byte before b false e = barred_from-onto before b [] e

-- what is listed of a text with one byte more
pub barred_push : (t : Text) (b : ℕ) → barred (t ++ b ∷ []) ≡ barred t ++ cond (b == bar) ((t ++ b ∷ []) ∷ []) []
barred_push t b = barred_from-append [] t (b ∷ []) ∙ ap (λ l. barred t ++ l) (one_byte t b (b == bar) refl)

-- ---- the last that passes

-- the last of a list with one more
pub last_or_empty_push : (ts : List Text) (t : Text) → last_or_empty (ts ++ t ∷ []) ≡ t
last_or_empty_push [] t = refl
last_or_empty_push (u ∷ []) t = refl
last_or_empty_push (u ∷ v ∷ ts) t = last_or_empty_push (v ∷ ts) t

-- what holds of the last of a list that is not empty
last_has : (P : Text → Type 0) (t : Text) (ts : List Text) → AllByRecursion P (t ∷ ts) → P (last_or_empty (t ∷ ts))
last_has P t [] h = h.0
last_has P t (u ∷ us) h = last_has P u us h.1

-- one element more, kept or not
kept_by : (P : Text → Type 0) (test : Text → Bool) (t : Text) (ts : List Text) (x : Bool) → test t ≡ x → P t → AllByRecursion (λ u. P u × (test u ≡ true)) (filter test ts) → AllByRecursion (λ u. P u × (test u ≡ true)) (filter test (t ∷ ts))
kept_by P test t ts true e p ih = rw e ((p, e), ih)
kept_by P test t ts false e p ih = rw e ih

-- each element of a list that passes a test has both
kept_all : (P : Text → Type 0) (test : Text → Bool) (ts : List Text) → AllByRecursion P ts → AllByRecursion (λ t. P t × (test t ≡ true)) (filter test ts)
kept_all P test [] h = tt
kept_all P test (t ∷ ts) h = kept_by P test t ts (test t) refl h.0 (kept_all P test ts h.1)

-- one element more, kept or not
some_by : (test : Text → Bool) (t : Text) (ts : List Text) (x : Bool) → test t ≡ x → (x || list_any test ts) ≡ true
    → (list_any test ts ≡ true → (u : Text) × (us : List Text) × (filter test ts ≡ u ∷ us)) → (u : Text) × (us : List Text) × (filter test (t ∷ ts) ≡ u ∷ us)
some_by test t ts true e h ih = (t, filter test ts, rw e)
some_by test t ts false e h ih = let w = ih h in (w.0, w.1, rw e w.2)

-- a list of which some element passes a test keeps one
some_kept : (test : Text → Bool) (ts : List Text) → list_any test ts ≡ true → (t : Text) × (us : List Text) × (filter test ts ≡ t ∷ us)
some_kept test [] h = absurd (false≢true h)
some_kept test (t ∷ ts) h = some_by test t ts (test t) refl h (some_kept test ts)

-- the last element that passes a test passes it, and has what all have
pub last_kept : (P : Text → Type 0) (test : Text → Bool) (ts : List Text) → AllByRecursion P ts → list_any test ts ≡ true → P (last_or_empty (filter test ts)) × (test (last_or_empty (filter test ts)) ≡ true)
last_kept P test ts all any =
    let w = some_kept test ts any in
    let kept = subst (AllByRecursion (λ t. P t × (test t ≡ true))) w.2 (kept_all P test ts all) in
    subst (λ us. P (last_or_empty us) × (test (last_or_empty us) ≡ true)) (sym w.2) (last_has (λ t. P t × (test t ≡ true)) w.0 w.1 kept)

-- ---- the shared beginning

-- a range's first bound begins with its shared beginning, which ends with `|` and whose range holds both bounds
pub shared_is_beginning : (r : Range) → is_range r.low r.high ≡ true → IsBarredBeginning r.low (shared_beginning r) × (holds_bounds r (shared_beginning r) ≡ true)
shared_is_beginning r h =
    let table = named r.low (bar_of_names r.low (bounds_of r.low r.high h).names) in
    let holds : holds_bounds r (table_of r.low ++ bar ∷ []) ≡ true =
    and_from _ _ (table_up_to r.low r.high h) (rw closed_push (up_to_table r.low r.high h)) in
    let listed : list_any (holds_bounds r) (barred r.low) ≡ true =
    subst (λ t. list_any (holds_bounds r) (barred t) ≡ true) (sym table.1) (listed_beginning (holds_bounds r) (table_of r.low) table.0 holds) in
    last_kept (IsBarredBeginning r.low) (holds_bounds r) (barred r.low) (barred_are_beginnings r.low) listed

-- a beginning of the first bound holds both bounds exactly where the last one begins with it too, or is it with `}` in the place of `|`
pub holds_bounds_is : (r : Range) (front rest : Text) → r.low ≡ front ++ bar ∷ rest → is_up_to r.low r.high ≡ true
    → holds_bounds r (front ++ bar ∷ []) ≡ (starts_with nat_eq r.high (front ++ bar ∷ []) || same r.high (front ++ brace ∷ []))
holds_bounds_is r front rest begins ascend =
    let q = front ++ bar ∷ [] in
    let low : is_up_to q r.low ≡ true =
    subst (λ t. is_up_to q t ≡ true) (sym begins) (ap is_le (text_cmp-append front (bar ∷ []) (bar ∷ rest)) ∙ nothing_up_to rest) in
    let high : is_up_to q r.high ≡ true = up_to_trans q r.low r.high low ascend in
    let below : is_below r.high (front ++ brace ∷ []) ≡ starts_with nat_eq r.high q =
    ap (λ x. x && is_below r.high (front ++ brace ∷ [])) (sym high) ∙ within_prefix front r.high in
    rw (low, closed_push) (up_to_is r.high (front ++ brace ∷ []) ∙ ap (λ x. x || same r.high (front ++ brace ∷ [])) below)

-- each key of a range begins with the shared beginning
pub within_shared : (r : Range) (front key : Text) → shared_beginning r ≡ front ++ bar ∷ [] → holds_bounds r (shared_beginning r) ≡ true → within r key ≡ true → starts_with nat_eq key (front ++ bar ∷ []) ≡ true
within_shared r front key is holds h =
    let q = front ++ bar ∷ [] in
    let both = and_parts (is_up_to q r.low) (is_up_to r.high (closed q)) (subst (λ t. holds_bounds r t ≡ true) is holds) in
    let inside = and_parts (is_up_to r.low key) (is_below key r.high) h in
    sym (within-prefix_range front key) ∙ and_from _ _ (up_to_trans q r.low key both.0 inside.0) (below_up_to key r.high (closed q) inside.1 both.1)
