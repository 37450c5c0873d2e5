-- At a key of a bare range that no entry writes the state stays the same.
use Rattle.std.proofs.Common.{◌≡◌, ℕ, zero, suc, ◌+◌, ◌-◌, ◌<◌, ◌≤◌, true, false, cond, not, List, [], ◌∷◌, ◌++◌, length, get_or, take, slice_get, Some, None, IsSomeAnd, refl, sym, ap, ◌∙◌, subst, ⊎_elim, arith, append_assoc}
use Rattle.std.specs.List.{list_all, AllByRecursion}
use Rattle.std.proofs.lemmas.Bool.{false≢true, and_parts, or_from, not-true, false_from_ne_true, cases_lt}
use Rattle.std.proofs.lemmas.List.{take_more, take_all}
use Rattle.std.proofs.lemmas.Option.{slice_get-get_or}
use Rattle.semantics.specs.Texts.{Text, bar, same, table_of, Table, value_at, is_range, Range, within}
use Rattle.semantics.specs.Patterns.{literal, slot, Pattern, is_pattern, segments, fits}
use Rattle.semantics.specs.Joins.{is_join}
use Rattle.semantics.specs.Histories.{Write, put, remove, declare, drop_join, Entry, History, DeclaredJoin, joins_of, base_after, base_of, is_computed}
use Rattle.semantics.specs.States.{below}
use Rattle.semantics.specs.StateLaws.{DeclaresJoins}
use Rattle.semantics.proofs.PieceLemmas.{same_by_equal, equal_by_same, pieces-append}
use Rattle.semantics.proofs.PatternLemmas.{fits_suit, SuitAll}
use Rattle.semantics.proofs.TableLemmas.{value_at-with_pair}
use Rattle.semantics.proofs.MergedLemmas.{value_at-without_key}
use Rattle.semantics.proofs.BaseLemmas.{base_of-push, ascending-base_of, value_at-visible}
use Rattle.semantics.proofs.OutputLemmas.{output_of_join}
use Rattle.semantics.proofs.StateLemmas.{ascending-below, value_at-below_elsewhere}
use Rattle.key_ranges.proofs.PrefixLemmas.{rest_of, named}
use Rattle.key_ranges.proofs.RangeLemmas.{bounds_of, bar_of_names, within_begins}
use Rattle.growing_history.specs.Changes.{has_table, is_bare}
use Rattle.growing_history.specs.ChangeLaws.{Writes, UnchangedIsSame, BareIsBase}
use Rattle.growing_history.proofs.ChangeLemmas.{changed_keys_are_written}
use Rattle.growing_history.proofs.PartLemmas.{same_within}

-- ---- the table of a key

-- the first segment of a key of a range is the name of the range's table
first_segment : (r : Range) (key : Text) → is_range r.low r.high ≡ true → within r key ≡ true → (rest : Text) × (segments key ≡ table_of r.low ∷ segments rest)
first_segment r key range inside =
    let begins = rest_of key (table_of r.low ++ bar ∷ []) (within_begins r key range inside) in
    let name = named r.low (bar_of_names r.low (bounds_of r.low r.high range).names) in
    (begins.0, ap segments (begins.1 ∙ append_assoc (table_of r.low) (bar ∷ []) begins.0) ∙ pieces-append bar (table_of r.low) begins.0 name.2)

-- a pattern whose segments suit texts has its table from the first of them
table_suits : (p : Pattern) (t : Text) (ts : List Text) → is_pattern p ≡ true → SuitAll p (t ∷ ts) → has_table p t ≡ true
table_suits [] t ts pattern suit = absurd suit
table_suits (literal l ∷ ss) t ts pattern suit = same_by_equal l t suit.0
table_suits (slot place width ∷ ss) t ts pattern suit = absurd (false≢true (and_parts _ _ (and_parts _ _ pattern).0).1)

-- a key whose first segment is a table that no output is in fits no output
unfit_in : (key table rest : Text) (joins : List DeclaredJoin) → segments key ≡ table ∷ segments rest → AllByRecursion (λ s. is_join s.join ≡ true) joins
    → list_all (λ s. not (has_table s.join.output table)) joins ≡ true → AllByRecursion (λ s. fits s.join.output key ≡ false) joins
unfit_in key table rest [] e are bare = tt
unfit_in key table rest (s ∷ joins) e are bare =
    let parts = and_parts (not (has_table s.join.output table)) (list_all (λ s. not (has_table s.join.output table)) joins) bare in
    let unfit : fits s.join.output key ≡ false = false_from_ne_true (fits s.join.output key) (λ fit.
    false≢true (sym (not-true (has_table s.join.output table) parts.0) ∙ table_suits s.join.output table (segments rest) (output_of_join s.join are.0) (subst (SuitAll s.join.output) e (fits_suit s.join.output key fit)))) in
    (unfit, unfit_in key table rest joins e are.1 parts.1)

-- a key that fits no output is not computed
uncomputed : (key : Text) (joins : List DeclaredJoin) → AllByRecursion (λ s. fits s.join.output key ≡ false) joins → is_computed joins key ≡ false
uncomputed key [] h = refl
uncomputed key (s ∷ joins) h = or_from (fits s.join.output key) (is_computed joins key) h.0 (uncomputed key joins h.1)

-- ---- the base pair of a key that is not written

-- a write that does not write the key leaves its base pair
base_kept_by : (write : Write) (key : Text) (table : Table) → (Writes write key → ⊥) → value_at key (base_after write table) ≡ value_at key table
base_kept_by (put k v) key table other =
    let apart : same key k ≡ false = false_from_ne_true (same key k) (λ e. other (sym (equal_by_same key k e))) in
    value_at-with_pair key k v table ∙ ap (λ b. cond b (Some v) (value_at key table)) apart
base_kept_by (remove k) key table other =
    let apart : same key k ≡ false = false_from_ne_true (same key k) (λ e. other (sym (equal_by_same key k e))) in
    value_at-without_key key k table ∙ ap (λ b. cond (not b) (value_at key table) None) apart
base_kept_by (declare j) key table other = refl
base_kept_by (drop_join at) key table other = refl

-- the history up to one entry more
taken_more : (h : History) (x : ℕ) → x < length h → (e : Entry) × (slice_get h x ≡ Some e) × (take (x + 1) h ≡ take x h ++ e ∷ [])
taken_more [] x l = absurd (omega arith)
taken_more (first ∷ h) x l = (get_or (first ∷ h) x first, slice_get-get_or (first ∷ h) x first l, take_more (first ∷ h) x first l)

-- one position more, at an entry or past the last
base_kept_once : (h : History) (x : ℕ) (key : Text) → (IsSomeAnd (slice_get h x) (λ e. Writes e.write key) → ⊥) → value_at key (base_of (take (x + 1) h)) ≡ value_at key (base_of (take x h))
base_kept_once h x key other = ⊎_elim
    (λ (l : x < length h).
    let w = taken_more h x l in
    ap (λ k. value_at key (base_of k)) w.2 ∙ ap (value_at key) (base_of-push (take x h) w.0)
    ∙ base_kept_by w.0.write key (base_of (take x h)) (λ writes. other (subst (λ o. IsSomeAnd o (λ e. Writes e.write key)) (sym w.1) writes)))
    (λ past. ap (λ k. value_at key (base_of k)) (take_all (x + 1) h (omega arith) ∙ sym (take_all x h past)))
    (cases_lt x (length h))

-- a key that no entry from q on writes keeps its base pair
pub base_kept : (h : History) (q n : ℕ) (key : Text) → ((x : ℕ) → q ≤ x → x < q + n → IsSomeAnd (slice_get h x) (λ e. Writes e.write key) → ⊥) → value_at key (base_of (take (q + n) h)) ≡ value_at key (base_of (take q h))
base_kept h q zero key other = ap (λ x. value_at key (base_of (take x h))) (omega arith)
base_kept h q (suc n) key other =
    ap (λ x. value_at key (base_of (take x h))) (let e : q + suc n ≡ (q + n) + 1 = omega arith in e)
    ∙ base_kept_once h (q + n) key (other (q + n) (omega arith) (omega arith))
    ∙ base_kept h q n key (λ x up below. other x up (omega arith))

-- ---- the state

-- at a key that no output fits, the state is the base pair
state_is_base : (h : History) (rank : ℕ) (key : Text) → DeclaresJoins h → is_computed (joins_of h) key ≡ false → value_at key (below h rank) ≡ value_at key (base_of h)
state_is_base h rank key declares none =
    value_at-below_elsewhere h rank key declares none ∙ value_at-visible key h ∙ ap (λ b. cond (not b) (value_at key (base_of h)) None) none

-- at a key of a bare range the state is the base pair
pub bare_at : (h : History) (rank : ℕ) (r : Range) (key : Text) → DeclaresJoins h → is_range r.low r.high ≡ true → is_bare r (joins_of h) ≡ true → within r key ≡ true → value_at key (below h rank) ≡ value_at key (base_of h)
bare_at h rank r key declares range bare inside =
    let first = first_segment r key range inside in
    state_is_base h rank key declares (uncomputed key (joins_of h) (unfit_in key (table_of r.low) first.0 (joins_of h) first.1 declares bare))

-- in a bare range the state is the base pairs
pub bare_is_base : BareIsBase
bare_is_base h rank r declares range bare =
    same_within r (below h rank) (base_of h) (ascending-below h rank) (ascending-base_of h) (λ key inside. bare_at h rank r key declares range bare inside)

-- at a key of a range that is bare throughout and that is not changed the state is the same
pub unchanged_is_same : UnchangedIsSame
unchanged_is_same h q p rank r key declares range bare inside unchanged x up down =
    let base : (y : ℕ) → q ≤ y → y ≤ p → value_at key (below (take y h) rank) ≡ value_at key (base_of (take y h)) = λ y from to.
    bare_at (take y h) rank r key (declares y) range (bare y from to) inside in
    let e : q + (x - q) ≡ x = omega arith in
    base x up down
    ∙ ap (λ y. value_at key (base_of (take y h))) (sym e)
    ∙ base_kept h q (x - q) key (λ y from to writes. unchanged ((changed_keys_are_written q p r h key).1 (inside, (y, from, omega arith, writes))))
    ∙ sym (base q (omega arith) (omega arith))
