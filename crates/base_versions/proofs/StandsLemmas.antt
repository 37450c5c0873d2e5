-- What is kept of a history, and what it says of it.
use Rattle.std.proofs.Common.{◌≡◌, ℕ, ◌≤◌, List, [], ◌∷◌, filter, take, Bool, true, false, cond, Option, Some, None, refl, sym, ap, ◌∙◌, subst, Ordering, Less, Equal, Greater, is_lt, is_eq}
use Rattle.std.specs.List.{AllByRecursion}
use Rattle.std.specs.List.Sorted.{IsStrictlySortedBy}
use Rattle.std.specs.Map.{lookup, keys_of}
use Rattle.std.specs.Option.{unwrap_or, option_map, option_and_then}
use Rattle.std.specs.List.{cons_option}
use Rattle.std.specs.BTreeMap.{is_at}
use Rattle.std.specs.FinMap.Entries.{below_all}
use Rattle.std.specs.Ordering.{eq_by_cmp, ordering_reverse}
use Rattle.std.proofs.lemmas.Bool.{and_from, and_parts, false≢true}
use Rattle.std.proofs.lemmas.Map.Entries.{lookup-filter-keys}
use Rattle.std.proofs.lemmas.Map.Keys.{sorted_head, sorted_tail}
use Rattle.semantics.specs.Texts.{Text, text_cmp, Table, value_at, table_of, is_range, Range, within, pairs_within}
use Rattle.semantics.specs.Histories.{History, base_of}
use Rattle.semantics.proofs.TableLemmas.{IsAscending, text_total, tie_itself, equal_by_tie, same_tables, ascending-pairs_where, value_at-pairs_where}
use Rattle.semantics.proofs.BaseLemmas.{ascending-base_of}
use Rattle.key_ranges.proofs.RangeLemmas.{within_table}
use Rattle.base_versions.specs.declared.versions.Version.{Version}
use Rattle.base_versions.specs.Versions.{AscendFrom, AllAscend, Tracks, SayFrom, versions_at, versions_of, value_in, pairs_by, pairs_in}
use Rattle.base_versions.specs.Kept.{TableKept, Kept, table_in, has_table, StandsFor}
use Rattle.base_versions.proofs.VersionLemmas.{ascend-say_from, value_in-say_from}

-- ---- maps in order

less_first : (k : Text) (ts : Tracks) → AllByRecursion (λ y. text_cmp k y ≡ Less) (keys_of ts) → AllByRecursion (λ t. text_cmp k t.0 ≡ Less) ts
less_first k [] a = tt
less_first k (t ∷ ts) a = (a.0, less_first k ts a.1)

-- a key above another does not tie with it
apart : (k q : Text) → text_cmp k q ≡ Less → is_at (text_cmp q) k ≡ false
apart k q h = ap is_eq (text_total.antisymm q k) ∙ ap (λ o. is_eq (ordering_reverse o)) h

all_later : (t : Text × List Version) (us ts : Tracks) → AllByRecursion (λ u. text_cmp t.0 u.0 ≡ Less) us → AllByRecursion (λ u. lookup (is_at (text_cmp u.0)) ts ≡ Some u.1) us → AllByRecursion (λ u. lookup (is_at (text_cmp u.0)) (t ∷ ts) ≡ Some u.1) us
all_later t [] ts l f = tt
all_later t (u ∷ us) ts l f = (ap (λ b. cond b (Some t.1) (lookup (is_at (text_cmp u.0)) ts)) (apart t.0 u.0 l.0) ∙ f.0, all_later t us ts l.1 f.1)

-- each entry of a map is what is found at its key
found : (ts : Tracks) → IsStrictlySortedBy text_cmp (keys_of ts) → AllByRecursion (λ t. lookup (is_at (text_cmp t.0)) ts ≡ Some t.1) ts
found [] s = tt
found (t ∷ ts) s = (
  ap (λ o. cond (is_eq o) (Some t.1) (lookup (is_at (text_cmp t.0)) ts)) (tie_itself t.0),
  all_later t ts ts (less_first t.0 ts (sorted_head text_cmp t.0 (keys_of ts) s)) (found ts (sorted_tail text_cmp t.0 (keys_of ts) s)),
)

-- ---- the pairs

-- the pair of a key and its value, before others, where it has one
abbrev onto : Option Text → Text → Table → Table
onto value k rest = cons_option (option_map (λ v. (k, v)) value) rest

below_onto : (value : Option Text) (x k : Text) (rest : Table) → text_cmp x k ≡ Less → below_all text_cmp x rest ≡ true → below_all text_cmp x (onto value k rest) ≡ true
below_onto None x k rest l h = h
below_onto (Some v) x k rest l h = and_from _ _ (ap is_lt l) h

below_pairs : (f : List Version → Option Text) (x : Text) (ts : Tracks) → AllByRecursion (λ t. text_cmp x t.0 ≡ Less) ts → below_all text_cmp x (pairs_by f ts) ≡ true
below_pairs f x [] a = refl
below_pairs f x (t ∷ ts) a = below_onto (f t.1) x t.0 (pairs_by f ts) a.0 (below_pairs f x ts a.1)

ascending_onto : (value : Option Text) (k : Text) (rest : Table) → below_all text_cmp k rest ≡ true → IsAscending rest → IsAscending (onto value k rest)
ascending_onto None k rest b h = h
ascending_onto (Some v) k rest b h = and_from _ _ b h

-- the pairs of a map ascend
pub ascending-pairs_by : (f : List Version → Option Text) (ts : Tracks) → IsStrictlySortedBy text_cmp (keys_of ts) → IsAscending (pairs_by f ts)
ascending-pairs_by f [] s = refl
ascending-pairs_by f (t ∷ ts) s =
    ascending_onto (f t.1) t.0 (pairs_by f ts) (below_pairs f t.0 ts (less_first t.0 ts (sorted_head text_cmp t.0 (keys_of ts) s)))
    (ascending-pairs_by f ts (sorted_tail text_cmp t.0 (keys_of ts) s))

value_onto : (value : Option Text) (q k : Text) (rest : Table) (b : Bool) → eq_by_cmp text_cmp q k ≡ b → (b ≡ true → value_at q rest ≡ None) → value_at q (onto value k rest) ≡ cond b value (value_at q rest)
value_onto None q k rest true e none = none refl
value_onto None q k rest false e none = refl
value_onto (Some v) q k rest b e none = ap (λ x. cond x (Some v) (value_at q rest)) e

chosen : (f : List Version → Option Text) (b : Bool) (t : Text × List Version) (o : Option (List Version)) → cond b (f t.1) (option_and_then f o) ≡ option_and_then f (cond b (Some t.1) o)
chosen f true t o = refl
chosen f false t o = refl

less_apart : (o : Ordering) → is_lt o ≡ true → is_eq o ≡ false
less_apart Less h = refl
less_apart Equal h = absurd (false≢true h)
less_apart Greater h = refl

-- a key below all has no pair
none_below : (q : Text) (es : Table) → below_all text_cmp q es ≡ true → value_at q es ≡ None
none_below q [] h = refl
none_below q (e ∷ es) h =
    let parts = and_parts (is_lt (text_cmp q e.0)) (below_all text_cmp q es) h in
    ap (λ b. cond b (Some e.1) (value_at q es)) (less_apart (text_cmp q e.0) parts.0) ∙ none_below q es parts.1

equal_from : (o : Ordering) → is_eq o ≡ true → o ≡ Equal
equal_from Less h = absurd (false≢true h)
equal_from Equal h = refl
equal_from Greater h = absurd (false≢true h)

-- the pair at a key is made of the key's versions
pub value_at-pairs_by : (f : List Version → Option Text) (q : Text) (ts : Tracks) → IsStrictlySortedBy text_cmp (keys_of ts) → value_at q (pairs_by f ts) ≡ option_and_then f (lookup (is_at (text_cmp q)) ts)
value_at-pairs_by f q [] s = refl
value_at-pairs_by f q (t ∷ ts) s =
    let rest = pairs_by f ts in
    let below = below_pairs f t.0 ts (less_first t.0 ts (sorted_head text_cmp t.0 (keys_of ts) s)) in
    value_onto (f t.1) q t.0 rest (eq_by_cmp text_cmp q t.0) refl (λ e.
    none_below q rest (ap (λ k. below_all text_cmp k rest) (equal_by_tie q t.0 (equal_from (text_cmp q t.0) e)) ∙ below))
    ∙ ap (cond (eq_by_cmp text_cmp q t.0) (f t.1)) (value_at-pairs_by f q ts (sorted_tail text_cmp t.0 (keys_of ts) s))
    ∙ chosen f (eq_by_cmp text_cmp q t.0) t (lookup (is_at (text_cmp q)) ts)

-- ---- what is kept of a table, and the base pairs

-- the part of a table in a range
abbrev pub part : Range → Tracks → Tracks
part r ts = filter (λ t. within r t.0) ts

found_versions : (o : Option (List Version)) (vs : List Version) → o ≡ Some vs → vs ≡ unwrap_or o []
found_versions o vs e = sym (ap (λ x. unwrap_or x []) e)

-- the versions of the keys of a range say from the start on what those say that the history gave them
pub said_versions : (start : ℕ) (kept : Kept) (h : History) (r : Range) (table : TableKept) → StandsFor start kept h → has_table kept (table_of r.low) ≡ true → is_range r.low r.high ≡ true →
    table_in (table_of r.low) kept ≡ table → (q : Text) → within r q ≡ true → SayFrom start (versions_at q table.tracks) (versions_of q h)
said_versions start kept h r table s own ok is q inside =
    let of_table = within_table r q ok inside in
    subst (λ (t : TableKept). SayFrom start (versions_at q t.tracks) (versions_of q h)) (ap (λ name. table_in name kept) of_table ∙ is)
    (s.versions q (ap (has_table kept) of_table ∙ own))

ascend_by : (b : Bool) (t : Text × List Version) (ts : Tracks) → (b ≡ true → AscendFrom 0 t.1) → AllAscend ts → AllAscend (cond b (t ∷ ts) ts)
ascend_by true t ts h a = (h refl, a)
ascend_by false t ts h a = a

ascend_part : (r : Range) (all ts : Tracks) → ((q : Text) → within r q ≡ true → AscendFrom 0 (versions_at q all)) → AllByRecursion (λ t. lookup (is_at (text_cmp t.0)) all ≡ Some t.1) ts → AllAscend (part r ts)
ascend_part r all [] h f = tt
ascend_part r all (t ∷ ts) h f =
    ascend_by (within r t.0) t (part r ts) (λ inside. subst (AscendFrom 0) (sym (found_versions (lookup (is_at (text_cmp t.0)) all) t.1 f.0)) (h t.0 inside)) (ascend_part r all ts h f.1)

-- the versions of the keys of a range ascend
pub ascend-kept : (start : ℕ) (kept : Kept) (h : History) (r : Range) (table : TableKept) → StandsFor start kept h → has_table kept (table_of r.low) ≡ true → is_range r.low r.high ≡ true →
    table_in (table_of r.low) kept ≡ table → IsStrictlySortedBy text_cmp (keys_of table.tracks) → AllAscend (part r table.tracks)
ascend-kept start kept h r table s own ok is sorted =
    ascend_part r table.tracks table.tracks
    (λ q inside. ascend-say_from start (versions_at q table.tracks) q h (said_versions start kept h r table s own ok is q inside))
    (found table.tracks sorted)

less_by : (b : Bool) (k : Text) (t : Text × List Version) (ts : Tracks) → text_cmp k t.0 ≡ Less → AllByRecursion (λ y. text_cmp k y ≡ Less) (keys_of ts) → AllByRecursion (λ y. text_cmp k y ≡ Less) (keys_of (cond b (t ∷ ts) ts))
less_by true k t ts l a = (l, a)
less_by false k t ts l a = a

less_part : (r : Range) (k : Text) (ts : Tracks) → AllByRecursion (λ y. text_cmp k y ≡ Less) (keys_of ts) → AllByRecursion (λ y. text_cmp k y ≡ Less) (keys_of (part r ts))
less_part r k [] a = tt
less_part r k (t ∷ ts) a = less_by (within r t.0) k t (part r ts) a.0 (less_part r k ts a.1)

sorted_by : (b : Bool) (t : Text × List Version) (ts : Tracks) → AllByRecursion (λ y. text_cmp t.0 y ≡ Less) (keys_of ts) → IsStrictlySortedBy text_cmp (keys_of ts) → IsStrictlySortedBy text_cmp (keys_of (cond b (t ∷ ts) ts))
unfolding IsStrictlySortedBy
sorted_by true t ts l s = (l, s)
sorted_by false t ts l s = s

-- the keys of a range ascend
pub sorted_part : (r : Range) (ts : Tracks) → IsStrictlySortedBy text_cmp (keys_of ts) → IsStrictlySortedBy text_cmp (keys_of (part r ts))
sorted_part r [] s = s
sorted_part r (t ∷ ts) s =
    sorted_by (within r t.0) t (part r ts) (less_part r t.0 ts (sorted_head text_cmp t.0 (keys_of ts) s)) (sorted_part r ts (sorted_tail text_cmp t.0 (keys_of ts) s))

of_versions : (f : List Version → Option Text) (o : Option (List Version)) → f [] ≡ None → option_and_then f o ≡ f (unwrap_or o [])
of_versions f None none = sym none
of_versions f (Some vs) none = refl

in_part : (f : List Version → Option Text) (b : Bool) (o : Option (List Version)) (value : Option Text) → f [] ≡ None → (b ≡ true → f (unwrap_or o []) ≡ value) → option_and_then f (cond b o None) ≡ cond b value None
in_part f true o value none h = of_versions f o none ∙ h refl
in_part f false o value none h = refl

-- what is made of the versions of a range's keys, at a key
pub value_at-part : (f : List Version → Option Text) (r : Range) (ts : Tracks) (q : Text) (value : Option Text) → IsStrictlySortedBy text_cmp (keys_of ts) → f [] ≡ None → (within r q ≡ true → f (versions_at q ts) ≡ value) →
    value_at q (pairs_by f (part r ts)) ≡ cond (within r q) value None
value_at-part f r ts q value sorted none h =
    value_at-pairs_by f q (part r ts) (sorted_part r ts sorted)
    ∙ ap (option_and_then f) (lookup-filter-keys (is_at (text_cmp q)) (within r) (within r q) (λ k e. ap (within r) (sym (equal_by_tie q k (equal_from (text_cmp q k) e)))) ts)
    ∙ in_part f (within r q) (lookup (is_at (text_cmp q)) ts) value none h

-- the pairs of a range are the base pairs
pub pairs-kept : (start : ℕ) (kept : Kept) (h : History) (r : Range) (p : ℕ) (table : TableKept) → StandsFor start kept h → start ≤ p → has_table kept (table_of r.low) ≡ true → is_range r.low r.high ≡ true →
    table_in (table_of r.low) kept ≡ table → IsStrictlySortedBy text_cmp (keys_of table.tracks) → pairs_in p (part r table.tracks) ≡ pairs_within r (base_of (take p h))
pairs-kept start kept h r p table s g own ok is sorted =
    let base = base_of (take p h) in
    same_tables (pairs_in p (part r table.tracks)) (pairs_within r base)
    (ascending-pairs_by (value_in p) (part r table.tracks) (sorted_part r table.tracks sorted))
    (ascending-pairs_where (within r) base (ascending-base_of (take p h)))
    (λ q.
    value_at-part (value_in p) r table.tracks q (value_at q base) sorted refl (λ inside. value_in-say_from start (versions_at q table.tracks) q h p (said_versions start kept h r table s own ok is q inside) g)
    ∙ sym (value_at-pairs_where (within r) q base))
