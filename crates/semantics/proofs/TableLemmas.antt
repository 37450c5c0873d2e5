-- The order of texts, and what a table has at each key.
use Rattle.std.proofs.Common.{◌≡◌, Bool, true, false, cond, T, [], ◌∷◌, Some, None, refl, sym, ap, ◌∙◌, inl, inr, Ordering, Less, Equal, Greater, is_lt, is_eq}
use Rattle.std.specs.Cmp.{IsTotalOrder, tied_itself, unsigned_ties}
use Rattle.std.specs.Cmp.Lexicographic.{nat_list_cmp_total, lists_ties}
use Rattle.std.specs.Ordering.{nat_cmp, eq_by_cmp}
use Rattle.std.specs.FinMap.Entries.{is_sorted, below_all, find-put, is_sorted-put, is_sorted-where_key, find-where_key, same_entries}
use Rattle.std.proofs.lemmas.Bool.{false≢true, and_parts}
use Rattle.std.proofs.lemmas.Option.{same_Some, none-some}
use Rattle.semantics.specs.Texts.{Text, same, text_cmp, Table, value_at, with_pair, pairs_where}
use Rattle.semantics.proofs.PieceLemmas.{equal_by_same, same_by_equal}
use Rattle.semantics.proofs.MemberLemmas.{Has}

-- a test's answer from the fact
answer : (b : Bool) → T b → b ≡ true
answer true h = refl
answer false h = absurd h

-- the fact from a test's answer
fact : (b : Bool) → b ≡ true → T b
fact true e = tt
fact false e = false≢true e

-- ---- the order

-- byte order is total
pub text_total : IsTotalOrder text_cmp
text_total = nat_list_cmp_total

-- texts tie exactly where they are the same
pub same_is_tie : (t u : Text) → same t u ≡ eq_by_cmp text_cmp t u
same_is_tie t u = lists_ties nat_cmp unsigned_ties t u

-- texts that tie are one text
pub equal_by_tie : (t u : Text) → text_cmp t u ≡ Equal → t ≡ u
equal_by_tie t u e = equal_by_same t u (same_is_tie t u ∙ ap is_eq e)

-- a text ties with itself
pub tie_itself : (t : Text) → text_cmp t t ≡ Equal
tie_itself t = tied_itself text_total t

-- ---- look-ups

-- a table's keys ascend
abbrev pub IsAscending : Table → Type 0
IsAscending table = is_sorted text_cmp table ≡ true

-- the first pair has the value at its key
pub value_at_here : (q : Text) (e : Text × Text) (es : Table) → same q e.0 ≡ true → value_at q (e ∷ es) ≡ Some e.1
value_at_here q e es s = ap (λ b. cond b (Some e.1) (value_at q es)) (sym (same_is_tie q e.0) ∙ s)

-- at another key stands what the later pairs have
pub value_at_later : (q : Text) (e : Text × Text) (es : Table) → same q e.0 ≡ false → value_at q (e ∷ es) ≡ value_at q es
value_at_later q e es s = ap (λ b. cond b (Some e.1) (value_at q es)) (sym (same_is_tie q e.0) ∙ s)

-- a table with one pair more has its value at its key, and elsewhere what it had
pub value_at-with_pair : (q key value : Text) (table : Table) → value_at q (with_pair key value table) ≡ cond (same q key) (Some value) (value_at q table)
value_at-with_pair q key value table = find-put text_cmp text_total q key value table ∙ ap (λ b. cond b (Some value) (value_at q table)) (sym (same_is_tie q key))

-- a key is new or is in its place: the keys still ascend
pub ascending-with_pair : (key value : Text) (table : Table) → IsAscending table → IsAscending (with_pair key value table)
ascending-with_pair key value table h = answer _ (is_sorted-put text_cmp text_total key value table (fact _ h))

-- the pairs that pass still ascend
pub ascending-pairs_where : (test : Text → Bool) (table : Table) → IsAscending table → IsAscending (pairs_where test table)
ascending-pairs_where test table h = answer _ (is_sorted-where_key text_cmp test table (fact _ h))

-- a table's pairs that pass have its value at a key that passes, and none at another
pub value_at-pairs_where : (test : Text → Bool) (q : Text) (table : Table) → value_at q (pairs_where test table) ≡ cond (test q) (value_at q table) None
value_at-pairs_where test q table = find-where_key text_cmp test q (λ x e. ap test (sym (equal_by_tie q x e))) table

-- tables with the same value at each key are one table
pub same_tables : (table other : Table) → IsAscending table → IsAscending other → ((q : Text) → value_at q table ≡ value_at q other) → table ≡ other
same_tables table other h g is = same_entries text_cmp text_total equal_by_tie table other (fact _ h) (fact _ g) is

-- ---- the pairs that stand in a table

-- the first pair, at its key or at another
has_by : (q value : Text) (e : Text × Text) (es : Table) (b : Bool) → same q e.0 ≡ b → (value_at q es ≡ Some value → Has es (q, value)) → cond b (Some e.1) (value_at q es) ≡ Some value → Has (e ∷ es) (q, value)
has_by q value e es true s rest h = inl (λ i. (sym (equal_by_same q e.0 s) i, same_Some e.1 value h i))
has_by q value e es false s rest h = inr (rest h)

-- the value at a key stands in the table with the key
pub has_from_value : (q value : Text) (table : Table) → value_at q table ≡ Some value → Has table (q, value)
has_from_value q value [] h = absurd (none-some value h)
has_from_value q value (e ∷ es) h = has_by q value e es (same q e.0) refl (has_from_value q value es) (ap (λ b. cond b (Some e.1) (value_at q es)) (same_is_tie q e.0) ∙ h)

-- a key below all keys of a table is below each
below_has : (x : Text) (e : Text × Text) (es : Table) → below_all text_cmp x es ≡ true → Has es e → is_lt (text_cmp x e.0) ≡ true
below_has x e [] h g = absurd g
below_has x e (f ∷ fs) h (inl q) = ap (λ p. is_lt (text_cmp x p.0)) (sym q) ∙ (and_parts _ _ h).0
below_has x e (f ∷ fs) h (inr g) = below_has x e fs (and_parts _ _ h).1 g

-- texts of which one is less do not tie
later : (o : Ordering) → is_lt o ≡ true → is_eq o ≡ false
later Less h = refl
later Equal h = absurd (false≢true h)
later Greater h = refl

-- a key above another does not tie with it
not_tied : (q key : Text) (b : Bool) → same q key ≡ b → is_lt (text_cmp key q) ≡ true → eq_by_cmp text_cmp q key ≡ false
not_tied q key true s h = absurd (false≢true (sym (later (text_cmp key q) h) ∙ ap is_eq (ap (λ k. text_cmp k q) (sym (equal_by_same q key s)) ∙ tie_itself q)))
not_tied q key false s h = sym (same_is_tie q key) ∙ s

-- where keys ascend, each pair of the table is the value at its key
pub value_from_has : (q value : Text) (table : Table) → IsAscending table → Has table (q, value) → value_at q table ≡ Some value
value_from_has q value [] h g = absurd g
value_from_has q value (e ∷ es) h (inl p) =
    let keys : e.0 ≡ q = ap (λ x. x.0) p in
    let values : e.1 ≡ value = ap (λ x. x.1) p in
    ap (λ b. cond b (Some e.1) (value_at q es)) (sym (same_is_tie q e.0) ∙ same_by_equal q e.0 (sym keys)) ∙ ap Some values
value_from_has q value (e ∷ es) h (inr g) =
    let parts = and_parts (below_all text_cmp e.0 es) (is_sorted text_cmp es) h in
    let apart : is_lt (text_cmp e.0 q) ≡ true = below_has e.0 (q, value) es parts.0 g in
    ap (λ b. cond b (Some e.1) (value_at q es)) (not_tied q e.0 (same q e.0) refl apart) ∙ value_from_has q value es parts.1 g
