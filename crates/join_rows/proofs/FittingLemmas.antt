-- The pairs of a table whose keys pass a test: they are found in a part of the table, and taken out one by one.
use Rattle.std.proofs.Common.{◌≡◌, ◌≤◌, Bool, true, false, cond, not, ◌||◌, List, [], ◌∷◌, length, map, fold, Option, None, Some, refl, sym, ap, ◌∙◌, is_eq}
use Rattle.std.specs.List.{AllByRecursion, list_any}
use Rattle.std.specs.Option.{IsSomeAnd}
use Rattle.std.proofs.lemmas.Bool.{and_parts, false_from_ne_true, false≢true, leb-true}
use Rattle.semantics.specs.Texts.{Text, is_key, names_table, same, text_cmp, Table, Range, within, value_at, without_key, pairs_where, pairs_within}
use Rattle.semantics.proofs.PieceLemmas.{equal_by_same}
use Rattle.semantics.proofs.TableLemmas.{IsAscending, same_is_tie, value_at-pairs_where, same_tables, ascending-pairs_where}
use Rattle.semantics.proofs.MergedLemmas.{ascending-without_key, value_at-without_key}
use Rattle.join_rows.specs.Placed.{PlacedPairs, IsPlaced, pairs_of}
use Rattle.join_rows.proofs.PlacedLemmas.{Own}

-- ---- the part where keys that pass can be

-- a placed key has at most 512 bytes
small : (e : Text × (Text × Text)) → IsPlaced e → length e.1.0 ≤ 512
small e placed = leb-true (length e.1.0) 512 (and_parts _ (names_table e.1.0) (sym (ap is_key placed.own) ∙ placed.key)).0

-- a range that holds each key of at most 512 bytes which passes holds each key of the table which passes
pub each_inside : (test : Text → Bool) (found : Option Range) (es : PlacedPairs) → Own es → ((key : Text) → length key ≤ 512 → test key ≡ true → IsSomeAnd found (λ r. within r key ≡ true)) →
    AllByRecursion (λ pair. test pair.0 ≡ true → IsSomeAnd found (λ r. within r pair.0 ≡ true)) (pairs_of es)
each_inside test found [] own h = tt
each_inside test found (e ∷ es) own h = (h e.1.0 (small e own.0), each_inside test found es own.1 h)

inside_by : (b c : Bool) (test : Text → Bool) (e : Text × Text) (inner outer : Table) → test e.0 ≡ c → (c ≡ true → b ≡ true) → pairs_where test inner ≡ outer →
    pairs_where test (cond b (e ∷ inner) inner) ≡ cond c (e ∷ outer) outer
inside_by true true test e inner outer is g h = ap (λ t. cond t (e ∷ pairs_where test inner) (pairs_where test inner)) is ∙ ap (λ t. e ∷ t) h
inside_by true false test e inner outer is g h = ap (λ t. cond t (e ∷ pairs_where test inner) (pairs_where test inner)) is ∙ h
inside_by false true test e inner outer is g h = absurd (false≢true (g refl))
inside_by false false test e inner outer is g h = h

-- where all that pass lie in a range, they are those of the range that pass
pub where-within : (test : Text → Bool) (range : Range) (table : Table) → AllByRecursion (λ pair. test pair.0 ≡ true → within range pair.0 ≡ true) table →
    pairs_where test (pairs_within range table) ≡ pairs_where test table
where-within test range [] h = refl
where-within test range (e ∷ es) h =
    inside_by (within range e.0) (test e.0) test e (pairs_within range es) (pairs_where test es) refl h.0 (where-within test range es h.1)

none_by : (b : Bool) (e : Text × Text) (rest : Table) → (b ≡ true → ⊥) → rest ≡ [] → cond b (e ∷ rest) rest ≡ []
none_by true e rest never h = absurd (never refl)
none_by false e rest never h = h

-- where none passes there are none
pub where-none : (test : Text → Bool) (table : Table) → AllByRecursion (λ pair. test pair.0 ≡ true → ⊥) table → pairs_where test table ≡ []
where-none test [] h = refl
where-none test (e ∷ es) h = none_by (test e.0) e (pairs_where test es) h.0 (where-none test es h.1)

-- ---- keys taken out one by one

abbrev keys : Table → List Text
keys table = map (λ pair. pair.0) table

-- the table without each of the keys
abbrev pub without_keys : Table → List Text → Table
without_keys table ks = fold (λ t key. without_key key t) table ks

ascending-without_keys : (ks : List Text) (table : Table) → IsAscending table → IsAscending (without_keys table ks)
ascending-without_keys [] table h = h
ascending-without_keys (k ∷ ks) table h = ascending-without_keys ks (without_key k table) (ascending-without_key k table h)

either_key : (b c : Bool) (o : Option Text) → cond c None (cond (not b) o None) ≡ cond (b || c) None o
either_key true true o = refl
either_key true false o = refl
either_key false c o = refl

value_at-without_keys : (q : Text) (ks : List Text) (table : Table) → value_at q (without_keys table ks) ≡ cond (list_any (same q) ks) None (value_at q table)
value_at-without_keys q [] table = refl
value_at-without_keys q (k ∷ ks) table =
    value_at-without_keys q ks (without_key k table) ∙ ap (cond (list_any (same q) ks) None) (value_at-without_key q k table)
    ∙ either_key (same q k) (list_any (same q) ks) (value_at q table)

unlisted_by : (test : Text → Bool) (q : Text) (e : Text × Text) (rest : Table) (b : Bool) → test e.0 ≡ b → test q ≡ false → list_any (same q) (keys rest) ≡ false →
    list_any (same q) (keys (cond b (e ∷ rest) rest)) ≡ false
unlisted_by test q e rest true is fails h =
    ap (λ b. b || list_any (same q) (keys rest)) (false_from_ne_true (same q e.0) (λ s. false≢true (sym fails ∙ ap test (equal_by_same q e.0 s) ∙ is))) ∙ h
unlisted_by test q e rest false is fails h = h

-- a key that fails is none of those that pass
unlisted : (test : Text → Bool) (q : Text) (table : Table) → test q ≡ false → list_any (same q) (keys (pairs_where test table)) ≡ false
unlisted test q [] fails = refl
unlisted test q (e ∷ es) fails = unlisted_by test q e (pairs_where test es) (test e.0) refl fails (unlisted test q es fails)

listed_by : (test : Text → Bool) (q : Text) (e : Text × Text) (rest es : Table) (s b : Bool) → same q e.0 ≡ s → test e.0 ≡ b → test q ≡ true → cond (list_any (same q) (keys rest)) None (value_at q es) ≡ None →
    cond (list_any (same q) (keys (cond b (e ∷ rest) rest))) None (cond s (Some e.1) (value_at q es)) ≡ None
listed_by test q e rest es true true s is passes h = ap (λ t. cond (t || list_any (same q) (keys rest)) None (Some e.1)) s
listed_by test q e rest es true false s is passes h = absurd (false≢true (sym is ∙ sym (ap test (equal_by_same q e.0 s)) ∙ passes))
listed_by test q e rest es false true s is passes h = ap (λ t. cond (t || list_any (same q) (keys rest)) None (value_at q es)) s ∙ h
listed_by test q e rest es false false s is passes h = h

-- a key of the table that passes is one of those that pass
listed : (test : Text → Bool) (q : Text) (table : Table) → test q ≡ true → cond (list_any (same q) (keys (pairs_where test table))) None (value_at q table) ≡ None
listed test q [] passes = refl
listed test q (e ∷ es) passes =
    ap (λ b. cond (list_any (same q) (keys (pairs_where test (e ∷ es)))) None (cond b (Some e.1) (value_at q es))) (sym (same_is_tie q e.0))
    ∙ listed_by test q e (pairs_where test es) es (same q e.0) (test e.0) refl refl passes (listed test q es passes)

left_by : (test : Text → Bool) (q : Text) (table : Table) (b : Bool) → test q ≡ b → cond (list_any (same q) (keys (pairs_where test table))) None (value_at q table) ≡ cond (not b) (value_at q table) None
left_by test q table true is = listed test q table is
left_by test q table false is = ap (λ b. cond b None (value_at q table)) (unlisted test q table is)

-- without each key that passes, those are left that fail
pub without_keys-where : (test : Text → Bool) (table : Table) → IsAscending table → without_keys table (keys (pairs_where test table)) ≡ pairs_where (λ key. not (test key)) table
without_keys-where test table h =
    same_tables (without_keys table (keys (pairs_where test table))) (pairs_where (λ key. not (test key)) table)
    (ascending-without_keys (keys (pairs_where test table)) table h) (ascending-pairs_where (λ key. not (test key)) table h) (λ q.
    value_at-without_keys q (keys (pairs_where test table)) table ∙ left_by test q table (test q) refl
    ∙ sym (value_at-pairs_where (λ key. not (test key)) q table))
