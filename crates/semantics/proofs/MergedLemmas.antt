-- Parts of tables, and tables with the pairs of others: that their keys ascend, and the value at a key.
use Rattle.std.proofs.Common.{◌≡◌, true, false, cond, not, [], ◌∷◌, Option, None, is_some, refl, sym, ap, ◌∙◌, Ordering, Less, Equal, Greater, is_eq, is_lt, true≢false}
use Rattle.std.specs.Option.{option_or}
use Rattle.std.specs.FinMap.Entries.{below_all}
use Rattle.std.proofs.lemmas.Bool.{and_parts, cond-true, cond-false}
use Rattle.semantics.specs.Texts.{Text, text_cmp, same, Range, within, Table, value_at, with_pair, without_key, pairs_within}
use Rattle.semantics.specs.States.{merged}
use Rattle.semantics.proofs.PieceLemmas.{equal_by_same}
use Rattle.semantics.proofs.TableLemmas.{IsAscending, ascending-with_pair, ascending-pairs_where, value_at_here, value_at_later, value_at-with_pair, value_at-pairs_where}

-- ---- parts of a table

-- the keys of a table in a range ascend
pub ascending-pairs_within : (range : Range) (table : Table) → IsAscending table → IsAscending (pairs_within range table)
ascending-pairs_within range = ascending-pairs_where (within range)

-- a range of a table has what the table has at the keys in the range, and nothing elsewhere
pub value_at-pairs_within : (range : Range) (q : Text) (table : Table) → value_at q (pairs_within range table) ≡ cond (within range q) (value_at q table) None
value_at-pairs_within range = value_at-pairs_where (within range)

-- the keys of a table without one of them ascend
pub ascending-without_key : (key : Text) (table : Table) → IsAscending table → IsAscending (without_key key table)
ascending-without_key key = ascending-pairs_where (λ k. not (same k key))

-- a table without a key has nothing there, and elsewhere what it had
pub value_at-without_key : (q key : Text) (table : Table) → value_at q (without_key key table) ≡ cond (not (same q key)) (value_at q table) None
value_at-without_key q key = value_at-pairs_where (λ k. not (same k key)) q

-- the keys after the first ascend
pub ascending-tail : (pair : Text × Text) (table : Table) → IsAscending (pair ∷ table) → IsAscending table
ascending-tail pair table ascending = (and_parts _ _ ascending).1

not_tied : (o : Ordering) → is_lt o ≡ true → is_eq o ≡ false
not_tied Less e = refl
not_tied Equal e = absurd (true≢false (sym e))
not_tied Greater e = refl

-- a key below all keys of a table has no value there
pub value_at-below_all : (q : Text) (table : Table) → below_all text_cmp q table ≡ true → value_at q table ≡ None
value_at-below_all q [] below = refl
value_at-below_all q (pair ∷ table) below =
    let parts = and_parts (is_lt (text_cmp q pair.0)) (below_all text_cmp q table) below in
    cond-false _ _ _ (not_tied (text_cmp q pair.0) parts.0) ∙ value_at-below_all q table parts.1

-- the first key of a table whose keys ascend does not come again
pub value_at-first_again : (q : Text) (pair : Text × Text) (table : Table) → IsAscending (pair ∷ table) → same q pair.0 ≡ true → value_at q table ≡ None
value_at-first_again q pair table ascending e =
    ap (λ k. value_at k table) (equal_by_same q pair.0 e) ∙ value_at-below_all pair.0 table (and_parts _ _ ascending).0

-- ---- a table with the pairs of another

-- a table with the pairs of another has its keys ascending
pub ascending-merged : (table pairs : Table) → IsAscending table → IsAscending (merged table pairs)
ascending-merged table [] ascending = ascending
ascending-merged table (pair ∷ pairs) ascending = ascending-merged (with_pair pair.0 pair.1 table) pairs (ascending-with_pair pair.0 pair.1 table ascending)

-- at a key that the pairs lack, a table with the pairs has what it had
pub value_at-merged_none : (q : Text) (table pairs : Table) → value_at q pairs ≡ None → value_at q (merged table pairs) ≡ value_at q table
value_at-merged_none q table [] none = refl
value_at-merged_none q table (pair ∷ pairs) none =
    elim (same q pair.0) as (λ t. same q pair.0 ≡ t → value_at q (merged (with_pair pair.0 pair.1 table) pairs) ≡ value_at q table) [
      | true ↦ λ e. absurd (true≢false (ap (λ (o : Option Text). is_some o) (sym (value_at_here q pair pairs e) ∙ none)))
      | false ↦ λ e.
          value_at-merged_none q (with_pair pair.0 pair.1 table) pairs (sym (value_at_later q pair pairs e) ∙ none)
          ∙ value_at-with_pair q pair.0 pair.1 table ∙ cond-false _ _ _ e
    ] refl

-- a table with the pairs of another, whose keys ascend, has what the pairs have at a key, else what it had
pub value_at-merged : (q : Text) (table pairs : Table) → IsAscending pairs → value_at q (merged table pairs) ≡ option_or (value_at q pairs) (value_at q table)
value_at-merged q table [] ascending = refl
value_at-merged q table (pair ∷ pairs) ascending =
    elim (same q pair.0) as (λ t. same q pair.0 ≡ t → value_at q (merged (with_pair pair.0 pair.1 table) pairs) ≡ option_or (value_at q (pair ∷ pairs)) (value_at q table)) [
      | true ↦ λ e.
          value_at-merged_none q (with_pair pair.0 pair.1 table) pairs (value_at-first_again q pair pairs ascending e)
          ∙ value_at-with_pair q pair.0 pair.1 table ∙ cond-true _ _ _ e
          ∙ sym (ap (λ o. option_or o (value_at q table)) (value_at_here q pair pairs e))
      | false ↦ λ e.
          value_at-merged q (with_pair pair.0 pair.1 table) pairs (ascending-tail pair pairs ascending)
          ∙ ap (option_or (value_at q pairs)) (value_at-with_pair q pair.0 pair.1 table ∙ cond-false _ _ _ e)
          ∙ sym (ap (λ o. option_or o (value_at q table)) (value_at_later q pair pairs e))
    ] refl
