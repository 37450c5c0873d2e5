-- A table with the pairs of another.
use Rattle.std.proofs.Common.{◌≡◌, ℕ, ◌+◌, ◌<◌, List, [], ◌∷◌, ◌++◌, length, take, get_or, Option, None, Some, refl, sym, ap, ◌∙◌}
use Rattle.std.proofs.lemmas.List.{take_more}
use Rattle.std.specs.Option.{option_or}
use Rattle.semantics.specs.Texts.{Text, Table, value_at, with_pair}
use Rattle.semantics.specs.States.{merged}
use Rattle.semantics.proofs.TableLemmas.{IsAscending, same_tables}
use Rattle.join_rows.specs.Found.{row_at}
use Rattle.join_rows.specs.Leaves.{all_rows}
use Rattle.join_rows.proofs.LeafLemmas.{rows_more}
use Rattle.semantics.proofs.MergedLemmas.{ascending-merged, value_at-merged}

-- pairs one after another
pub merged-append : (table a b : Table) → merged table (a ++ b) ≡ merged (merged table a) b
merged-append table [] b = refl
merged-append table (p ∷ a) b = merged-append (with_pair p.0 p.1 table) a b

or_none : (o : Option Text) → option_or o None ≡ o
or_none None = refl
or_none (Some t) = refl

-- the pairs of a table alone
pub merged_nothing : (pairs : Table) → IsAscending pairs → merged [] pairs ≡ pairs
merged_nothing pairs h = same_tables (merged [] pairs) pairs (ascending-merged [] pairs refl) h (λ q. value_at-merged q [] pairs h ∙ or_none (value_at q pairs))

-- one row more
pub merged_row : (table leaf now next : Table) (p : ℕ) (key value : Text) → p < length leaf → key ≡ (row_at p leaf).0 → value ≡ (row_at p leaf).1 → now ≡ merged table (take p leaf) → next ≡ with_pair key value now →
    next ≡ merged table (take (p + 1) leaf)
merged_row table leaf now next p key value inside k v before made =
    made ∙ (λ i. with_pair (k i) (v i) (before i))
    ∙ sym (ap (merged table) (take_more leaf p ([], []) inside) ∙ merged-append table (take p leaf) (row_at p leaf ∷ []))

-- one leaf more
pub merged_leaf : (table now next : Table) (leaves : List Table) (i : ℕ) (leaf : Table) → i < length leaves → leaf ≡ get_or leaves i leaf → now ≡ merged table (all_rows (take i leaves)) → next ≡ merged now leaf →
    next ≡ merged table (all_rows (take (i + 1) leaves))
merged_leaf table now next leaves i leaf inside is before made =
    made ∙ (λ j. merged (before j) (is j))
    ∙ sym (ap (merged table) (rows_more leaves i leaf inside) ∙ merged-append table (all_rows (take i leaves)) (get_or leaves i leaf))
