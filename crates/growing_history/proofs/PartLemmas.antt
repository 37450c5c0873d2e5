-- The pairs of tables within a range.
use Rattle.std.proofs.Common.{◌≡◌, Bool, true, false, cond, Option, None, refl, sym, ◌∙◌}
use Rattle.semantics.specs.Texts.{Text, Table, value_at, Range, within, pairs_within}
use Rattle.semantics.proofs.TableLemmas.{IsAscending, same_tables}
use Rattle.semantics.proofs.MergedLemmas.{ascending-pairs_within, value_at-pairs_within}

-- outside a range neither of two tables has a pair of it
within_by : (b : Bool) (o r : Option Text) → (b ≡ true → o ≡ r) → cond b o None ≡ cond b r None
within_by true o r h = h refl
within_by false o r h = refl

-- tables that have the same at each key of a range have the same pairs in it
pub same_within : (range : Range) (table other : Table) → IsAscending table → IsAscending other → ((q : Text) → within range q ≡ true → value_at q table ≡ value_at q other) → pairs_within range table ≡ pairs_within range other
same_within range table other h g same = same_tables (pairs_within range table) (pairs_within range other) (ascending-pairs_within range table h) (ascending-pairs_within range other g)
    (λ q. value_at-pairs_within range q table ∙ within_by (within range q) (value_at q table) (value_at q other) (same q) ∙ sym (value_at-pairs_within range q other))
