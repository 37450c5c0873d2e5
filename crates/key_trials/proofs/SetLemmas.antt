-- Kept ranges of one table.
use Rattle.std.proofs.Common.{◌≡◌, ℕ, true, not, Result, Ok, Err, OnOk, OnErr, sym, subst}
use Rattle.semantics.specs.Texts.{Range, Text, same, table_of}
use Rattle.semantics.proofs.MemberLemmas.{all_from_each, has_filter, passes_from_all}
use Rattle.range_set.specs.Held.{Held, are_of_table, same_range, with_range, without_range}
use Rattle.range_set.proofs.HeldLemmas.{all_with_range}

-- without one of them the ranges are of the table
pub of_table-without_range : (r : Range) (held : Held ℕ) (name : Text) → are_of_table held name ≡ true → are_of_table (without_range r held) name ≡ true
of_table-without_range r held name all =
    all_from_each (λ (e : Range × ℕ). same (table_of e.0.low) name) (without_range r held) (λ e h.
    passes_from_all (λ (f : Range × ℕ). same (table_of f.0.low) name) held e all (has_filter (λ (f : Range × ℕ). not (same_range r f.0)) held e h).1)

-- once a range of the table is kept, or is not because no memory was found, the ranges are of the table
pub of_table-inserted : {E : Type 0} (result : Result (Unit {0}) E) (r : Range) (item : ℕ) (held kept : Held ℕ) (name : Text) → OnOk result (kept ≡ with_range r item held) → OnErr result (kept ≡ held) →
    same (table_of r.low) name ≡ true → are_of_table held name ≡ true → are_of_table kept name ≡ true
of_table-inserted (Ok done) r item held kept name ok err here all =
    subst (λ (l : Held ℕ). are_of_table l name ≡ true) (sym ok) (all_with_range (λ (e : Range × ℕ). same (table_of e.0.low) name) r item held here all)
of_table-inserted (Err fault) r item held kept name ok err here all = subst (λ (l : Held ℕ). are_of_table l name ≡ true) (sym err) all
