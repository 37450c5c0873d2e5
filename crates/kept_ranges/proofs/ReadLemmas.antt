-- What the rows have at each key.
use Rattle.std.proofs.Common.{◌≡◌, ◌<◌, ◌≤◌, Bool, true, false, cond, length, None, is_some, refl, sym, ◌∙◌, ⊎_elim, arith}
use Rattle.std.proofs.lemmas.Bool.{false≢true, cases_lt}
use Rattle.semantics.specs.Texts.{Text, Table, Range, value_at, within}
use Rattle.semantics.specs.Joins.{Join, is_join}
use Rattle.semantics.specs.Outputs.{out}
use Rattle.semantics.proofs.TableLemmas.{has_from_value}
use Rattle.semantics.proofs.MergedLemmas.{ascending-pairs_within, value_at-pairs_within}
use Rattle.semantics.proofs.GatherLemmas.{ascending-out}
use Rattle.semantics.proofs.OutputLemmas.{out_keys_fit_short}
use Rattle.growing_history.proofs.ElementLemmas.{has_of_all}
use Rattle.growing_history.proofs.PartLemmas.{same_within}
use Rattle.kept_ranges.specs.Kept.{Kept, IsRowKey, AreRows}
use Rattle.kept_ranges.specs.ReadLaws.{RowsAreOutput, IsClear}
use Rattle.range_evaluation.proofs.AskedLemmas.{absent_by}
use Rattle.range_evaluation.proofs.PathLemmas.{value_by}

-- a key at which there is a row is a row's key
pub row_key : (j : Join) (range : Range) (table : Table) (kept : Kept) (key : Text) → AreRows j range table kept → is_some (value_at key kept.rows) ≡ true → IsRowKey j range key
row_key j range table kept key are h =
    let w = value_by (value_at key kept.rows) h in
    has_of_all (λ pair. IsRowKey j range pair.0) kept.rows (key, w.0) are.keys (has_from_value key w.0 kept.rows w.1)

-- ---- the rows in a part

-- a key that is too long has neither a row nor a pair of the output
both_absent : (j : Join) (range : Range) (table : Table) (kept : Kept) (key : Text) → is_join j ≡ true → AreRows j range table kept → 512 < length key → value_at key kept.rows ≡ value_at key (out j table)
both_absent j range table kept key ok are long =
    let row : value_at key kept.rows ≡ None = absent_by (value_at key kept.rows) (λ h. let short = (row_key j range table kept key are h).short in omega arith) in
    let made : value_at key (out j table) ≡ None = absent_by (value_at key (out j table)) (λ h. let short = (out_keys_fit_short j table key ok h).1 in omega arith) in
    row ∙ sym made

-- at a key of the part there is what the output has in the range
in_part : (j : Join) (range part : Range) (table : Table) (kept : Kept) (key : Text) (b : Bool) → within range key ≡ b → is_join j ≡ true → AreRows j range table kept → IsClear j.output range part kept → within part key ≡ true
    → value_at key kept.rows ≡ cond b (value_at key (out j table)) None
in_part j range part table kept key true e ok are clear inside = ⊎_elim
    (λ (long : 512 < length key). both_absent j range table kept key ok are long)
    (λ (short : length key ≤ 512). are.exact key e (clear key e inside short))
    (cases_lt 512 (length key))
in_part j range part table kept key false e ok are clear inside =
    absent_by (value_at key kept.rows) (λ h. false≢true (sym e ∙ (row_key j range table kept key are h).inside))

-- where nothing pending covers a key of a part, the rows in the part are the output in it
pub rows_are_output : RowsAreOutput
rows_are_output j range part table kept ok right clear =
    same_within part kept.rows _ right.rows.ascending (ascending-pairs_within range (out j table) (ascending-out j table))
    (λ key inside. in_part j range part table kept key (within range key) refl ok right.rows clear inside ∙ sym (value_at-pairs_within range key (out j table)))
