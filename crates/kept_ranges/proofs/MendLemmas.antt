-- What is mended is right.
use Rattle.std.proofs.Common.{◌≡◌, ◌⊎◌, ℕ, ◌≤◌, ◌&&◌, Bool, true, false, cond, not, List, length, slice_get, Any, Contains, Option, Some, None, is_some, refl, sym, ap, ◌∙◌, subst, inl, inr, ⊎_elim}
use Rattle.std.specs.Option.{option_or}
use Rattle.std.specs.List.{AllByRecursion}
use Rattle.std.proofs.lemmas.Bool.{false≢true, false_from_ne_true}
use Rattle.semantics.specs.Texts.{is_range, Text, Table, Range, value_at, within, pairs_where}
use Rattle.semantics.specs.Patterns.{Slots, is_pattern, segments, Fits, IsPartOf, bind}
use Rattle.semantics.specs.Joins.{Source, Join, is_join}
use Rattle.semantics.specs.Outputs.{out}
use Rattle.semantics.proofs.PatternLemmas.{fits_more, segments_of_pattern, bind_some}
use Rattle.semantics.proofs.CopyLemmas.{take_agree}
use Rattle.semantics.proofs.MemberLemmas.{Has, has_from_contains, contains_from_has, has_from_any, any_from_has}
use Rattle.semantics.proofs.TableLemmas.{IsAscending, ascending-pairs_where, value_at-pairs_where, value_from_has}
use Rattle.semantics.proofs.MergedLemmas.{ascending-merged, value_at-merged}
use Rattle.semantics.proofs.GatherLemmas.{ascending-out}
use Rattle.semantics.proofs.OutputLemmas.{output_of_join, out_keys_fit_short}
use Rattle.growing_history.proofs.ElementLemmas.{all_from_has, has_of_all}
use Rattle.range_evaluation.specs.Trees.{Need, placed_sources, tree, is_asked}
use Rattle.range_evaluation.specs.TreeLaws.{AreOutputSlots}
use Rattle.range_evaluation.specs.PathLaws.{IsPath, HoldsNext}
use Rattle.range_evaluation.proofs.PathLemmas.{needs_hold_next}
use Rattle.kept_ranges.specs.Kept.{Kept, is_covered, IsRowKey, AreRows, AreFollowed, CameBy}
use Rattle.kept_ranges.specs.Rules.{IsMended}
use Rattle.kept_ranges.specs.FillLaws.{IsSource}
use Rattle.kept_ranges.specs.MendLaws.{MendedIsRight}
use Rattle.kept_ranges.proofs.ReadLemmas.{row_key}
use Rattle.kept_ranges.proofs.FillLemmas.{tree_came, any_more, came_more}

-- ---- output slots

-- slots, if there are any, under which the key fits, and of which output slots are a part
part_by : (j : Join) (key : Text) (slots more : Slots) (o : Option Slots) → bind j.output key slots ≡ o → is_pattern j.output ≡ true → AreOutputSlots j slots → is_some o ≡ true → Fits j.output key more → IsPartOf slots more
part_by j key slots more None e pattern are h fit place t at = absurd (false≢true h)
part_by j key slots more (Some found) e pattern are h fit place t at =
    let bound = bind_some j.output key slots found (segments_of_pattern j.output pattern) are.places e in
    sym (take_agree j.output (segments key) found more bound.takes fit place (are.among place t at)) ∙ bound.keeps place t at

-- output slots under which a key fits are a part of all under which it fits
pub output_slots_part : (j : Join) (key : Text) (slots more : Slots) → is_pattern j.output ≡ true → AreOutputSlots j slots → is_some (bind j.output key slots) ≡ true → Fits j.output key more → IsPartOf slots more
output_slots_part j key slots more pattern are h fit = part_by j key slots more (bind j.output key slots) refl pattern are h fit

-- ---- the rows

-- the pairs that are taken out and those that are added, at a key
pub mended_at : (j : Join) (range : Range) (table : Table) (slots : Slots) (before after : Kept) (key : Text) → IsMended j range table slots before after
    → value_at key after.rows
    ≡ option_or (cond (within range key && is_some (bind j.output key slots)) (value_at key (out j table)) None) (cond (not (is_some (bind j.output key slots))) (value_at key before.rows) None)
mended_at j range table slots before after key mended =
    let out_of = λ (k : Text). not (is_some (bind j.output k slots)) in
    let old : value_at key (pairs_where out_of before.rows) ≡ cond (out_of key) (value_at key before.rows) None = value_at-pairs_where out_of key before.rows in
    let new : value_at key (pairs_where (is_asked j.output slots range) (out j table)) ≡ cond (is_asked j.output slots range key) (value_at key (out j table)) None =
    value_at-pairs_where (is_asked j.output slots range) key (out j table) in
    ap (value_at key) mended.rows
    ∙ value_at-merged key (pairs_where out_of before.rows) (pairs_where (is_asked j.output slots range) (out j table)) (ascending-pairs_where (is_asked j.output slots range) (out j table) (ascending-out j table))
    ∙ (λ i. option_or (new i) (old i))

-- a value that is there comes from the output, at a key that is asked, or from the row that was there
came_from : (inside fit : Bool) (made row : Option Text) (value : Text) → option_or (cond (inside && fit) made None) (cond (not fit) row None) ≡ Some value → ((inside ≡ true) × (made ≡ Some value)) ⊎ (row ≡ Some value)
came_from true true (Some v) row value h = inl (refl, h)
came_from true true None row value h = absurd (false≢true (ap is_some h))
came_from true false made row value h = inr h
came_from false true made row value h = absurd (false≢true (ap is_some h))
came_from false false made row value h = inr h

-- each row has a row's key
mended_key : (j : Join) (range : Range) (table : Table) (slots : Slots) (before after : Kept) (pair : Text × Text) → is_join j ≡ true → AreRows j range table before → IsMended j range table slots before after → IsAscending after.rows → Has after.rows pair
    → IsRowKey j range pair.0
mended_key j range table slots before after pair ok are mended ascending h =
    let at : value_at pair.0 after.rows ≡ Some pair.1 = value_from_has pair.0 pair.1 after.rows ascending h in
    ⊎_elim
    (λ (new : (within range pair.0 ≡ true) × (value_at pair.0 (out j table) ≡ Some pair.1)).
    let made = out_keys_fit_short j table pair.0 ok (ap is_some new.1) in
    record { inside = new.0; fits = made.0; short = made.1 })
    (λ old. row_key j range table before pair.0 are (ap is_some old))
    (came_from (within range pair.0) (is_some (bind j.output pair.0 slots)) (value_at pair.0 (out j table)) (value_at pair.0 before.rows) pair.1
    (sym (mended_at j range table slots before after pair.0 mended) ∙ at))

-- a key that does not fit under the mended slots, and that nothing covers that is still pending, was not covered
clear_before : (j : Join) (range : Range) (table : Table) (slots : Slots) (before after : Kept) (key : Text) → IsMended j range table slots before after → is_some (bind j.output key slots) ≡ false → is_covered j.output after.pending key ≡ false
    → is_covered j.output before.pending key ≡ false
clear_before j range table slots before after key mended unfit clear = false_from_ne_true (is_covered j.output before.pending key) (λ h.
    let w = has_from_any (λ s. is_some (bind j.output key s)) before.pending h in
    let stays = (mended.pending w.0).1 (contains_from_has before.pending w.0 w.1, λ own. false≢true (sym unfit ∙ ap (λ s. is_some (bind j.output key s)) (sym own) ∙ w.2)) in
    false≢true (sym clear ∙ any_from_has (λ s. is_some (bind j.output key s)) after.pending w.0 (has_from_contains after.pending w.0 stays) w.2))

or_none : (o : Option Text) → option_or o None ≡ o
or_none None = refl
or_none (Some v) = refl

-- at a key of the range that nothing covers there is what the output has
mended_exact : (j : Join) (range : Range) (table : Table) (slots : Slots) (before after : Kept) (key : Text) (fit : Bool) → is_some (bind j.output key slots) ≡ fit → AreRows j range table before → IsMended j range table slots before after
    → within range key ≡ true → is_covered j.output after.pending key ≡ false → value_at key after.rows ≡ value_at key (out j table)
mended_exact j range table slots before after key true e are mended inside clear =
    mended_at j range table slots before after key mended
    ∙ (λ i. option_or (cond (inside i && e i) (value_at key (out j table)) None) (cond (not (e i)) (value_at key before.rows) None))
    ∙ or_none (value_at key (out j table))
mended_exact j range table slots before after key false e are mended inside clear =
    mended_at j range table slots before after key mended
    ∙ (λ i. option_or (cond (inside i && e i) (value_at key (out j table)) None) (cond (not (e i)) (value_at key before.rows) None))
    ∙ are.exact key inside (clear_before j range table slots before after key mended e clear)

mended_rows : (j : Join) (range : Range) (table : Table) (slots : Slots) (before after : Kept) → is_join j ≡ true → AreRows j range table before → IsMended j range table slots before after → AreRows j range table after
mended_rows j range table slots before after ok are mended =
    let out_of = λ (k : Text). not (is_some (bind j.output k slots)) in
    let ascending : IsAscending after.rows = subst IsAscending (sym mended.rows)
    (ascending-merged (pairs_where out_of before.rows) (pairs_where (is_asked j.output slots range) (out j table)) (ascending-pairs_where out_of before.rows are.ascending)) in
    record {
      ascending = ascending;
      keys = all_from_has (λ pair. IsRowKey j range pair.0) after.rows (λ pair h. mended_key j range table slots before after pair ok are mended ascending h);
      exact = λ key inside clear. mended_exact j range table slots before after key (is_some (bind j.output key slots)) refl are mended inside clear;
    }

-- ---- the needs

-- a key that goes on from a path of an output key is held by a need of the tree under the slots, or by one that was there
mended_followed : (j : Join) (range : Range) (table : Table) (slots : Slots) (before after : Kept) (fit : Bool) (key : Text) (path : List Text) (more wider : Slots) (source : ℕ) (s : Source) (next : Text) → is_some (bind j.output key slots) ≡ fit
    → is_join j ≡ true → is_range range.low range.high ≡ true → IsSource table → AreOutputSlots j slots → AreFollowed j range table before → IsMended j range table slots before after
    → within range key ≡ true → is_covered j.output after.pending key ≡ false → Fits j.output key more → IsPath (placed_sources j) table path more
    → slice_get (placed_sources j) (length path) ≡ Some (source, s) → IsPartOf more wider → Fits s.pattern next wider → length next ≤ 512 → Any (HoldsNext source path more next) after.needs
mended_followed j range table slots before after true key path more wider source s next e ok good below are followed mended inside clear fit is at wide follows short =
    any_more (HoldsNext source path more next) (tree j slots range table) after.needs (λ need h. (mended.needs need).1 (inr h))
    (needs_hold_next j slots more wider range table path source s next key ok good below.keys are.places (output_slots_part j key slots more (output_of_join j ok) are e fit) is at wide follows short inside (fits_more j.output key more wider wide fit))
mended_followed j range table slots before after false key path more wider source s next e ok good below are followed mended inside clear fit is at wide follows short =
    any_more (HoldsNext source path more next) before.needs after.needs (λ need h. (mended.needs need).1 (inl h))
    (followed key path more wider source s next inside (clear_before j range table slots before after key mended e clear) fit is at wide follows short)

-- each need came by a path
mended_came : (j : Join) (range : Range) (table : Table) (slots : Slots) (before after : Kept) (need : Need) → is_join j ≡ true → IsSource table → AreOutputSlots j slots → AllByRecursion (CameBy j table before.needs) before.needs
    → IsMended j range table slots before after → Contains after.needs need → CameBy j table after.needs need
mended_came j range table slots before after need ok below are came mended h = ⊎_elim
    (λ (old : Contains before.needs need). came_more j table before.needs after.needs need (λ n c. (mended.needs n).1 (inl c))
    (has_of_all (CameBy j table before.needs) before.needs need came (has_from_contains before.needs need old)))
    (λ new. came_more j table (tree j slots range table) after.needs need (λ n c. (mended.needs n).1 (inr c))
    (tree_came j slots range table need ok below are.places are.texts (has_from_contains (tree j slots range table) need new)))
    ((mended.needs need).0 h)

-- what is right stays right once slots that were pending are mended
pub mended_is_right : MendedIsRight
mended_is_right j range table slots before after ok good below pending right mended =
    let are = has_of_all (AreOutputSlots j) before.pending slots right.pending (has_from_contains before.pending slots pending) in
    record {
      rows = mended_rows j range table slots before after ok right.rows mended;
      followed = λ key path more wider source s next inside clear fit is at wide follows short.
          mended_followed j range table slots before after (is_some (bind j.output key slots)) key path more wider source s next refl ok good below are right.followed mended inside clear fit is at wide follows short;
      came = all_from_has (CameBy j table after.needs) after.needs (λ need h. mended_came j range table slots before after need ok below are right.came mended (contains_from_has after.needs need h));
      pending = all_from_has (AreOutputSlots j) after.pending (λ other h. has_of_all (AreOutputSlots j) before.pending other right.pending
          (has_from_contains before.pending other ((mended.pending other).0 (contains_from_has after.pending other h)).0));
    }
