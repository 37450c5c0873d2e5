-- What is held of a range once its rows and needs are found, and how many needs that is.
use Rattle.std.proofs.Common.{◌≡◌, ℕ, ◌+◌, List, [], filter, length, not, true, Option, Some, None, MatchOption, refl, sym, ap, ◌∙◌, subst, arith}
use Rattle.std.proofs.lemmas.List.Filters.{length-filter_both}
use Rattle.std.proofs.lemmas.Option.{none-some}
use Rattle.semantics.specs.Texts.{Text, Table, Range, pairs_within}
use Rattle.semantics.specs.Patterns.{Slots}
use Rattle.semantics.specs.Joins.{Join, is_aggregate, value_operator}
use Rattle.semantics.specs.Outputs.{out}
use Rattle.key_ranges.specs.Containing.{range_slots}
use Rattle.range_evaluation.specs.Trees.{Need, tree}
use Rattle.join_rows.specs.Kept.{KeptRows}
use Rattle.agg_rows.specs.Kept.{KeptGroups, pairs_of}
use Rattle.join_eval.specs.Bounds.{Allows, Exceeds}
use Rattle.join_eval.proofs.CollectingLemmas.{allows_fewer}
use Rattle.kept_ranges.specs.Listing.{AreListed}
use Rattle.kept_ranges.specs.Rules.{is_left}
use Rattle.kept_ranges.specs.Sound.{KeptRange}
use Rattle.range_state.specs.Advanced.{IsAdvancedTo, touched_by}
use Rattle.range_state.specs.Filled.{Fills, HoldsAt, IsFilledAt}
use Rattle.range_state.specs.Held.{groups_of, range_kept, view_of}
use Rattle.range_state.specs.Work.{fill_needs, IsFilledAfresh, needs_under}
use Rattle.range_state.specs.declared.filling.Filling.{Filling}
use Rattle.range_state.specs.declared.filling.Filling.TheVariants.{Whole, Loose}
use Rattle.range_state.specs.declared.holding.Holding.{Holding}
use Rattle.range_state.specs.declared.subject.Subject.{Subject}

-- where these are the rows and the needs under the range's slots, and what is listed for an aggregate, that is what filling makes
pub filled_by : (s : Subject) (slots : Slots) (table : Table) (p : ℕ) (found : KeptRows) (groups : Option KeptGroups) (held : Holding) → range_slots s.join.output s.range ≡ Some slots → HoldsAt s p found groups held
    → found.pairs ≡ pairs_within s.range (out s.join table) → found.needs ≡ tree s.join slots s.range table → (is_aggregate (value_operator s.join) ≡ true → AreListed s.join s.range table (λ k. pairs_of k (groups_of groups)))
    → IsFilledAt s table p held
filled_by s slots table p found groups held of_range holds pairs needs listed = record {
  fits = holds.fits;
  position = holds.position;
  pending = holds.pending;
  notes = holds.notes;
  filled = record {
    rows = ap (λ (rows : KeptRows). rows.pairs) holds.rows ∙ pairs;
    needs = subst (λ (o : Option Slots). MatchOption o (held.rows.needs ≡ []) (λ given. held.rows.needs ≡ tree s.join given s.range table)) (sym of_range) (ap (λ (rows : KeptRows). rows.needs) holds.rows ∙ needs);
    pending = holds.pending;
  };
  listed = λ aggregates. subst (λ (o : Option KeptGroups). AreListed s.join s.range table (λ k. pairs_of k (groups_of o))) (sym holds.groups) (listed aggregates);
}

-- the needs under the range's slots are those of filling it
pub tree_fills : (s : Subject) (slots : Slots) (table : Table) → range_slots s.join.output s.range ≡ Some slots → length (tree s.join slots s.range table) ≡ length (fill_needs s.join s.range table)
tree_fills s slots table of_range = sym (ap (λ (o : Option Slots). length (needs_under s.join s.range table o)) of_range)

-- ---- what filling finds

-- all that is held, where that is found
pub fills_whole : {M : Type 0} (s : Subject) (most : Option ℕ) (table : Table) (at : ℕ) (found : Filling M) (held : Holding) → found ≡ Whole held → Fills s most table at found → IsFilledAt s table at held × Allows most (length (fill_needs s.join s.range table))
fills_whole s most table at found held is fills = subst (λ f. Fills s most table at f) is fills

-- the rows alone, where they are
pub fills_loose : {M : Type 0} (s : Subject) (most : Option ℕ) (table : Table) (at : ℕ) (found : Filling M) (rows : KeptRows) (more : M) → found ≡ Loose rows more → Fills s most table at found
    → (rows.pairs ≡ pairs_within s.range (out s.join table)) × Exceeds most (length (fill_needs s.join s.range table))
fills_loose s most table at found rows more is fills = subst (λ f. Fills s most table at f) is fills

-- ---- how many needs are held

needs_by : (o : Option Slots) (j : Join) (range : Range) (table : Table) (needs : List Need) → MatchOption o (needs ≡ []) (λ slots. needs ≡ tree j slots range table) → needs ≡ needs_under j range table o
needs_by None j range table needs are = are
needs_by (Some slots) j range table needs are = are

-- no more than are allowed, where no more are needed to fill the range
pub filled_few : (most : Option ℕ) (s : Subject) (table : Table) (at : ℕ) (held : Holding) → IsFilledAt s table at held → Allows most (length (fill_needs s.join s.range table)) → Allows most (length held.rows.needs)
filled_few most s table at held filled few =
    subst (λ (needs : List Need). Allows most (length needs)) (sym (needs_by (range_slots s.join.output s.range) s.join s.range table held.rows.needs filled.filled.needs)) few

-- so of a kept range that was filled afresh
pub afresh_few : (most : Option ℕ) (p : ℕ) (table : Table) (before after : KeptRange) → IsFilledAfresh p table before after → Allows most (length (fill_needs before.join before.range table)) → Allows most (length after.kept.needs)
afresh_few most p table before after afresh few =
    subst (λ (needs : List Need). Allows most (length needs)) (sym (needs_by (range_slots before.join.output before.range) before.join before.range table after.kept.needs afresh.filled.needs)) few

-- and no more after an advance, where there were no more before
pub advanced_few : (most : Option ℕ) (s : Subject) (held before after : Holding) (v : KeptRange) (p : ℕ) (reported : List Text) → range_kept s held ≡ v → before ≡ held → IsAdvancedTo s p reported before after
    → Allows most (length v.kept.needs) → Allows most (length after.rows.needs)
advanced_few most s held before after v p reported view same advanced few =
    let test = is_left (touched_by s reported before) in
    let parts : length (filter test before.rows.needs) + length (filter (λ need. not (test need)) before.rows.needs) ≡ length before.rows.needs = length-filter_both test (λ need. not (test need)) (λ need. refl) before.rows.needs in
    let left : length after.rows.needs ≡ length (filter test before.rows.needs) = ap length advanced.needs in
    let had : length before.rows.needs ≡ length v.kept.needs = ap (λ (a : Holding). length a.rows.needs) same ∙ ap (λ (w : KeptRange). length w.kept.needs) view in
    allows_fewer most (length after.rows.needs) (length v.kept.needs) (omega (arith, parts, left, had)) few

-- what stands nowhere keeps nothing
pub empty_of : (s : Subject) (o : Option Holding) (v : KeptRange) → view_of s o ≡ v → v.position ≡ None → v.kept ≡ record { rows = []; needs = []; pending = [] }
empty_of s None v view none = ap (λ (w : KeptRange). w.kept) (sym view)
empty_of s (Some held) v view none = absurd (none-some held.position (sym none ∙ ap (λ (w : KeptRange). w.position) (sym view)))
