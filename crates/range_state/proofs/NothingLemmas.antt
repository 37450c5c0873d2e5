-- A range of which no key fits the output.
use Rattle.std.proofs.Common.{◌≡◌, ℕ, [], length, take, true, Option, None, MatchOption, refl, sym, ap, ◌∙◌, subst}
use Rattle.semantics.specs.Texts.{is_range}
use Rattle.semantics.specs.Joins.{is_aggregate, value_operator}
use Rattle.semantics.specs.Histories.{History, joins_of}
use Rattle.semantics.specs.Patterns.{Slots, no_slots}
use Rattle.semantics.specs.States.{KeepsRules, below}
use Rattle.semantics.specs.Texts.{Table, pairs_within}
use Rattle.semantics.specs.Outputs.{out}
use Rattle.key_ranges.specs.Containing.{range_slots}
use Rattle.growing_history.specs.Entered.{HasEntered, HasRank}
use Rattle.growing_history.proofs.EnteredLemmas.{has_entered_taken, keeps_rules}
use Rattle.growing_history.proofs.KeyLemmas.{has_keys_below}
use Rattle.range_evaluation.specs.Trees.{tree, out_under}
use Rattle.range_evaluation.specs.Contributions.{Contribution, listed_contributions, followed_contributions}
use Rattle.range_evaluation.proofs.AskedLemmas.{shared_give_out}
use Rattle.range_evaluation.proofs.ContributionLemmas.{shared_give_contributions}
use Rattle.join_rows.specs.Kept.{KeptRows}
use Rattle.agg_rows.specs.Kept.{Groups, pairs_of}
use Rattle.join_eval.specs.Bounds.{Allows}
use Rattle.join_eval.proofs.CollectingLemmas.{none_allowed}
use Rattle.kept_ranges.specs.Listing.{listed_at}
use Rattle.range_state.specs.Held.{groups_of}
use Rattle.range_state.specs.Filled.{HoldsAt, IsFilledAt}
use Rattle.range_state.specs.Work.{fill_needs, needs_under}
use Rattle.range_state.specs.declared.holding.Holding.{Holding}
use Rattle.range_state.specs.declared.subject.Subject.{Subject}
use Rattle.range_state.proofs.FillLemmas.{standing_join}

-- where nothing is held for it, that is what filling it makes
pub nothing_filled : (s : Subject) (h : History) (p : ℕ) (held : Holding) → HasEntered h → HasRank (joins_of (take p h)) s.join s.rank → is_range s.range.low s.range.high ≡ true → range_slots s.join.output s.range ≡ None
    → HoldsAt s p (record { pairs = []; needs = [] }) held.groups held → groups_of held.groups ≡ [] → IsFilledAt s (below (take p h) s.rank) p held
nothing_filled s h p held entered stands bounds none holds empty =
    let table = below (take p h) s.rank in
    let ok = standing_join h p s.rank s.join entered stands in
    let taken = has_entered_taken p h entered in
    let rules : KeepsRules s.join = keeps_rules (take p h) s.join s.rank taken stands in
    let keys = has_keys_below (take p h) s.rank taken in
    let nothing : pairs_within s.range (out s.join table) ≡ [] =
    subst (λ o. MatchOption o (pairs_within s.range (out s.join table) ≡ []) (λ slots. pairs_within s.range (out_under s.join slots s.range table) ≡ pairs_within s.range (out s.join table))) none (shared_give_out s.join s.range table ok rules bounds keys) in
    record {
      fits = holds.fits;
      position = holds.position;
      pending = holds.pending;
      notes = holds.notes;
      filled = record {
        rows = ap (λ (rows : KeptRows). rows.pairs) holds.rows ∙ sym nothing;
        needs = subst (λ o. MatchOption o (held.rows.needs ≡ []) (λ slots. held.rows.needs ≡ tree s.join slots s.range table)) (sym none) (ap (λ (rows : KeptRows). rows.needs) holds.rows);
        pending = holds.pending;
      };
      listed = λ aggregates key.
          let unlisted : listed_contributions s.join no_slots s.range table ≡ [] =
          subst (λ o. MatchOption o (listed_contributions s.join no_slots s.range table ≡ []) (λ slots. followed_contributions s.join slots s.range table ≡ listed_contributions s.join no_slots s.range table)) none
          (shared_give_contributions s.join s.range table ok rules aggregates bounds keys) in
          ap (λ (groups : Groups). pairs_of key groups) empty ∙ sym (ap (listed_at key) unlisted);
    }

-- and it takes no need, which any number allows
pub nothing_allowed : (s : Subject) (most : Option ℕ) (table : Table) → range_slots s.join.output s.range ≡ None → Allows most (length (fill_needs s.join s.range table))
nothing_allowed s most table none =
    subst (λ (o : Option Slots). Allows most (length (needs_under s.join s.range table o))) (sym none) (none_allowed most)
