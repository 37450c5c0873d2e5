use Rattle.std.proofs.Common.{◌≡◌, ℕ, ◌≤◌, map, take, ⊎_elim, ◌∙◌, ap, refl, subst, arith}
use Rattle.std.proofs.lemmas.Result.{IfOk-weaker}
use Rattle.semantics.specs.Texts.{table_of}
use Rattle.semantics.specs.Histories.{History, base_of}
use Rattle.growing_history.specs.StateChanges.{change_to}
use Rattle.base_versions.specs.Changes.{changes_of}
use Rattle.base_versions.specs.Positions.{IsKeptSince}
use Rattle.base_versions.specs.Kept.{TableKept, IsFoundByVersions, empty_table, StandsFor}
use Rattle.base_versions.specs.Valued.{base_changes}
use Rattle.base_versions.proofs.ChangeLemmas.{ascend-kept_changes, changed_in-kept_changes}
use Rattle.base_versions.proofs.EnterLemmas.{table_found, if_ok_each}
use Rattle.base_versions.proofs.StandsLemmas.{ascend-kept}
use Rattle.base_versions.proofs.ChangedLemmas.{keys_changed-kept}
use Rattle.base_versions.proofs.ValuedLemmas.{base_changes_found, if_ok_both}
use Rattle.base_versions.proofs.base.BaseVersions.find_changes.Goals as goal

pub returns-in-None : goal.returns-in-None
returns-in-None c = λ start h s g.
    let range = c.args.range.now in
    let is = table_found c.args.self.now _ c.table.result.now (table_of range.low) c.self.inside.tables.entries _ c.self.view_is refl c.table.ensures.table c.in-None.ensures.value in
    let kept = subst (λ (t : TableKept). IsKeptSince (λ c. c.position) start t.changes (changes_of (table_of range.low) h)) is (s.changes (table_of range.low) c.requires.own) in
    c.new.ensures.items
    ∙ ap (map (change_to (base_of (take c.args.p h)))) (changed_in-kept_changes start empty_table.changes h range c.args.q c.args.p kept g c.requires.order c.table.ensures.is_range)

pub returns-in-Some : goal.returns-in-Some
returns-in-Some c =
    let range = c.args.range.now in
    let table = c.in-Some.table.now in
    let is = table_found c.args.self.now _ c.table.result.now (table_of range.low) c.self.inside.tables.entries _ c.self.view_is refl c.table.ensures.table c.in-Some.ensures.value in
    if_ok_each c.changes.result (λ (start : ℕ) (h : History). StandsFor start c.args.self.now h) (λ start. start ≤ c.args.q) (λ h found. found.items ≡ base_changes c.args.q c.args.p range h) (λ start h s g.
    let kept = subst (λ (t : TableKept). IsKeptSince (λ c. c.position) start t.changes (changes_of (table_of range.low) h)) is (s.changes (table_of range.low) c.requires.own) in
    let order = c.requires.order in
    let from : start ≤ c.args.p = omega (arith, g, order) in
    IfOk-weaker c.changes.result _ _ (λ found both.
    base_changes_found start c.args.self.now h range c.args.q c.args.p table found.items s from c.requires.own c.table.ensures.is_range is (⊎_elim
    (λ by_changes. by_changes ∙ changed_in-kept_changes start table.changes h range c.args.q c.args.p kept g c.requires.order c.table.ensures.is_range)
    (λ (by_versions : IsFoundByVersions c.args.q c.args.p range table (map (λ c. c.key) found.items)).
    by_versions.found (ascend-kept start c.args.self.now h range table s c.requires.own c.table.ensures.is_range is by_versions.ordered)
    ∙ keys_changed-kept start c.args.self.now h range c.args.q c.args.p table s g c.requires.order c.requires.own c.table.ensures.is_range is by_versions.ordered)
    both.0) both.1)
    (if_ok_both c.changes.result _ _ (c.changes.ensures.keys (ascend-kept_changes start table.changes (table_of range.low) h kept)) c.changes.ensures.values))
