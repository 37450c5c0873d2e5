use Rattle.std.proofs.Common.{◌≡◌, ℕ, ◌≤◌, take, ◌∙◌, refl}
use Rattle.std.proofs.lemmas.Result.{IfOk-weaker}
use Rattle.std.specs.List.Sorted.{IsStrictlySortedBy}
use Rattle.semantics.specs.Texts.{table_of, pairs_within}
use Rattle.semantics.specs.Histories.{History, base_of}
use Rattle.base_versions.specs.Kept.{empty_table, StandsFor}
use Rattle.base_versions.proofs.StandsLemmas.{ascend-kept, pairs-kept}
use Rattle.base_versions.proofs.EnterLemmas.{table_found, if_ok_each, if_ok_given}
use Rattle.base_versions.proofs.base.BaseVersions.find_pairs.Goals as goal

pub returns-in-None : goal.returns-in-None
unfolding IsStrictlySortedBy
returns-in-None c = λ start h s g.
    let range = c.args.range.now in
    let is = table_found c.args.self.now _ c.table.result.now (table_of range.low) c.self.inside.tables.entries _ c.self.view_is refl c.table.ensures.table c.in-None.ensures.value in
    c.new.ensures.items ∙ pairs-kept start c.args.self.now h range c.args.p empty_table s g c.requires c.table.ensures.is_range is tt

pub returns-in-Some : goal.returns-in-Some
returns-in-Some c =
    let range = c.args.range.now in
    let is = table_found c.args.self.now _ c.table.result.now (table_of range.low) c.self.inside.tables.entries _ c.self.view_is refl c.table.ensures.table c.in-Some.ensures.value in
    if_ok_each c.pairs_at.result (λ (start : ℕ) (h : History). StandsFor start c.args.self.now h) (λ start. start ≤ c.args.p) (λ h pairs. pairs.items ≡ pairs_within range (base_of (take c.args.p h))) (λ start h s g.
    if_ok_given c.pairs_at.result (λ pairs. pairs.items ≡ pairs_within range (base_of (take c.args.p h))) c.pairs_at.ensures.ordered (λ sorted.
    IfOk-weaker c.pairs_at.result _ _ (λ pairs e. e ∙ pairs-kept start c.args.self.now h range c.args.p c.in-Some.table.now s g c.requires c.table.ensures.is_range is sorted)
    (c.pairs_at.ensures.pairs (ascend-kept start c.args.self.now h range c.in-Some.table.now s c.requires c.table.ensures.is_range is sorted))))
