use Rattle.std.proofs.Common.{◌≡◌, ◌↔◌, List, Contains, is_lt, rules, ap, subst, sym}
use Rattle.std.specs.List.{AllByRecursion, dedup}
use Rattle.std.specs.List.Sorted.{IsStrictlySortedBy}
use Rattle.std.proofs.lemmas.Fn.{dedup_same}
use Rattle.std.proofs.lemmas.List.MinMax.{ranks_by}
use Rattle.std.proofs.lemmas.List.Sorted.{answers_always}
use Rattle.semantics.specs.Texts.{text_cmp}
use Rattle.semantics.proofs.TableLemmas.{text_total}
use Rattle.growing_history.specs.StateChanges.{Change}
use Rattle.join_eval.specs.Answers.{change_keys}
use Rattle.range_state.proofs.ChangeOrderLemmas.{same_key, ascend_merged, keys_merged, among_merged}
use Rattle.range_state.proofs.merging.merged_changes.Goals as goal

pub returns-clause-ascend : goal.returns-clause-ascend
returns-clause-ascend c =
    let is : c.dedup_by.new.self.items ≡ dedup same_key c.sort_by.new.self.items = dedup_same _ same_key _ (λ x y b f' x' y' k. search rules) _ _ c.dedup_by.ensures.filtered in
    let sorted = c.in_ok-sort_by.ensures.sorted (λ (x y : Change). is_lt (text_cmp x.key y.key)) (ranks_by text_total (λ (x : Change). x.key))
    (answers_always _ _ _ (λ f a r f' h. let is : r ≡ text_cmp a.0.now.key a.1.0.now.key = search rules in ap is_lt is)) in
    subst (λ (cs : List Change). IsStrictlySortedBy text_cmp (change_keys cs)) (sym is) (ascend_merged c.sort_by.new.self.items sorted)

pub returns-clause-same : goal.returns-clause-same
returns-clause-same c =
    let is : c.dedup_by.new.self.items ≡ dedup same_key c.sort_by.new.self.items = dedup_same _ same_key _ (λ x y b f' x' y' k. search rules) _ _ c.dedup_by.ensures.filtered in
    λ key. subst (λ (cs : List Change). Contains (change_keys cs) key ↔ Contains (change_keys c.args.changes.items) key) (sym is) (keys_merged c.args.changes.items c.sort_by.new.self.items key c.in_ok-sort_by.ensures.permutation)

pub returns-clause-among : goal.returns-clause-among
returns-clause-among c =
    let is : c.dedup_by.new.self.items ≡ dedup same_key c.sort_by.new.self.items = dedup_same _ same_key _ (λ x y b f' x' y' k. search rules) _ _ c.dedup_by.ensures.filtered in
    subst (λ (cs : List Change). AllByRecursion (Contains c.args.changes.items) cs) (sym is) (among_merged c.args.changes.items c.sort_by.new.self.items c.in_ok-sort_by.ensures.permutation)
