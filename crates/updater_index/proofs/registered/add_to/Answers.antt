use Rattle.std.proofs.Common.{◌≡◌, [], ◌∷◌, ◌++◌, set, List, true, false, sym, ap, ◌∙◌, subst}
use Rattle.std.proofs.lemmas.List.{set-get_or}
use Rattle.semantics.specs.Texts.{Range}
use Rattle.updater_index.specs.Registered.{ranges_of, has_range}
use Rattle.updater_index.specs.Indexed.{AreIndexed}
use Rattle.updater_index.specs.Sides.{is_registered, RemovesRange}
use Rattle.updater_index.proofs.IndexLemmas.{any_default, indexed-adds, indexed-same, indexed-undone, not_added, was_added}
use Rattle.updater_index.proofs.registered.add_to.Goals as goal

pub returns-then-not-branch-clause-indexed : goal.returns-then-not-branch-clause-indexed
returns-then-not-branch-clause-indexed c =
    indexed-same c.args.by_id.now.items c.args.id c.args.bounds c.args.forks.now c.insert.new.self
    (not_added (is_registered c.args.forks.now c.args.bounds c.args.id) (sym c.if-not-branch.true ∙ c.in_ok-insert.ensures.added)) c.in_ok-insert.ensures.ok c.requires.indexed

pub returns-in-Ok-clause-indexed : goal.returns-in-Ok-clause-indexed
returns-in-Ok-clause-indexed c =
    let held = c.args.by_id.now.items in
    let id = c.args.id in
    let b = c.args.bounds in
    let own : c.index_mut.result.now ≡ ranges_of id held = c.index_mut.ensures.value ∙ any_default held id c.index_mut.result.now [] c.requires.known in
    let none = was_added (is_registered c.args.forks.now b id) (sym c.if-not-branch.false ∙ c.in_ok-insert.ensures.added) in
    subst (λ (rs : List Range). AreIndexed (set held id rs) c.insert.new.self) (sym (c.in-Ok.ensures.ok ∙ ap (λ (rs : List Range). rs ++ b ∷ []) own))
    (indexed-adds held id b c.args.forks.now c.insert.new.self c.requires.known (sym (c.requires.indexed.agrees b id) ∙ none) c.in_ok-insert.ensures.ok c.requires.indexed)

pub returns-in-Err-clause-indexed : goal.returns-in-Err-clause-indexed
returns-in-Err-clause-indexed c =
    let held = c.args.by_id.now.items in
    let id = c.args.id in
    let b = c.args.bounds in
    let own : c.index_mut.result.now ≡ ranges_of id held = c.index_mut.ensures.value ∙ any_default held id c.index_mut.result.now [] c.requires.known in
    let none = was_added (is_registered c.args.forks.now b id) (sym c.if-not-branch.false ∙ c.in_ok-insert.ensures.added) in
    let removes = subst (λ (r : Range). RemovesRange r id c.insert.new.self c.remove.new.self) (c.split-memory.ensures ∙ c.in-Err.ensures.back) c.remove.ensures in
    subst (λ hs. AreIndexed hs c.remove.new.self) (sym (ap (set held id) (c.in-Err.ensures.err ∙ own) ∙ set-get_or held id []))
    (indexed-undone held id b c.args.forks.now c.insert.new.self c.remove.new.self none c.in_ok-insert.ensures.ok removes c.requires.indexed)
