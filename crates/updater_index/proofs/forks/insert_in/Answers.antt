use Rattle.std.proofs.Common.{◌≡◌, ℕ, ◌||◌, Some, None, is_some, sym, refl, ap, ◌∙◌, subst, cond, List, rules}
use Rattle.std.specs.BTreeMap.{is_at}
use Rattle.std.specs.Map.{lookup}
use Rattle.std.proofs.lemmas.Result.{on_ok_weaker, on_err_weaker}
use Rattle.semantics.specs.Texts.{Range}
use Rattle.updater_index.specs.declared.fork.Fork.{Fork}
use Rattle.updater_index.specs.declared.side.Span.{Span}
use Rattle.updater_index.specs.Forks.{fork_of, fork_cmp}
use Rattle.updater_index.specs.Spans.{has_low, is_same}
use Rattle.updater_index.specs.Sides.{Sides, side_at, is_among, AddsRange}
use Rattle.updater_index.proofs.SideLemmas.{IsSet, adds-from_set, keeps-from_set}
use Rattle.updater_index.proofs.forks.insert_in.Goals as goal

pub returns-in-Some-clause-ok : goal.returns-in-Some-clause-ok
returns-in-Some-clause-ok c =
    let b = c.args.bounds.now in
    let id = c.args.id in
    let old = c.args.sides.now.entries in
    let new = (c.get_mut.follows.lender c.insert.new.self).entries in
    on_ok_weaker c.insert.result (λ h. adds-from_set b id (Some c.insert.new.self) old new
    (λ r q. h r q ∙ ap (λ o. is_same b id r q || is_among o r q) (c.in-Some.ensures.value ∙ ap (λ f. side_at f old) c.fork.ensures))
    (subst (λ (f : Fork). IsSet f (Some c.insert.new.self) old new) c.fork.ensures ((c.get_mut.follows.holds c.insert.new.self).3 (search rules)).0))
    c.insert.ensures.ok

pub returns-in-Some-clause-err : goal.returns-in-Some-clause-err
returns-in-Some-clause-err c =
    let old = c.args.sides.now.entries in
    let new = (c.get_mut.follows.lender c.insert.new.self).entries in
    on_err_weaker c.insert.result (λ h. keeps-from_set c.fork.result.now (Some c.insert.new.self) old new
    (λ r q. h r q ∙ ap (λ o. is_among o r q) c.in-Some.ensures.value)
    (ap is_some (sym c.in-Some.ensures.value))
    ((c.get_mut.follows.holds c.insert.new.self).3 (search rules)).0)
    c.insert.ensures.err

pub returns-in_ok-insert-in-None-2-clause-ok : goal.returns-in_ok-insert-in-None-2-clause-ok
returns-in_ok-insert-in-None-2-clause-ok c =
    let b = c.args.bounds.now in
    let id = c.args.id in
    let old = c.args.sides.now.entries in
    let new = c.insert-in-None-2.new.self.entries in
    let key = c.in_ok-copy-in-None.field-0 in
    let ss = c.insert-in-None.new.self in
    let same : key ≡ fork_of b = c.in_ok-copy-in-None.ensures ∙ c.fork-in-None.ensures in
    let set : IsSet key (Some ss) old new = λ q. c.in_ok-insert-in-None-2.ensures.updates.0 q ∙ ap (λ m. cond (is_at (fork_cmp key) q) (Some ss) (side_at q m.entries)) c.get_mut.follows.holds-at-none in
    adds-from_set b id (Some ss) old new
    (λ r q. c.in_ok-insert-in-None.ensures.ok r q ∙ ap (λ (s : List Span). is_same b id r q || has_low s r q) c.new-side.ensures
    ∙ ap (λ o. is_same b id r q || is_among o r q) (c.in-None.ensures.value ∙ ap (λ f. side_at f old) c.fork.ensures))
    (subst (λ (f : Fork). IsSet f (Some ss) old new) same set)
