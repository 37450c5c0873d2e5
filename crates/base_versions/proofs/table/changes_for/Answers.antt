use Rattle.std.proofs.Common.{List, sym, ◌∙◌, subst}
use Rattle.base_versions.specs.declared.changes.Change.{Change}
use Rattle.base_versions.specs.Groups.{HoldsChanges}
use Rattle.base_versions.proofs.GroupedLemmas.{holds-group, holds-all}
use Rattle.base_versions.proofs.table.changes_for.Goals as goal

pub returns-in_default-clause-some : goal.returns-in_default-clause-some
returns-in_default-clause-some c = holds-all c.args.range.now c.args.changes.now.items

pub returns-then-not-are_kept-clause-some : goal.returns-then-not-are_kept-clause-some
returns-then-not-are_kept-clause-some c = holds-all c.args.range.now c.args.changes.now.items

pub returns-in-None-clause-none : goal.returns-in-None-clause-none
returns-in-None-clause-none c =
    let range = c.args.range.now in
    let all = c.args.changes.now.items in
    let group = c.in-Some.group.now in
    subst (λ (cs : List Change). HoldsChanges range all cs) (sym (c.in-None.ensures ∙ c.requires (sym c.are_kept.ensures ∙ c.if-not-are_kept.false) group)) (holds-group range group all c.in-Some.ensures)

pub returns-in-Some-find-clause-some : goal.returns-in-Some-find-clause-some
returns-in-Some-find-clause-some c =
    let range = c.args.range.now in
    let all = c.args.changes.now.items in
    let group = c.in-Some.group.now in
    subst (λ (cs : List Change). HoldsChanges range all cs) (sym (c.changes.ensures ∙ c.in-Some-find.ensures ∙ c.requires (sym c.are_kept.ensures ∙ c.if-not-are_kept.false) group)) (holds-group range group all c.in-Some.ensures)
