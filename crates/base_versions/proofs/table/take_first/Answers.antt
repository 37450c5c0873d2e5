use Rattle.std.proofs.Common.{◌≡◌, List, [], length, refl, sym, subst, arith}
use Rattle.std.proofs.lemmas.Grind.{common_steps}
use Rattle.std.proofs.lemmas.List.{nil_from_length}
use Rattle.base_versions.specs.declared.changes.Change.{Change}
use Rattle.base_versions.specs.Positions.{KeepsTo}
use Rattle.base_versions.specs.Groups.{AreGrouped}
use Rattle.base_versions.proofs.table.take_first.Goals as goal

pub returns-in_default-clause-grouped : goal.returns-in_default-clause-grouped
returns-in_default-clause-grouped c = λ h. subst (λ (cs : List Change). AreGrouped c.args.groups.now cs) (sym c.in_default.ensures.first) h

pub returns-then-is_empty-clause-keeps : goal.returns-then-is_empty-clause-keeps
returns-then-is_empty-clause-keeps c = subst (λ (cs : List Change). KeepsTo (λ (x : Change). x.position) c.args.to c.args.changes.now.items cs) (sym c.let_room_go.ensures) c.take_early.ensures.keeps

pub returns-then-is_empty-clause-grouped : goal.returns-then-is_empty-clause-grouped
returns-then-is_empty-clause-grouped c = λ h.
    let short : length c.let_room_go.new.queue.items ≡ 0 = grind (arith, common_steps) in
    subst (λ (cs : List Change). AreGrouped c.begin_anew.new.self cs) (sym (nil_from_length c.let_room_go.new.queue.items short)) c.begin_anew.ensures

pub returns-clause-grouped : goal.returns-clause-grouped
returns-clause-grouped c = λ h.
    subst (λ (cs : List Change). AreGrouped c.take_first.new.self cs) (sym c.let_room_go.ensures)
    (c.take_first.ensures c.in-Some.first c.take_early.new.changes.items refl (subst (λ (cs : List Change). AreGrouped c.args.groups.now cs) c.in-Some.ensures.first h))
