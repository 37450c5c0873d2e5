use Rattle.std.proofs.Common.{◌≡◌, ◌≤◌, ℕ, Result, Ok, Err, OnOk, refl, sym, ap, ◌∙◌, subst, arith}
use Rattle.std.proofs.lemmas.Result.{on_ok_weaker, on_err_weaker}
use Rattle.growing_history.specs.Changes.{entries_between}
use Rattle.base_versions.specs.Kept.{Kept}
use Rattle.write_history.specs.Passes.{PassView}
use Rattle.base_versions.proofs.EnterLemmas.{on_err_always}
use Rattle.updater_index.specs.Registered.{Index}
use Rattle.base_shards.specs.Marks.{MarksAtLeast, marked_by}
use Rattle.base_shards.specs.Shards.{ShardView}
use Rattle.base_shards.proofs.MarkLemmas.{at_least_as, at_least_none, marks_none}
use Rattle.base_shards.proofs.shard.Shard.advance_to.Goals as goal

-- what holds at any success
on_ok_always : {X E P : Type 0} (r : Result X E) → P → OnOk r P
on_ok_always (Ok x) p = p
on_ok_always (Err e) p = tt

pub returns-clause-marked : goal.returns-clause-marked
returns-clause-marked g c =
    let from = ap (λ (b : Kept). b.position) c.meet.ensures.base in
    let view = ap (λ (p : PassView). p.view) (sym c.take_all.ensures.pass) in
    let number = c.in_ok-keeps_part.ensures in
    on_ok_weaker c.take_all.result (λ is. is ∙ (λ i. marked_by (number i) (entries_between (from i) c.take_all.new.self.base.position (view i)) (c.meet.ensures.index i))) c.take_all.ensures.marked

pub returns-clause-in_part : goal.returns-clause-in_part
returns-clause-in_part g c =
    let met = c.meet.new.self in
    let from = ap (λ (b : Kept). b.position) c.meet.ensures.base in
    let number = ap (λ (b : Kept). b.shard) c.meet.ensures.base in
    let view = ap (λ (p : PassView). p.view) (sym c.take_all.ensures.pass) in
    on_err_weaker c.take_all.result
    (at_least_as met.base.shard c.args.self.now.base.shard met.base.position c.args.self.now.base.position c.take_all.new.self.base.position met.pass.view c.take_all.new.self.pass.view met.index c.args.self.now.index c.take_all.new.self.index number from view
    c.meet.ensures.index) c.take_all.ensures.in_part

pub returns-clause-start : goal.returns-clause-start
returns-clause-start g c = omega (arith, c.take_all.ensures.start, c.meet.ensures.trimmed)

pub returns-clause-kept : goal.returns-clause-kept
returns-clause-kept g c = let from = ap (λ (b : Kept). b.position) c.meet.ensures.base in omega (arith, c.take_all.ensures.kept, from)

pub returns-clause-number : goal.returns-clause-number
returns-clause-number g c = on_ok_always c.take_all.result (c.take_all.ensures.number ∙ c.in_ok-keeps_part.ensures)

pub returns-in_err-keeps_part-clause-kept : goal.returns-in_err-keeps_part-clause-kept
returns-in_err-keeps_part-clause-kept g c = let from = ap (λ (b : Kept). b.position) c.meet.ensures.base in omega (arith, from)

pub returns-in_err-keeps_part-clause-in_part : goal.returns-in_err-keeps_part-clause-in_part
returns-in_err-keeps_part-clause-in_part g c =
    let old = c.args.self.now in
    let met = c.meet.new.self in
    let from : met.base.position ≡ old.base.position = ap (λ (b : Kept). b.position) c.meet.ensures.base in
    on_err_always c.from_residual.result
    (subst (λ (x : ℕ × Index). MarksAtLeast old.base.shard (entries_between old.base.position x.0 met.pass.view) old.index x.1) (λ i. (sym from i, sym c.meet.ensures.index i))
    (at_least_none met.pass.view old.base.shard old.base.position old.index old.index (marks_none old.index)))
