use Rattle.std.proofs.Common.{◌≡◌, List, [], ◌∷◌, ◌++◌, length, sym, ap, ◌∙◌, subst, append_assoc, rules}
use Rattle.semantics.specs.Joins.{Join}
use Rattle.server.specs.Staffs.{AreStaff}
use Rattle.server.proofs.ReceiptLemmas.{no_more}
use Rattle.server.proofs.StaffLemmas.{declared_more, next_is_free}
use Rattle.server.proofs.staffing.declare_all.Goals as goal

pub loop-join-init : goal.loop-join-init
loop-join-init g c = record {
  next = search rules;
  finite = search rules;
  staff = record { alone = c.requires.alone; wrote = c.requires.none };
  left = c.into_iter-join-iterator.ensures.into_iter_gives.0;
}

pub declare_next-requires-clause-alone : goal.declare_next-requires-clause-alone
declare_next-requires-clause-alone g c = c.loop-join.invariant.staff.alone

pub declare_next-requires-clause-free : goal.declare_next-requires-clause-free
declare_next-requires-clause-free g c =
    next_is_free c.args.joins.items c.loop-join.yielded c.loop-join.join-iterator.rest.items _ c.in-Some.join _ c.requires.joins c.loop-join.invariant.left c.in-Some.ensures.steps.0
    c.loop-join.invariant.staff.wrote

pub loop-join-preserved : goal.loop-join-preserved
loop-join-preserved g c =
    let so_far = c.loop-join.invariant in
    let next = c.in_ok-declare_next.ensures in
    record {
      next = tt;
      finite = tt;
      staff = record { alone = next.alone; wrote = declared_more c.loop-join.yielded c.in-Some.join _ _ so_far.staff.wrote next.wrote };
      left = append_assoc c.loop-join.yielded (c.in-Some.join ∷ []) _ ∙ ap (λ (joins : List Join). c.loop-join.yielded ++ joins) (sym c.in-Some.ensures.steps.0) ∙ so_far.left;
    }

-- all joins are declared
pub returns : goal.returns
returns g c =
    let left = c.loop-join.join-iterator.rest in
    let none : length left.items ≡ 0 = sym left.ok.0 ∙ c.in-None.ensures.steps.0 in
    subst (λ (joins : List Join). AreStaff g.N.Naming.history joins c.loop-join.first c.loop-join.others) (no_more c.loop-join.yielded left.items c.args.joins.items c.loop-join.invariant.left none)
    c.loop-join.invariant.staff
