use Rattle.std.proofs.Common.{sym, ap, ◌∙◌, subst, arith}
use Rattle.base_reader.specs.Reaching.{IsReachedAt}
use Rattle.base_reader.proofs.ReachingLemmas.{picked_none, picked_more, picked_same, picked_all}
use Rattle.base_reader.proofs.reaching.reached_in.Goals as goal
use Rattle.base_reader.proofs.reaching.reached_in.Goals.{then-is_reached+in_ok-push, else-is_reached}

pub loop-i-init : goal.loop-i-init
loop-i-init c = c.new-ats.ensures.items ∙ sym (picked_none c.args.range.now c.args.rank c.args.joins.now.standing)

pub loop-i-preserved : goal.loop-i-preserved
loop-i-preserved c =
    elim c.if-is_reached.branch [
      | then-is_reached+in_ok-push w ↦
          picked_more c.args.range.now c.args.rank c.args.joins.now.standing c.loop-i.i w.at.result c.loop-i.ats.items c.if-is_reached.ats.items (omega arith)
          (subst (IsReachedAt c.args.joins.now.standing c.loop-i.i c.args.rank c.args.range.now) w.if-is_reached.true c.is_reached.ensures) w.at.ensures (ap (λ v. v.items) w.ats-is ∙ w.in_ok-push.ensures.items) c.loop-i.invariant
      | else-is_reached w ↦
          ap (λ v. v.items) w.ats-is
          ∙ picked_same c.args.range.now c.args.rank c.args.joins.now.standing c.loop-i.i c.loop-i.ats.items (omega arith)
          (subst (IsReachedAt c.args.joins.now.standing c.loop-i.i c.args.rank c.args.range.now) w.if-is_reached.false c.is_reached.ensures) c.loop-i.invariant
    ]

pub returns : goal.returns
returns c = picked_all c.args.range.now c.args.rank c.args.joins.now.standing c.loop-i.i c.loop-i.ats.items (omega arith) c.loop-i.invariant
