use Rattle.std.proofs.Common.{◌≤◌, refl, sym, ap, ◌∙◌, subst, arith, length}
use Rattle.growing_history.specs.Entered.{HasEntered}
use Rattle.write_history.specs.Passes.{PassView}
use Rattle.base_versions.proofs.EnterLemmas.{on_err_always}
use Rattle.base_shards.proofs.MarkLemmas.{at_least_in_all, marked_after, marked_at_first}
use Rattle.base_shards.proofs.shard.Shard.take_all.Goals as goal

pub loop-self-init : goal.loop-self-init
loop-self-init g c = record {
  entered = c.requires.entered;
  within = c.requires.within;
  pass = refl;
  number = refl;
  start = refl;
  kept = omega arith;
  marked = marked_at_first c.args.self.now.base.shard c.args.self.now.base.position c.args.self.now.pass.view c.args.self.now.index;
}

pub returns-in_err-take_next-clause-in_part : goal.returns-in_err-take_next-clause-in_part
returns-in_err-take_next-clause-in_part g c =
    let so_far = c.loop-self.invariant in
    on_err_always c.from_residual.result
    (at_least_in_all c.loop-self.self.base.shard c.args.self.now.base.shard c.args.self.now.base.position c.loop-self.self.base.position c.take_next.new.self.base.position c.loop-self.self.pass.view c.args.self.now.pass.view c.args.self.now.index
    c.loop-self.self.index c.take_next.new.self.index so_far.number (ap (λ (p : PassView). p.view) so_far.pass) so_far.kept c.take_next.ensures.kept so_far.marked c.in_err-take_next.ensures.in_part)

pub loop-self-preserved : goal.loop-self-preserved
loop-self-preserved g c =
    let so_far = c.loop-self.invariant in
    record {
      entered = subst (λ (p : PassView). HasEntered p.view) (sym c.take_next.ensures.pass) so_far.entered;
      within = subst (λ (p : PassView). c.args.p ≤ length p.view) (sym c.take_next.ensures.pass) so_far.within;
      pass = c.take_next.ensures.pass ∙ so_far.pass;
      number = c.take_next.ensures.number ∙ so_far.number;
      start = c.take_next.ensures.start ∙ so_far.start;
      kept = omega (arith, so_far.kept, c.take_next.ensures.kept);
      marked = marked_after c.loop-self.self.base.shard c.args.self.now.base.shard c.args.self.now.base.position c.loop-self.self.base.position c.take_next.new.self.base.position c.loop-self.self.pass.view c.args.self.now.pass.view
          c.args.self.now.index c.loop-self.self.index c.take_next.new.self.index so_far.number (ap (λ (p : PassView). p.view) so_far.pass) so_far.kept c.take_next.ensures.kept so_far.marked c.in_ok-take_next.ensures.marked;
    }
