use Rattle.std.proofs.Common.{◌≡◌, ◌+◌, ◌-◌, suc, ap, ◌∙◌, arith}
use Rattle.load_gen.specs.Plans.{words_of, act_of, planned}
use Rattle.load_gen.proofs.PlanLemmas.{acts_begin, acts_more, acts_end}
use Rattle.load_gen.proofs.acts.plan.Goals as goal

pub loop-done-init : goal.loop-done-init
loop-done-init c = acts_begin c.args.users c.args.steps c.args.number (c.args.steps - 0) c.seed_from_u64-generator.result c.in_ok-acts.acts.items c.in_ok-acts.ensures.items (omega arith) c.seed_from_u64-generator.ensures

pub loop-done-preserved : goal.loop-done-preserved
loop-done-preserved c =
    let test = c.loop-done-test.true in
    let one_less : c.args.steps - c.loop-done.done ≡ suc (c.args.steps - (c.loop-done.done + 1)) = omega arith in
    let act : c.in_ok-act_of.field-0 ≡ act_of (words_of c.loop-done.generator) (c.loop-done.done + 1) c.args.users = c.in_ok-act_of.ensures ∙ ap (λ w. act_of w (c.loop-done.done + 1) c.args.users) c.draw-words.ensures.words in
    acts_more c.args.users (c.loop-done.done + 1) (c.args.steps - c.loop-done.done) (c.args.steps - (c.loop-done.done + 1)) c.loop-done.generator c.draw-words.new.generator c.in_ok-act_of.field-0 c.loop-done.acts.items c.push.new.self.items
    (planned c.args.number c.args.steps c.args.users) one_less act c.draw-words.ensures.rest c.in_ok-push.ensures.items c.loop-done.invariant

pub returns : goal.returns
returns c =
    acts_end c.args.users (c.loop-done.done + 1) (c.args.steps - c.loop-done.done) c.loop-done.generator c.loop-done.acts.items (planned c.args.number c.args.steps c.args.users) (omega arith) c.loop-done.invariant
