use Rattle.pequod_cache.proofs.AddingLemmas.{none_added}
use Rattle.load_run.proofs.ActLemmas.{act_added}
use Rattle.load_run.proofs.acting.do_acts.Goals as goal

pub loop-act-init : goal.loop-act-init
loop-act-init g c = none_added c.args.client.now

pub loop-act-preserved : goal.loop-act-preserved
loop-act-preserved g c =
    act_added c.loop-act.yielded c.in-Some.act c.args.client.now c.loop-act.client c.do_act.new.client c.loop-act.invariant c.in_ok-do_act.ensures
