use Rattle.std.proofs.Common.{List, subst}
use Rattle.std.proofs.lemmas.Result.{IfOk-weaker}
use Rattle.growing_history.proofs.ElementLemmas.{put_back}
use Rattle.load_run.specs.Jobs.{Assigned, AreDealt}
use Rattle.load_run.proofs.JobLemmas.{have_worked}
use Rattle.load_run.proofs.working.work_all.Goals as goal

pub returns : goal.returns
returns g c =
    let jobs = c.in_ok-jobs.jobs in
    let dealt = c.deal.new.jobs in
    let lent = c.deref_mut.ensures.value in
    let same = c.deal.auto.jobs in
    let back = put_back dealt jobs.items jobs.len jobs.ok.0 (rw lent at same) in
    let all = subst (λ (before : List Assigned). AreDealt c.args.acts.items before dealt) lent c.in_ok-deal.ensures in
    let count = rw back at c.in_ok-ends.ensures.count in
    let each = rw back at c.in_ok-ends.ensures.each in
    IfOk-weaker c.all_clients.result _ _ (λ clients ok. have_worked c.args.clients.items clients.items jobs.items dealt c.in_ok-ends.ends.items c.args.acts.items c.in_ok-jobs.ensures all count ok each) c.all_clients.ensures
