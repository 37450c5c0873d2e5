use Rattle.std.proofs.Common.{List, ◌++◌, ◌∷◌, [], sym, subst}
use Rattle.load_run.specs.Jobs.{Assigned, AreIdle}
use Rattle.load_run.proofs.JobLemmas.{idle_more}
use Rattle.load_run.proofs.jobs.idle_jobs.Goals as goal

pub loop-client-preserved : goal.loop-client-preserved
loop-client-preserved g c =
    subst (λ (jobs : List Assigned). AreIdle (c.loop-client.yielded ++ c.in-Some.client ∷ []) jobs) (sym c.in_ok-push.ensures.items)
    (idle_more c.loop-client.yielded c.loop-client.jobs.items c.in-Some.client c.new.result c.loop-client.invariant c.new.ensures)
