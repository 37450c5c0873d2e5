use Rattle.std.proofs.Common.{rules, sym, subst}
use Rattle.std.specs.Prelude.{slice_index_or}
use Rattle.load_run.proofs.working.do_tasks.Goals as goal

pub returns-clause-each : goal.returns-clause-each
returns-clause-each g c i d e less =
    let gives = (c.in_ok-map_vec.ensures.each i e less).1 in
    let met = gives.call.met in
    let done : g.T.Task.gives gives.job (slice_index_or c.in_ok-map_vec.field-0.items i e) = search rules in
    subst (λ job. g.T.Task.gives job (slice_index_or c.in_ok-map_vec.field-0.items i e)) (sym (gives.job_is d)) done
