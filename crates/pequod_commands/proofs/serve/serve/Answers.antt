use Rattle.std.proofs.Common.{[], subst, sym, arith, ⊎_elim}
use Rattle.pq_io.specs.Streams.{Took}
use Rattle.pq_io.proofs.StreamLemmas.{Took-nothing}
use Rattle.pequod_commands.specs.Serves.{closed, failed, unserved, no_memory}
use Rattle.pequod_commands.proofs.serve.serve.Goals as goal

pub returns-in-Err-clause-serve : goal.returns-in-Err-clause-serve
returns-in-Err-clause-serve g c = record { ending = unserved c.in-Err.ensures.ended.ending; served = c.in-Err.ensures.ended.ended }

pub returns-clause-serve : goal.returns-clause-serve
returns-clause-serve g c =
    let joins = c.in-Ok.joins.items in
    let nothing = subst (λ s. Took (g.W.Sink.taken c.args.sink.now) (g.W.Sink.taken s) []) (sym c.in-Ok.ensures.same_sink) (Took-nothing _) in
    ⊎_elim
    (λ zero. record {
      ending = closed joins;
      served = (zero, c.in-Ok.ensures.joins, nothing, c.serve_links.ensures.closed zero, c.serve_links.ensures.opened zero, c.serve_links.ensures.links (λ six. omega arith));
    })
    (λ others. ⊎_elim
    (λ six. record { ending = unserved no_memory; served = (six, nothing) })
    (λ eight. record {
      ending = failed joins;
      served = (eight, c.in-Ok.ensures.joins, nothing, c.serve_links.ensures.nowhere_else eight, c.serve_links.ensures.links (λ six. omega arith));
    })
    others)
    c.serve_links.ensures.ends

-- that serving ended neither with closed doors nor with failed ones leaves a want of memory
pub returns-clause-untouched_doors : goal.returns-clause-untouched_doors
returns-clause-untouched_doors g c = λ unclosed unfailed.
    c.serve_links.ensures.memory_doors (⊎_elim (λ zero. absurd (unclosed zero)) (λ others. ⊎_elim (λ six. six) (λ eight. absurd (unfailed eight)) others) c.serve_links.ensures.ends)
