use Rattle.std.proofs.Common.{sym, subst}
use Rattle.pq_io.specs.Links.{LinkTold, link_told}
use Rattle.server.specs.Receipts.{WasServed}
use Rattle.server.proofs.working.serve_one.Goals as goal

pub returns-clause-served : goal.returns-clause-served
returns-clause-served g c =
    subst (λ (told : LinkTold). WasServed (g.S.Service.number c.args.service.now) (g.S.Service.view c.args.service.now) (g.S.Service.view c.serve_patiently-refused.new.service)
    (link_told g.K.Link.left g.K.Link.taken g.K.Link.read_faults g.K.Link.write_faults c.args.link) told)
    (sym c.finish.ensures.told) c.serve_patiently-refused.ensures.served
