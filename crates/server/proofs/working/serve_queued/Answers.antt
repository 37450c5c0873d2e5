use Rattle.std.proofs.Common.{◌++◌, ◌∷◌, [], refl, sym, ap, ◌∙◌, subst, rules}
use Rattle.pq_io.specs.Links.{link_told}
use Rattle.server.specs.Receipts.{HasServed}
use Rattle.server.proofs.ReceiptLemmas.{served_none, served_more}
use Rattle.server.proofs.working.serve_queued.Goals as goal

pub loop-init : goal.loop-init
loop-init g c = record {
  next = search rules;
  finite = search rules;
  served = served_none (link_told g.K.Link.left g.K.Link.taken g.K.Link.read_faults g.K.Link.write_faults) g.K.Link.tells _ _ _ _;
  same_number = refl;
  queue = c.requires.queue;
  parts = refl;
}

-- a link more
pub loop-preserved : goal.loop-preserved
loop-preserved g c =
    let so_far = c.loop.invariant in
    let taken = c.in-Ok.ensures in
    record {
      next = search rules;
      finite = search rules;
      served = served_more (link_told g.K.Link.left g.K.Link.taken g.K.Link.read_faults g.K.Link.write_faults) g.K.Link.tells _ _ _ _ _ _ _ _ _ _ _ c.in-Ok.link c.serve_one.result
          so_far.same_number so_far.served taken c.serve_one.ensures.served (c.push_reserved.ensures.items ∙ ap (λ l. l ++ c.serve_one.result ∷ []) c.reserve_one.ensures.items);
      same_number = c.serve_one.ensures.same_number ∙ so_far.same_number;
      queue = ap (λ t. t.queue) taken ∙ so_far.queue;
      parts = ap (λ t. t.parts) taken ∙ so_far.parts;
    }

-- the queue is closed and empty
pub returns-in-Err-clause-served : goal.returns-in-Err-clause-served
returns-in-Err-clause-served g c =
    let served = HasServed (link_told g.K.Link.left g.K.Link.taken g.K.Link.read_faults g.K.Link.write_faults) g.K.Link.tells
    (g.S.Service.number c.args.service.now) (g.S.Service.view c.args.service.now) (g.S.Service.view c.loop.service) c.args.tally.now in
    subst (λ t. served t c.args.receipts.now.items c.reserve_one.new.receipts.items) (sym c.in-Err.ensures.0)
    (subst (λ l. served c.loop.tally c.args.receipts.now.items l) (sym c.reserve_one.ensures.items) c.loop.invariant.served)
