use Rattle.std.proofs.Common.{◌∙◌, Some, refl, sym, subst, arith}
use Rattle.std.proofs.lemmas.Bool.{false≢true}
use Rattle.pq_io.specs.Links.{link_told}
use Rattle.server.specs.Receipts.{WasServed}
use Rattle.server.proofs.ReceiptLemmas.{untouched, was_served}
use Rattle.server.proofs.working.serve_patiently.Goals as goal

pub loop-init : goal.loop-init
loop-init g c = (refl, refl, λ some. absurd (omega (arith, some)))

-- a try that found no memory has left all as it was
pub loop-preserved : goal.loop-preserved
loop-preserved g c =
    let tried = c.serve_link-end.ensures in (
      tried.same_service c.in-OutOfMemory.is ∙ c.loop.invariant.0,
      tried.same_link c.in-OutOfMemory.is ∙ c.loop.invariant.1,
      λ some. refl,
    )

-- a try found memory, and no refusal is told
pub returns-in_default-clause-served : goal.returns-in_default-clause-served
returns-in_default-clause-served g c =
    let told = link_told g.K.Link.left g.K.Link.taken g.K.Link.read_faults g.K.Link.write_faults in
    let tried = c.serve_link-end.ensures in
    let after = g.S.Service.view c.serve_link-end.new.service in
    subst (λ s. WasServed (g.S.Service.number s) (g.S.Service.view s) after (told c.args.link.now) (told c.serve_link-end.new.link)) c.loop.invariant.0
    (subst (λ k. WasServed (g.S.Service.number c.loop.service) (g.S.Service.view c.loop.service) after (told k) (told c.serve_link-end.new.link)) c.loop.invariant.1
    (was_served c.serve_link-end.result (g.S.Service.number c.loop.service) (g.S.Service.view c.loop.service) after (told c.loop.link) (told c.serve_link-end.new.link)
    tried.served tried.reads_later tried.reads_kept tried.read_fault tried.writes_later tried.writes_kept tried.write_fault
    (λ tells. absurd (false≢true tells), λ is. absurd (c.in_default.not-OutOfMemory tt is))))

-- no try found memory, and nothing is left to go
pub returns-then-not-make_room-clause-served : goal.returns-then-not-make_room-clause-served
returns-then-not-make_room-clause-served g c =
    let told = link_told g.K.Link.left g.K.Link.taken g.K.Link.read_faults g.K.Link.write_faults in
    let client = g.S.Service.number c.args.service.now in
    let view = g.S.Service.view c.args.service.now in
    let tried = c.serve_link-end.ensures in
    let same_service = tried.same_service c.in-OutOfMemory.is ∙ c.loop.invariant.0 in
    let same_link = tried.same_link c.in-OutOfMemory.is ∙ c.loop.invariant.1 in
    subst (λ s. WasServed client view (g.S.Service.view s) (told c.args.link.now) (record (told c.serve_link-end.new.link) { refused = Some tt })) (sym same_service)
    (subst (λ k. WasServed client view view (told c.args.link.now) (record (told k) { refused = Some tt })) (sym same_link) (untouched client view (told c.args.link.now) (Some tt) refl))

-- no try of all found memory
pub returns-clause-served : goal.returns-clause-served
returns-clause-served g c =
    let told = link_told g.K.Link.left g.K.Link.taken g.K.Link.read_faults g.K.Link.write_faults in
    let client = g.S.Service.number c.args.service.now in
    let view = g.S.Service.view c.args.service.now in
    let some = c.loop.invariant.2 (omega (arith, c.loop-test.false)) in
    subst (λ s. WasServed client view (g.S.Service.view s) (told c.args.link.now) (record (told c.loop.link) { refused = c.loop.refused })) (sym c.loop.invariant.0)
    (subst (λ k. WasServed client view view (told c.args.link.now) (record (told k) { refused = c.loop.refused })) (sym c.loop.invariant.1)
    (untouched client view (told c.args.link.now) c.loop.refused some))
