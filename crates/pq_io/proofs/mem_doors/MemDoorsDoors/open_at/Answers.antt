use Rattle.std.proofs.Common.{ap, ◌∙◌, subst}
use Rattle.pq_io.specs.Doors.{OpenedAt, opened_of}
use Rattle.pq_io.proofs.mem_doors.MemDoorsDoors.open_at.Goals as goal

-- what was kept before is what they told
pub returns-clause-opened : goal.returns-clause-opened
returns-clause-opened g c =
    subst (λ opened. OpenedAt opened (opened_of c.keep_address.result) c.args.address.now) (ap opened_of c.take-opened.ensures.value ∙ ap (λ d. d.opened) c.self.view_is) c.keep_address.ensures
