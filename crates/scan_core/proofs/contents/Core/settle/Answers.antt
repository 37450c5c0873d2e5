use Rattle.std.proofs.Common.{OnOk, subst}
use Rattle.scan_core.specs.Cells.{IsSettled}
use Rattle.scan_core.specs.Rights.{Contents, contents_of}
use Rattle.scan_core.proofs.SettlingLemmas.{settled_as}
use Rattle.scan_core.proofs.contents.Core.settle.Goals as goal

pub returns-clause-settled : goal.returns-clause-settled
returns-clause-settled c =
    let base = c.self.inside.base in
    subst (λ (v : Contents). OnOk c.settle.result (IsSettled v.cells (contents_of base c.settle.new.self).cells)) c.self.view_is
    (settled_as c.settle.result base c.self.inside.cells c.settle.new.self c.settle.ensures.settled)
