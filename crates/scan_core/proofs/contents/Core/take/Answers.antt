use Rattle.std.proofs.Common.{IfOk, subst}
use Rattle.std.proofs.lemmas.Result.{IfOk-weaker}
use Rattle.scan_core.specs.Cells.{IsTaken}
use Rattle.scan_core.specs.Rights.{Contents, contents_of}
use Rattle.scan_core.proofs.LendingLemmas.{right_taken, taken_right}
use Rattle.scan_core.proofs.contents.Core.take.Goals as goal

pub invariant_of-self : goal.invariant_of-self
invariant_of-self c = right_taken c.take.result c.self.inside.base c.args.id c.self.inside.cells c.take.new.self c.take.ensures.taken c.take.ensures.err c.self.invariant

pub returns-clause-taken : goal.returns-clause-taken
returns-clause-taken c =
    subst (λ (v : Contents). IfOk c.take.result (IsTaken v.history c.args.id v.cells (contents_of c.self.inside.base c.take.new.self).cells)) c.self.view_is
    (IfOk-weaker c.take.result _ _ (λ found taken. taken_right c.self.inside.base c.args.id c.self.inside.cells c.take.new.self found c.self.invariant taken) c.take.ensures.taken)
