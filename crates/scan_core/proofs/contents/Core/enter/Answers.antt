use Rattle.scan_core.proofs.LendingLemmas.{right_entered}
use Rattle.scan_core.proofs.contents.Core.enter.Goals as goal

pub invariant_of-self : goal.invariant_of-self
invariant_of-self c = right_entered c.enter.result c.self.inside.base c.enter.new.self c.args.entry c.self.inside.cells.holdings.slots c.enter.ensures.ok c.enter.ensures.err c.self.invariant
