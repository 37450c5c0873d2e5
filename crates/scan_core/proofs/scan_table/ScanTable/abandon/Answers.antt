use Rattle.std.proofs.Common.{None, subst}
use Rattle.scan_core.specs.Progress.{Puts}
use Rattle.scan_core.specs.Stored.{table_of}
use Rattle.scan_core.proofs.TableLemmas.{puts, lie_after}
use Rattle.scan_core.proofs.scan_table.ScanTable.abandon.Goals as goal

pub invariant_of-self : goal.invariant_of-self
invariant_of-self c = lie_after c.args.number None c.self.inside.scans.entries c.remove.new.self.entries c.remove.ensures.updates.0 tt c.self.invariant

pub returns : goal.returns
returns c =
    subst (λ t. Puts c.args.number None t (table_of c.remove.new.self.entries)) c.self.view_is
    (puts c.args.number None c.self.inside.scans.entries c.remove.new.self.entries c.remove.ensures.updates.0)
