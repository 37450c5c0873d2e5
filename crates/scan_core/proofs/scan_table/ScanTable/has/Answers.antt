use Rattle.std.proofs.Common.{◌∙◌}
use Rattle.scan_core.proofs.TableLemmas.{has_found}
use Rattle.scan_core.proofs.scan_table.ScanTable.has.Goals as goal

pub returns : goal.returns
returns c = c.contains_key.ensures ∙ has_found c.args.number c.self.inside.scans.entries c.args.self.now c.self.view_is
