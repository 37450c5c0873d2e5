use Rattle.std.proofs.Common.{codes, sym, subst}
use Rattle.cell_table.specs.Stores.{AreOfTable, Store}
use Rattle.cell_table.proofs.SlotLemmas.{free_keep_none}
use Rattle.range_trials.proofs.cells.make_table.Goals as goal

pub returns : goal.returns
returns c = subst (λ (t : Store). AreOfTable t.holdings.slots 1 (codes "t")) (sym c.in_ok-new.ensures) (λ id kept h. absurd (free_keep_none 3 id 1 kept h))
