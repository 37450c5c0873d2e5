use Rattle.std.proofs.Common.{rules}
use Rattle.cell_table.proofs.slots.Slots.lowest_free.Goals as goal

pub overflow_cast-self-inside : goal.overflow_cast-self-inside
overflow_cast-self-inside c = let few = c.loop-self.invariant.1.few in let upto = c.loop-self.invariant.1.upto in search (rules, few, upto)
