use Rattle.std.proofs.Common.{refl}
use Rattle.cell_slots.proofs.fitting.lowered.Goals as goal

pub returns-in-None : goal.returns-in-None
returns-in-None c = λ key fit. refl

pub returns-in-Some : goal.returns-in-Some
returns-in-Some c = c.in-Some.ensures
