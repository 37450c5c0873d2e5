use Rattle.kept_ranges.proofs.NoteLemmas.{noted_in_order}
use Rattle.kept_ranges.proofs.sound_laws.noted_in_order.Goals as goal

pub returns : goal.returns
returns c = noted_in_order
