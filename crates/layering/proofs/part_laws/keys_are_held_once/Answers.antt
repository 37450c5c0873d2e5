use Rattle.layering.proofs.PartLemmas.{keys_are_held_once}
use Rattle.layering.proofs.part_laws.keys_are_held_once.Goals as goal

pub returns : goal.returns
returns c = keys_are_held_once
