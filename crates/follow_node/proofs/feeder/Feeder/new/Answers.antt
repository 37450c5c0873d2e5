-- It stands where nothing was given.
use Rattle.std.proofs.Common.{refl}
use Rattle.follow_node.specs.Standing.{between}
use Rattle.follow_node.proofs.FedLemmas.{feeds_none}
use Rattle.follow_node.proofs.feeder.Feeder.new.Goals as goal

pub returns-clause-stands : goal.returns-clause-stands
returns-clause-stands c = between refl refl feeds_none
