-- Causes as the data that the definitions speak of.
use Rattle.semantics.specs.Verdicts as plain
use Rattle.join_types.specs.declared.cause.Cause.{Cause}
use Rattle.join_types.specs.declared.cause.Cause.TheVariants.{Computed, Full, NoJoin, Slots, Sources, Clash, Cycle, Deep, Many}

abbrev pub plain_cause : Cause → plain.Cause
plain_cause (Computed position) = plain.computed position
plain_cause Full = plain.full
plain_cause NoJoin = plain.nojoin
plain_cause Slots = plain.slots
plain_cause Sources = plain.sources
plain_cause (Clash position) = plain.clash position
plain_cause (Cycle positions) = plain.cycle positions
plain_cause Deep = plain.deep
plain_cause Many = plain.many
