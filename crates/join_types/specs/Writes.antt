-- Writes as the data that the definitions speak of.
use Rattle.semantics.specs.Histories as plain
use Rattle.join_types.specs.declared.write.Write.{Write}
use Rattle.join_types.specs.declared.write.Write.TheVariants.{Put, Remove, Declare, Drop}

abbrev pub plain_write : Write → plain.Write
plain_write (Put key value) = plain.put key value
plain_write (Remove key) = plain.remove key
plain_write (Declare join) = plain.declare join
plain_write (Drop position) = plain.drop_join position
