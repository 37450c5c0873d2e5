-- The fault of a line, from the fault of the key, value, range or join in it.
use Rattle.join_lang.specs.declared.fault.ParseFault.{ParseFault}
use Rattle.join_lang.specs.declared.fault.ParseFault.TheVariants as joins
use Rattle.key_space.specs.declared.key.KeyFault.{KeyFault}
use Rattle.key_space.specs.declared.key.KeyFault.TheVariants as keys
use Rattle.key_space.specs.declared.value.ValueFault.{ValueFault}
use Rattle.key_space.specs.declared.value.ValueFault.TheVariants as values
use Rattle.key_space.specs.declared.range.RangeFault.{RangeFault}
use Rattle.key_space.specs.declared.range.RangeFault.TheVariants as ranges
use Rattle.request_codec.specs.declared.request.LineFault.{LineFault}
use Rattle.request_codec.specs.declared.request.LineFault.TheVariants.{Key, Value, Range, Syntax, OutOfMemory}

-- the key is none, or found no memory
abbrev pub fault_of_key : KeyFault → LineFault
fault_of_key keys.BadKey = Key
fault_of_key (keys.OutOfMemory memory) = OutOfMemory memory

-- the value is none, or found no memory
abbrev pub fault_of_value : ValueFault → LineFault
fault_of_value values.BadValue = Value
fault_of_value (values.OutOfMemory memory) = OutOfMemory memory

-- the range is none, or found no memory
abbrev pub fault_of_range : RangeFault → LineFault
fault_of_range ranges.BadRange = Range
fault_of_range (ranges.OutOfMemory memory) = OutOfMemory memory

-- the join is none from a byte on, or found no memory
abbrev pub fault_of_join : ParseFault → LineFault
fault_of_join (joins.Syntax at) = Syntax at
fault_of_join (joins.OutOfMemory memory) = OutOfMemory memory
