-- Why a join may not be added to a set, as the cause that the definitions speak of.
use Rattle.std.specs.Prelude.{◌≡◌, Option, Some, None}
use Rattle.semantics.specs.Verdicts as plain
use Rattle.join_set.specs.declared.fault.AddFault.{AddFault}
use Rattle.join_set.specs.declared.fault.AddFault.TheVariants.{Slots, Sources, Clash, Cycle, Deep, Many, OutOfMemory}
use Rattle.join_set.specs.declared.fault.RemoveFault.{RemoveFault}
use Rattle.join_set.specs.declared.fault.RemoveFault.TheVariants.{NoJoin, OutOfMemory as NoRoom}

-- the fault is the cause; that no memory was found says nothing of it
abbrev pub IsFaultOf : AddFault → Option plain.Cause → Type 0
IsFaultOf Slots cause = cause ≡ Some plain.slots
IsFaultOf Sources cause = cause ≡ Some plain.sources
IsFaultOf (Clash position) cause = cause ≡ Some (plain.clash position)
IsFaultOf (Cycle positions) cause = cause ≡ Some (plain.cycle positions)
IsFaultOf Deep cause = cause ≡ Some plain.deep
IsFaultOf Many cause = cause ≡ Some plain.many
IsFaultOf (OutOfMemory _) cause = Unit {0}

-- the cause that the fault is; none where no memory was found
abbrev pub plain_fault : AddFault → Option plain.Cause
plain_fault Slots = Some plain.slots
plain_fault Sources = Some plain.sources
plain_fault (Clash position) = Some (plain.clash position)
plain_fault (Cycle positions) = Some (plain.cycle positions)
plain_fault Deep = Some plain.deep
plain_fault Many = Some plain.many
plain_fault (OutOfMemory _) = None

-- the fault is the cause against a drop; that no memory was found says nothing of it
abbrev pub IsRemoveFaultOf : RemoveFault → Option plain.Cause → Type 0
IsRemoveFaultOf NoJoin cause = cause ≡ Some plain.nojoin
IsRemoveFaultOf (NoRoom _) cause = Unit {0}
