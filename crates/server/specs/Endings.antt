-- How serving ends.
use Rattle.std.specs.Prelude.{◌≡◌, ℕ, ◌≤◌, List, Result, Ok, Err}
use Rattle.semantics.specs.Texts.{Text}
use Rattle.semantics.specs.Joins.{Join}
use Rattle.pq_io.specs.Doors.{DoorsTold, OpenedAt, OpenedNowhereElse}
use Rattle.pq_io.specs.Faults.{Rose}
use Rattle.pq_io.specs.Links.{LinkTold}
use Rattle.server.specs.declared.serving.Ended.{Ended}
use Rattle.server.specs.declared.serving.Ended.TheVariants.{Closed, Failed, OutOfMemory}
use Rattle.server.specs.Doors.{HoldNone}
use Rattle.server.specs.Receipts.{LinksCameBack}

-- how serving ends, by whether the doors failed
abbrev pub end_of : {T E : Type 0} → Result T E → Ended
end_of (Ok x) = Closed
end_of (Err e) = Failed

module _ {K R D : Type 0} (told : K → LinkTold) (tells : R → LinkTold) (tell : D → DoorsTold K R) where
  -- what each end says of so many workers, the joins that were declared, the address, and the doors before and now: they closed,
  -- having been opened at the address; or they failed, having been opened nowhere else; or no memory was found, and they are as
  -- they were
  abbrev pub EndedAs : ℕ → List Join → Text → D → D → Ended → Type 0
  EndedAs workers joins address old new Closed =
      HoldNone (tell new).held × OpenedAt (tell old).opened (tell new).opened address × LinksCameBack told tells workers joins (tell old) (tell new)
      × ((tell new).faults ≡ (tell old).faults)
  EndedAs workers joins address old new Failed =
      OpenedNowhereElse (tell old).opened (tell new).opened address × LinksCameBack told tells workers joins (tell old) (tell new)
      × ((tell old).faults ≤ (tell new).faults) × Rose (tell old).faults (tell new).faults
  EndedAs workers joins address old new (OutOfMemory memory) = new ≡ old
