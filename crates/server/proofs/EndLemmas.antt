-- How serving ends, by how the doors ended.
use Rattle.std.proofs.Common.{◌≡◌, ℕ, ◌≤◌, List, Option, Result, Ok, Err, sym, ◌∙◌, subst}
use Rattle.std.specs.Prelude.{OnOk}
use Rattle.semantics.specs.Texts.{Text}
use Rattle.semantics.specs.Joins.{Join}
use Rattle.pq_io.specs.Doors.{DoorsTold, OpenedAt, OpenedNowhereElse, OpenedFor}
use Rattle.pq_io.specs.Faults.{HasCause, Rose}
use Rattle.pq_io.specs.Links.{LinkTold}
use Rattle.server.specs.Doors.{HoldNone}
use Rattle.server.specs.Receipts.{LinksCameBack}
use Rattle.server.specs.Endings.{EndedAs, end_of}

module _ {K R D : Type 0} (told : K → LinkTold) (tells : R → LinkTold) (tell : D → DoorsTold K R) where
  -- the doors closed or failed, and took the receipts back then
  pub ended_as : {T E : Type 0} (workers : ℕ) (joins : List Join) (address : Text) (old between new : D) (ended : Result T E) →
      OnOk ended (HoldNone (tell between).held) → OpenedFor (tell old).opened (tell between).opened address ended → HasCause (tell old).faults (tell between).faults ended →
      (tell new).held ≡ (tell between).held → (tell new).opened ≡ (tell between).opened → (tell new).faults ≡ (tell between).faults →
      LinksCameBack told tells workers joins (tell old) (tell new) → EndedAs told tells tell workers joins address old new (end_of ended)
  ended_as workers joins address old between new (Ok x) closed opened cause same_held same_opened same_faults back = (
    subst (λ (held : Option (List K)). HoldNone held) (sym same_held) closed,
    subst (λ (all : Option (List (List ℕ))). OpenedAt (tell old).opened all address) (sym same_opened) opened,
    back,
    same_faults ∙ cause.kept,
  )
  ended_as workers joins address old between new (Err e) closed opened cause same_held same_opened same_faults back = (
    subst (λ (all : Option (List (List ℕ))). OpenedNowhereElse (tell old).opened all address) (sym same_opened) opened,
    back,
    subst (λ (n : ℕ). (tell old).faults ≤ n) (sym same_faults) cause.later,
    subst (λ (n : ℕ). Rose (tell old).faults n) (sym same_faults) cause.failed,
  )
