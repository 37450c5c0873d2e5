-- What the status of `serve` says.
use Rattle.std.specs.Prelude.{◌≡◌, ◌⊎◌, ℕ, [], List, Option, Some, None, Ok, true, is_err}
use Rattle.semantics.specs.Texts.{Text}
use Rattle.semantics.specs.Joins.{Join}
use Rattle.semantics.specs.Histories.{History}
use Rattle.protocol.specs.JoinsFile.{file_history, check_text}
use Rattle.pq_io.specs.Doors.{DoorsTold, OpenedAt, OpenedNowhereElse}
use Rattle.pq_io.specs.Links.{LinkTold}
use Rattle.pq_io.specs.Streams.{Took, TookProperPrefix}
use Rattle.pq_io.specs.Shelf.{File}
use Rattle.server.specs.Doors.{HoldNone}
use Rattle.server.specs.Receipts.{LinksCameBack}
use Rattle.server.specs.Staffs.{declared}
use Rattle.pequod_commands.specs.Statuses.{IsTaken}

-- the joins are those that the bytes of a joins file declare, in order
pub record AreOfFile (bytes : Text) (joins : List Join) : Type 0 where
  pub history : History
  pub is : file_history bytes ≡ Ok history
  pub same : declared joins ≡ history

-- the joins that are served: none where no joins file is named, and otherwise those that its bytes declare, so no line of it is refused
abbrev pub AreServed : Option (List File) → Option Text → List Join → Type 0
AreServed held None joins = joins ≡ []
AreServed held (Some name) joins = (bytes : Text) × IsTaken held name bytes × AreOfFile bytes joins

-- the statuses with which it may end for its joins file
abbrev pub IsJoinsEnd : ℕ → Type 0
IsJoinsEnd status = (status ≡ 5) ⊎ ((status ≡ 6) ⊎ ((status ≡ 7) ⊎ (status ≡ 9)))

-- the bytes are those of the joins file that is named, a line of which is refused
pub record IsRefusedFile (held : Option (List File)) (joins : Option Text) (name bytes : Text) : Type 0 where
  pub named : joins ≡ Some name
  pub taken : IsTaken held name bytes
  pub refused : is_err (file_history bytes) ≡ true

-- how `serve` ends with no link: the row of the joins file's first refused line was written, or a part of it that is not the whole; the shelf gave no file; or no memory was found
pub data Unserved : Type 0 where
  refused : Text → Text → Unserved
  cut : Text → Text → Unserved
  no_file : Unserved
  no_memory : Unserved

-- what each of these ends says of the status and of what the sink took
abbrev pub UnservedAs : Unserved → ℕ → Option (List File) → Option Text → Option Text → Option Text → Type 0
UnservedAs (refused name bytes) status held joins taken taken_now = (status ≡ 7) × IsRefusedFile held joins name bytes × Took taken taken_now (check_text bytes)
UnservedAs (cut name bytes) status held joins taken taken_now = (status ≡ 5) × IsRefusedFile held joins name bytes × TookProperPrefix taken taken_now (check_text bytes)
UnservedAs no_file status held joins taken taken_now = (status ≡ 9) × Took taken taken_now []
UnservedAs no_memory status held joins taken taken_now = (status ≡ 6) × Took taken taken_now []

-- it ended one of these ways
pub record EndsUnserved (status : ℕ) (held : Option (List File)) (joins taken taken_now : Option Text) : Type 0 where
  pub ending : Unserved
  pub ended : UnservedAs ending status held joins taken taken_now

-- how `serve` ends: the doors, which were opened at the address and nowhere else, closed, or they failed, after these joins were declared; or it ended with no link
pub data Serving : Type 0 where
  closed : List Join → Serving
  failed : List Join → Serving
  unserved : Unserved → Serving

module _ {K R : Type 0} (told : K → LinkTold) (tells : R → LinkTold) where
  -- what each end says of the status, of the joins file, of what the sink took, and of what the doors told and tell: of the links, by how many workers they were served, and of the addresses
  abbrev pub ServedAs : Serving → ℕ → Text → ℕ → Option (List File) → Option Text → Option Text → Option Text → DoorsTold K R → DoorsTold K R → Type 0
  ServedAs (closed served) status address workers held joins taken taken_now doors doors_now =
      (status ≡ 0) × AreServed held joins served × Took taken taken_now [] × HoldNone doors_now.held × OpenedAt doors.opened doors_now.opened address
      × LinksCameBack told tells workers served doors doors_now
  ServedAs (failed served) status address workers held joins taken taken_now doors doors_now =
      (status ≡ 8) × AreServed held joins served × Took taken taken_now [] × OpenedNowhereElse doors.opened doors_now.opened address
      × LinksCameBack told tells workers served doors doors_now
  ServedAs (unserved ending) status address workers held joins taken taken_now doors doors_now = UnservedAs ending status held joins taken taken_now

  -- `serve` at an address by so many workers, with or without a joins file, ended one of these ways
  pub record ServesTo (status : ℕ) (address : Text) (workers : ℕ) (held : Option (List File)) (joins taken taken_now : Option Text) (doors doors_now : DoorsTold K R) : Type 0 where
    pub ending : Serving
    pub served : ServedAs ending status address workers held joins taken taken_now doors doors_now
