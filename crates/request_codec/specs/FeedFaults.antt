-- Why a line of a feed was not read.
use Rattle.std.specs.Prelude.{◌≡◌, Option, None}
use Rattle.request_codec.specs.declared.batch.FeedFault.{FeedFault}
use Rattle.request_codec.specs.declared.batch.FeedFault.TheVariants.{Bad, OutOfMemory}

-- there is nothing of the kind, unless memory ran out
abbrev pub IsNone : {A : Type 0} → Option A → FeedFault → Type 0
IsNone found Bad = found ≡ None
IsNone found (OutOfMemory memory) = Unit {0}
