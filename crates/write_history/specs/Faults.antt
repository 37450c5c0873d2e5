-- Why a write did not enter.
use Rattle.std.specs.Prelude.{◌≡◌, length, Some}
use Rattle.semantics.specs.Histories.{Write}
use Rattle.semantics.specs.Verdicts.{verdict}
use Rattle.join_types.specs.Causes.{plain_cause}
use Rattle.write_history.specs.Passes.{PassView, own}
use Rattle.write_history.specs.declared.fault.AppendFault.{AppendFault}
use Rattle.write_history.specs.declared.fault.AppendFault.TheVariants.{Refused, OutOfMemory}

-- a refusal carries the length of the view and the verdict of the write after it; where no memory was found, the pass is as it was
abbrev pub SaysWhy : PassView → PassView → Write → AppendFault → Type 0
SaysWhy old new write (Refused position cause) = (position ≡ length new.view) × (verdict write new.view ≡ Some (plain_cause cause)) × (own new ≡ own old)
SaysWhy old new write (OutOfMemory _) = new ≡ old
