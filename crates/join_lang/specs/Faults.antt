-- Faults of a join's text.
use Rattle.std.specs.Prelude.{◌≡◌, ℕ, Result, Err}
use Rattle.join_lang.specs.declared.fault.ParseFault.{ParseFault}
use Rattle.join_lang.specs.declared.fault.ParseFault.TheVariants.{Syntax, OutOfMemory}

-- the fault is what the definition gives, unless memory ran out
abbrev pub IsFaultOf : {A : Type 0} → Result A ℕ → ParseFault → Type 0
IsFaultOf given (Syntax at) = given ≡ Err at
IsFaultOf given (OutOfMemory _) = Unit {0}
