-- What a replica does with writes.
use Rattle.std.specs.Prelude.{◌≡◌, ◌≢◌, ℕ, zero, suc, List, [], ◌∷◌, ◌++◌, map, Option, None, ⊤}
use Rattle.semantics.specs.Histories.{Write, History}
use Rattle.semantics.specs.Verdicts.{Cause, verdict}
use Rattle.follow_node.specs.declared.replica.Taken.{Taken}
use Rattle.follow_node.specs.declared.replica.Taken.TheVariants.{Done, Refused, OutOfMemory}

-- writes as entries; a verdict asks for no client
abbrev pub entered : List Write → History
entered ws = map (λ w. record { client = 0; write = w }) ws

-- the cause against a write behind others
abbrev pub cause_after : List Write → Write → Option Cause
cause_after ws w = verdict w (entered ws)

-- a write behind others is taken where no cause is against it, and refused where one is; else they stay
abbrev pub IsTaken : List Write → Write → Taken → List Write → Type 0
IsTaken before w Done after = (cause_after before w ≡ None) × (after ≡ before ++ w ∷ [])
IsTaken before w Refused after = (cause_after before w ≢ None) × (after ≡ before)
IsTaken before w (OutOfMemory _) after = after ≡ before

-- why no more are taken
abbrev pub Stops : Taken → Option Cause → Type 0
Stops Done cause = ⊥
Stops Refused cause = cause ≢ None
Stops (OutOfMemory _) cause = ⊤

-- of writes behind others, the first n were taken in order, each with no cause against it; not all of them only where the next was refused, or found no memory
abbrev pub TakesSome : List Write → List Write → Taken → ℕ → List Write → Type 0
TakesSome before [] result n after = (result ≡ Done) × (n ≡ 0) × (after ≡ before)
TakesSome before (w ∷ ws) result zero after = (after ≡ before) × Stops result (cause_after before w)
TakesSome before (w ∷ ws) result (suc n) after = (cause_after before w ≡ None) × TakesSome (before ++ w ∷ []) ws result n after
