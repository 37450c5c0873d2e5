-- Which answers a pull gives at a line.
use Rattle.std.specs.Prelude.{◌≡◌, ℕ, ◌⊎◌, List, Option, Result, Ok, Err, ⊤}
use Rattle.semantics.specs.Histories.{Write}
use Rattle.follow_node.specs.Feeders.{FeederView}
use Rattle.follow_node.specs.Pulls.{Heed, takes, at_memory, at_gone, at_ahead, is_bad, heed_line, TakesLine, TakesRest}
use Rattle.follow_node.specs.declared.replica.Taken.TheVariants as taken
use Rattle.follow_node.specs.declared.pulled.Pulled.{Pulled}
use Rattle.follow_node.specs.declared.pulled.Pulled.TheVariants.{Level, HomeMemory, Gone, Ahead, Bad, Ended, Over, ReadFault, WriteFault, OutOfMemory}

-- memory ran out
abbrev pub IsOutOfMemory : Result ℕ Pulled → Type 0
IsOutOfMemory (Ok goal) = ⊥
IsOutOfMemory (Err Level) = ⊥
IsOutOfMemory (Err HomeMemory) = ⊥
IsOutOfMemory (Err (Gone n)) = ⊥
IsOutOfMemory (Err (Ahead n)) = ⊥
IsOutOfMemory (Err Bad) = ⊥
IsOutOfMemory (Err Ended) = ⊥
IsOutOfMemory (Err Over) = ⊥
IsOutOfMemory (Err ReadFault) = ⊥
IsOutOfMemory (Err WriteFault) = ⊥
IsOutOfMemory (Err (OutOfMemory memory)) = ⊤

-- entries that may be taken are taken, or bad where one was refused
abbrev pub IsTakenOr : Option ℕ → FeederView → List Write → List Write → Result ℕ Pulled → Type 0
IsTakenOr first f ws ws' r = ((goal : ℕ) × (r ≡ Ok goal)) ⊎ ((r ≡ Err Bad) × (n : ℕ) × TakesRest first f ws taken.Refused n ws')

-- the answer at a line, by what the line is; memory may run out at any
abbrev pub IsAnswered : Option ℕ → FeederView → List Write → List Write → Result ℕ Pulled → Heed → Type 0
IsAnswered first f ws ws' r (takes b) = IsTakenOr first f ws ws' r ⊎ IsOutOfMemory r
IsAnswered first f ws ws' r at_memory = (r ≡ Err HomeMemory) ⊎ IsOutOfMemory r
IsAnswered first f ws ws' r (at_gone n) = (r ≡ Err (Gone n)) ⊎ IsOutOfMemory r
IsAnswered first f ws ws' r (at_ahead n) = (r ≡ Err (Ahead n)) ⊎ IsOutOfMemory r
IsAnswered first f ws ws' r is_bad = (r ≡ Err Bad) ⊎ IsOutOfMemory r

-- each line has its answer
abbrev pub AnswersEach : Type 0
AnswersEach = (first : Option ℕ) (f f' : FeederView) (ws ws' : List Write) (r : Result ℕ Pulled) → TakesLine first f f' ws ws' r → IsAnswered first f ws ws' r (heed_line first f)
