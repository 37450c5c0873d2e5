-- What a read is answered after a history.
use Rattle.std.specs.Prelude.{ℕ, length, Option, Some, None}
use Rattle.semantics.specs.Texts.{Text, Range, Table, value_at, pairs_within}
use Rattle.semantics.specs.Histories.{History}
use Rattle.semantics.specs.States.{state}

pub data Read : Type 0 where
  get : Text → Read
  scan : Range → Read

-- an answer begins with its position, the length of the history that it speaks of
pub data Answer : Type 0 where
  found : ℕ → Text → Answer
  absent : ℕ → Answer
  pairs : ℕ → Table → Answer

abbrev found_or_absent : ℕ → Option Text → Answer
found_or_absent position None = absent position
found_or_absent position (Some value) = found position value

-- `Answer`: the state after the history at the key, or its pairs in the range
unfoldable pub answer : Read → History → Answer
answer (get key) h = found_or_absent (length h) (value_at key (state h))
answer (scan range) h = pairs (length h) (pairs_within range (state h))
