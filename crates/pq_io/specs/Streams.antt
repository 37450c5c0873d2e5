-- What reads give and writes take, where that is told.
use Rattle.std.specs.Prelude.{◌≡◌, ℕ, ◌<◌, List, length, take, Result, MatchResult}
use Rattle.std.specs.declared.option.Option.{Option}
use Rattle.std.specs.Io.KnownBytes.{append_known, prepend_known}

-- where it is told, what was left is these bytes and then what is left now; what is not told stays untold
abbrev pub Gave : Option (List ℕ) → Option (List ℕ) → List ℕ → Type 0
Gave old new bytes = old ≡ prepend_known bytes new

-- where it is told, what is taken now is what was taken and then these bytes; what is not told stays untold
abbrev pub Took : Option (List ℕ) → Option (List ℕ) → List ℕ → Type 0
Took old new bytes = new ≡ append_known old bytes

-- the first n of the bytes were taken, and at least one was not
abbrev pub TookProperPrefix : Option (List ℕ) → Option (List ℕ) → List ℕ → Type 0
TookProperPrefix old new bytes = (n : ℕ) × (n < length bytes) × Took old new (take n bytes)

-- `read(into)` gave the n bytes that came next at `Ok(n)`, and nothing at an error
abbrev pub GivesNext : {E : Type 0} → Option (List ℕ) → Option (List ℕ) → Result ℕ E → List ℕ → Type 0
GivesNext old new result into = MatchResult result (λ n. Gave old new (take n into)) (λ _. new ≡ old)

-- `write(bytes)` took the first n bytes at `Ok(n)`, and nothing at an error
abbrev pub TakesFirst : {E : Type 0} → Option (List ℕ) → Option (List ℕ) → Result ℕ E → List ℕ → Type 0
TakesFirst old new result bytes = MatchResult result (λ n. Took old new (take n bytes)) (λ _. new ≡ old)

-- what contracts see of a source over a reader or a sink over a writer: the one that it stands over, and how many calls have failed
pub record Adapted (S : Type 0) : Type 0 where
  pub inner : S
  pub faults : ℕ
