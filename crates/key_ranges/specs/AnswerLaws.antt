-- Laws on the answers to reads.
use Rattle.std.specs.Prelude.{◌≡◌, [], ◌∷◌, length}
use Rattle.semantics.specs.Texts.{Text, Table, pairs_within}
use Rattle.semantics.specs.Histories.{History}
use Rattle.semantics.specs.States.{state}
use Rattle.semantics.specs.Answers.{get, found, absent, answer}
use Rattle.key_ranges.specs.Ranges.{just}

-- a pair in the range of just a key is what stands at the key
abbrev pub FirstOfJustIsFound : Type 0
FirstOfJustIsFound = (h : History) (key : Text) (pair : Text × Text) (rest : Table) → pairs_within (just key) (state h) ≡ pair ∷ rest → answer (get key) h ≡ found (length h) pair.1

-- with no pair in it nothing stands there
abbrev pub NoneOfJustIsAbsent : Type 0
NoneOfJustIsAbsent = (h : History) (key : Text) → pairs_within (just key) (state h) ≡ [] → answer (get key) h ≡ absent (length h)
