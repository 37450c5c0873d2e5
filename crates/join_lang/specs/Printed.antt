-- The parts of a canonical text.
use Rattle.std.specs.Prelude.{List, [], ◌∷◌, ◌++◌, codes}
use Rattle.semantics.specs.Texts.{Text, bar}
use Rattle.semantics.specs.Patterns.{Pattern}
use Rattle.semantics.specs.Joins.{Source, Kind, push, pull}
use Rattle.protocol.specs.JoinText.{operator_word, segment_print, pattern_print}

-- the word of the kind, behind a space
abbrev pub kind_print : Kind → Text
kind_print push = []
kind_print pull = 32 ∷ codes "pull"

-- segments, each behind `|`
abbrev pub segments_print : List Text → Pattern → Text
segments_print names [] = []
segments_print names (s ∷ ss) = bar ∷ (segment_print names s ++ segments_print names ss)

-- sources, each behind a space
abbrev pub sources_print : List Text → List Source → Text
sources_print names [] = []
sources_print names (s ∷ ss) = 32 ∷ (operator_word s.operator ++ 32 ∷ (pattern_print names s.pattern ++ sources_print names ss))
