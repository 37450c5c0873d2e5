-- Laws on what changes in several ranges, and on passes that read.
use Rattle.std.specs.Prelude.{◌≡◌, ℕ, [], ◌∷◌}
use Rattle.semantics.specs.Texts.{Range}
use Rattle.semantics.specs.Histories.{History}
use Rattle.growing_history.specs.Changes.{changed_keys}
use Rattle.write_history.specs.Passes.{PassView}
use Rattle.base_shards.specs.Reading.{ReadsOn}
use Rattle.base_shards.specs.Changed.{changed_in_all}

-- of one range alone they are its changed keys
abbrev pub OneRangeAlone : Type 0
OneRangeAlone = (q p : ℕ) (range : Range) (h : History) → changed_in_all q p (range ∷ []) h ≡ changed_keys q p range h

-- a pass that reads on, and reads on again, has read on
abbrev pub ReadingGoesOn : Type 0
ReadingGoesOn = (first next last : PassView) → ReadsOn first next → ReadsOn next last → ReadsOn first last
