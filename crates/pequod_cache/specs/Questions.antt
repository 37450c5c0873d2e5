-- What is asked of a range about an earlier position.
use Rattle.std.specs.Prelude.{ℕ}
use Rattle.semantics.specs.Texts.{Range}
use Rattle.protocol.specs.Requests.{Earlier, scan_at, changes_since}
use Rattle.pequod_cache.specs.declared.earlier.Question.{Question}
use Rattle.pequod_cache.specs.declared.earlier.Question.TheVariants.{Pairs, Changes}

-- the question of a range about a position
abbrev pub asked : Question → Range → ℕ → Earlier
asked Pairs range at = scan_at range at
asked Changes range at = changes_since range at
