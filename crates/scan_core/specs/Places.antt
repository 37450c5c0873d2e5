-- What advancing and mending a kept range leave of its place.
use Rattle.std.specs.Prelude.{◌≡◌}
use Rattle.kept_ranges.specs.Sound.{KeptRange}

-- it is of the same join and the same range; its rank may be another
pub record HasSamePlace (old new : KeptRange) : Type 0 where
  pub join : new.join ≡ old.join
  pub range : new.range ≡ old.range
