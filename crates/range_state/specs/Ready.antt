-- Kept ranges that stay the same in part, and that can be read.
use Rattle.std.specs.Prelude.{◌≡◌, ℕ, Bool, false, Option, Some, None, ◌⊎◌}
use Rattle.std.specs.List.{list_any}
use Rattle.semantics.specs.Texts.{Range}
use Rattle.lazy_log.specs.Pending.{meets_output}
use Rattle.kept_ranges.specs.Sound.{KeptRange}

-- two kept ranges are of the same join, with the same rank, and of the same range of its output
pub record HasSameSubject (old new : KeptRange) : Type 0 where
  pub join : new.join ≡ old.join
  pub rank : new.rank ≡ old.rank
  pub range : new.range ≡ old.range

-- whether pending slots meet a range
abbrev pub pending_meets : KeptRange → Range → Bool
pending_meets s range = list_any (meets_output s.join.output range) s.kept.pending

-- it stands at a position
abbrev pub StandsAt : ℕ → KeptRange → Type 0
StandsAt p s = s.position ≡ Some p

-- it stands where it stood, or it is forgotten
abbrev pub StandsOrIsForgotten : KeptRange → KeptRange → Type 0
StandsOrIsForgotten old new = (new ≡ old) ⊎ (new.position ≡ None)

-- it can be read over a range at a position: it stands there, and nothing pending meets the range
pub record IsReady (p : ℕ) (range : Range) (s : KeptRange) : Type 0 where
  pub stands : StandsAt p s
  pub clear : pending_meets s range ≡ false
