use Rattle.kept_ranges.proofs.ListingStepLemmas.{relisted_is_right}
use Rattle.kept_ranges.proofs.listing_laws.relisted_is_right.Goals as goal

pub returns : goal.returns
returns c = relisted_is_right
