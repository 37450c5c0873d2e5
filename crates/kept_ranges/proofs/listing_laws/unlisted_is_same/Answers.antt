use Rattle.kept_ranges.proofs.ListingStepLemmas.{unlisted_is_same}
use Rattle.kept_ranges.proofs.listing_laws.unlisted_is_same.Goals as goal

pub returns : goal.returns
returns c = unlisted_is_same
