use Rattle.kept_ranges.proofs.ListingStepLemmas.{relisted_are_listed}
use Rattle.kept_ranges.proofs.listing_laws.relisted_are_listed.Goals as goal

pub returns : goal.returns
returns c = relisted_are_listed
