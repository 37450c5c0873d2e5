use Rattle.kept_ranges.proofs.ListingLemmas.{listed_make_rows}
use Rattle.kept_ranges.proofs.listing_laws.listed_make_rows.Goals as goal

pub returns : goal.returns
returns c = listed_make_rows
