use Rattle.semantics.proofs.MemberLemmas.{has_from_contains}
use Rattle.range_set.specs.Pieces.{parts_within}
use Rattle.range_set.proofs.PieceLemmas.{parts_lie_in_kept}
use Rattle.range_set.proofs.laws.parts_lie_in_kept.Goals as goal

pub returns : goal.returns
returns g c range held part h = parts_lie_in_kept range held part (has_from_contains (parts_within range held) part h)
