-- Parts that join to a range.
use Rattle.std.proofs.Common.{List, [], ◌∷◌}
use Rattle.semantics.specs.Texts.{Range, Text}
use Rattle.layering.specs.Parts.{JoinUpTo}
use Rattle.range_set.specs.Joined.{JoinFrom}

-- ranges that join from one bound to another join up to it
pub join_up_to : (low high : Text) (rs : List Range) → JoinFrom low high rs → JoinUpTo low high rs
join_up_to low high [] j = j
join_up_to low high (r ∷ rs) j = (j.0, j.1, join_up_to r.high high rs j.2)
